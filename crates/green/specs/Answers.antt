-- What this crate's answers say: document 01's numbers, values and refusals.
use Rattle.std.specs.Prelude.{ℕ, suc, List, Bool, cond, length, get_or}
use Rattle.definitions.specs.Prelude.{Result, ok, refused}
use Rattle.definitions.specs.Tree.{Tree, kind, is_node, children_of, count, text_len, size, height, offset_of}
use Rattle.definitions.specs.Hash.{hash}
use Rattle.definitions.specs.Entry.{Entry, entry_at, tree_at}
use Rattle.definitions.specs.Refusal.{is_absent, is_no_node, is_range_outside}
use Rattle.utility_types.specs.Numbers.{OrRefusal, told, number_of, is_node_of}
use Rattle.green.specs.declared.element.Summary.{Summary}
use Rattle.green.specs.declared.node.Child.{Child}
use Rattle.utility_types.specs.declared.NodeOrToken.{NodeOrToken}

-- an element as a number names it
pub record Named : Type 0 where
  pub number : ℕ
  pub is_node : Bool

abbrev pub looked_up : OrRefusal NodeOrToken → Result Named
looked_up x = told (λ (y : NodeOrToken). record { number = number_of y; is_node = is_node_of y }) x

abbrev pub element_of : List Entry → ℕ → Result Named
element_of es n = cond (is_absent es n) (refused 4) (ok (record { number = n; is_node = is_node (tree_at es n) }))

-- what a record keeps of an element
pub record RecordFields : Type 0 where
  pub is_node : Bool
  pub kind : ℕ
  pub len : ℕ
  pub size : ℕ
  pub height : ℕ
  pub hash : ℕ
  pub children : ℕ

abbrev pub record_fields : Tree → RecordFields
record_fields t = record { is_node = is_node t; kind = kind t; len = text_len t; size = size t; height = height t; hash = hash t; children = count (children_of t) }

abbrev pub summary_of : Summary → RecordFields
summary_of x = record { is_node = x.is_node; kind = x.kind.0; len = x.len; size = x.size; height = x.height; hash = x.hash; children = x.children }

abbrev pub summarized : OrRefusal Summary → Result RecordFields
summarized x = told summary_of x

abbrev pub fields_of : List Entry → ℕ → Result RecordFields
fields_of es n = cond (is_absent es n) (refused 4) (ok (record_fields (tree_at es n)))

-- a child: its number, and its offset in its node
pub record Place : Type 0 where
  pub number : ℕ
  pub offset : ℕ

abbrev pub place_of : List Entry → ℕ → ℕ → Place
place_of es n k = record { number = get_or (entry_at es n).children k 0; offset = offset_of (children_of (tree_at es n)) k }

abbrev pub place : Child → Place
place c = record { number = c.number; offset = c.offset }

abbrev pub placed : OrRefusal Child → Result Place
placed x = told place x

abbrev pub child_of : List Entry → ℕ → ℕ → Result Place
child_of es n k =
    cond (is_no_node es n) (refused 4)
    (cond (is_range_outside 0 (length (entry_at es n).children) k (suc k)) (refused 5) (ok (place_of es n k)))
