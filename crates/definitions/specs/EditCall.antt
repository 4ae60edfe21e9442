-- An edit as a call: what it makes of the entries, and what it spells, which is read off the call and the spellings before it.
use Rattle.std.specs.Prelude.{ℕ, suc, List, [], ◌∷◌, map, length, take}
use Rattle.definitions.specs.Prelude.{Result}
use Rattle.definitions.specs.Tree.{Tree}
use Rattle.definitions.specs.Entry.{Entry, Limits}
use Rattle.definitions.specs.NodeCache.{Made}
use Rattle.definitions.specs.Edit as edits
use Rattle.definitions.specs.Spelling.{Spelling, spelled_at}
use Rattle.definitions.specs.TreeEdit.{with_child, with_children, put, new_ancestors, last_place}

-- an edit, with all that it is given but the store; `replace_with`: a root, how many indexes of the lent path, that path, and the replacement
pub data Edit : Type 0 where
  replace_child insert_child : ℕ → ℕ → ℕ → Edit
  remove_child : ℕ → ℕ → Edit
  splice_children : ℕ → ℕ → ℕ → List ℕ → Edit
  replace_with : ℕ → ℕ → List ℕ → ℕ → Edit

-- what its function ensures that it makes
abbrev pub makes : Edit → Limits → List Entry → Result Made
makes (Edit.replace_child n i m) l es = edits.replace_child l es n i m
makes (Edit.insert_child n i m) l es = edits.insert_child l es n i m
makes (Edit.remove_child n i) l es = edits.remove_child l es n i
makes (Edit.splice_children n from to ms) l es = edits.splice_children l es n from to ms
makes (Edit.replace_with root depth path m) l es = edits.replaced l es root depth path m

-- what an accepted edit spells: the elements that it adds, the lowest first, and the one that it answers, with its place
pub record Spelt : Type 0 where
  pub adds : List Tree
  pub place : ℕ
  pub tree : Tree

-- a child edit spells one node, which comes behind all that was spelled
abbrev pub one : List Spelling → Tree → Spelt
one ws t = record { adds = t ∷ []; place = length ws; tree = t }

-- `replace_with`, of u, which is number m, in the root t: every ancestor is spelled, the first at place k; where the path is the root itself there is
-- none, and the replacement is the answer
abbrev pub renewal : ℕ → Tree → List ℕ → ℕ → Tree → Spelt
renewal k t p m u = let above = new_ancestors t p u in record { adds = above; place = last_place m k above; tree = put t p u }

abbrev pub spells : Edit → List Spelling → Spelt
spells (Edit.replace_child n i m) ws = one ws (with_child (spelled_at ws n) i (spelled_at ws m))
spells (Edit.insert_child n i m) ws = one ws (with_children (spelled_at ws n) i i (spelled_at ws m ∷ []))
spells (Edit.remove_child n i) ws = one ws (with_children (spelled_at ws n) i (suc i) [])
spells (Edit.splice_children n from to ms) ws = one ws (with_children (spelled_at ws n) from to (map (spelled_at ws) ms))
spells (Edit.replace_with root depth path m) ws = renewal (length ws) (spelled_at ws root) (take depth path) m (spelled_at ws m)
