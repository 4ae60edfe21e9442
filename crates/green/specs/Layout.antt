-- What the words of a store are, entry by entry: what a list of entries is written as.
use Rattle.std.specs.Prelude.{ℕ, ◌+◌, ◌*◌, ◌^◌, cond, length, take}
use mathlib.Core.List.{List, [], ◌∷◌, ◌++◌, flat_map}
use Rattle.definitions.specs.Tree.{Tree, token, node, Forest, nil, cons, kind, is_node, children_of, text_len, size, height}
use Rattle.definitions.specs.Hash.{hash}
use Rattle.definitions.specs.Entry.{Entry, entry_at, child_places, text_bytes, own_bytes}
use Rattle.green.specs.declared.record.Header.{Header}

-- 0 a token, 1 a node that an event made, 2 a node that an edit made
unfoldable pub tag : Entry → ℕ
tag e = cond (is_node e.tree) (cond e.event 1 2) 0

-- how many text bytes or child places an entry has of its own
unfoldable pub own_count : Entry → ℕ
own_count e = cond (is_node e.tree) (length e.children) (own_bytes e.tree)

-- where they start, if c child places and t text bytes are used before it
unfoldable pub own_first : ℕ → ℕ → Entry → ℕ
own_first c t e = cond (is_node e.tree) c t

-- a record: 8 words, the last one spare
abbrev pub record_words : ℕ → Entry → List ℕ
record_words first e =
    (kind e.tree + 2 ^ 16 * tag e) ∷ first ∷ own_count e ∷ text_len e.tree ∷ size e.tree ∷ height e.tree ∷ hash e.tree ∷ 0 ∷ []

-- the words that are written of a new record
abbrev pub header_words : Header → List ℕ
header_words h = (h.kind.0 + 65536 * h.tag) ∷ h.first ∷ h.count ∷ h.measure.len ∷ h.measure.size ∷ h.measure.height ∷ h.measure.hash ∷ 0 ∷ []

-- where the places of entry n start, and the words of its record
abbrev pub first_of : List Entry → ℕ → ℕ
first_of es n = own_first (child_places (take n es)) (text_bytes (take n es)) (entry_at es n)

abbrev pub words_of : List Entry → ℕ → List ℕ
words_of es n = record_words (first_of es n) (entry_at es n)

-- child places: each the child's number, and 2^32 times its offset in its node
unfoldable pub child_words : List ℕ → Forest → ℕ → List ℕ
child_words [] f o = []
child_words (n ∷ ns) nil o = (n + 2 ^ 32 * o) ∷ child_words ns nil o
child_words (n ∷ ns) (cons t f) o = (n + 2 ^ 32 * o) ∷ child_words ns f (o + text_len t)

-- a token's bytes
unfoldable pub own_text : Tree → List ℕ
own_text (token k b) = b
own_text (node k f) = []

-- what a list of entries is written as in each of the three, after c child places and t text bytes of earlier ones
unfoldable pub all_records : ℕ → ℕ → List Entry → List ℕ
all_records c t [] = []
all_records c t (e ∷ es) = record_words (own_first c t e) e ++ all_records (c + length e.children) (t + own_bytes e.tree) es

unfoldable pub all_children : List Entry → List ℕ
all_children es = flat_map (λ e. child_words e.children (children_of e.tree) 0) es

unfoldable pub all_text : List Entry → List ℕ
all_text es = flat_map (λ e. own_text e.tree) es
