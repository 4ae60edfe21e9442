-- The tokens at an offset: which children of a node have some, and what is found below an element.
use Rattle.std.specs.Prelude.{ℕ, suc, ◌+◌, ◌≤◌, ◌<◌, ◌≡◌, List, [], ◌∷◌, ◌++◌, get_or, set}
use Rattle.std.proofs.Math.Seq.{slice}
use Rattle.definitions.specs.Tree.{text_len}
use Rattle.definitions.specs.Entry.{Entry, entry_at, tree_at}
use Rattle.definitions.specs.Element.{Element}
use Rattle.definitions.specs.Cursor.{token_at_offset}
use Rattle.green.specs.Store.{Store, entries}
use Rattle.cursor.specs.declared.position.Cursor.{Cursor}
use Rattle.cursor.specs.Position.{at, Reached, child_count}
use Rattle.cursor_range.specs.declared.tokens.Touching.{Touching}
use Rattle.cursor_range.specs.declared.tokens.Touching.TheVariants.{NoChild, Child, Children}
use Rattle.cursor_range.specs.declared.tokens.Hits.{Hits}
use Rattle.cursor_range.specs.declared.tokens.Hits.TheVariants.{Nothing, Single, Between}
use Rattle.cursor_range.specs.Search.{start_of}

-- the closed range of the element that a cursor stands at holds x
pub record InClosedRange (es : List Entry) (c : Cursor) (x : ℕ) : Type 0 where
  pub low : c.start ≤ x
  pub high : x ≤ c.start + text_len (tree_at es c.number)

-- a..b is empty, or the closed range does not hold x
abbrev pub Misses : ℕ → ℕ → ℕ → Type 0
Misses x a b = a < b → a ≤ x → x ≤ b → ⊥

-- child k is not empty and holds x; child k + 1 starts where child k ends
pub record ChildInRange (es : List Entry) (c : Cursor) (x k : ℕ) : Type 0 where
  pub within : k < child_count es c
  pub some : start_of es c k < start_of es c (suc k)
  pub low : start_of es c k ≤ x
  pub high : x ≤ start_of es c (suc k)

-- and no other child does both
pub record OnlyChildInRange (es : List Entry) (c : Cursor) (x k : ℕ) : Type 0 where
  pub holds : ChildInRange es c x k
  pub before : Misses x (start_of es c 0) (start_of es c k)
  pub after : Misses x (start_of es c (suc k)) (start_of es c (child_count es c))

-- child k ends at x and child m starts there, neither is empty, and those between are
pub record ChildrenMeeting (es : List Entry) (c : Cursor) (x k m : ℕ) : Type 0 where
  pub order : k < m
  pub within : m < child_count es c
  pub left : start_of es c k < x
  pub ends : start_of es c (suc k) ≡ x
  pub starts : start_of es c m ≡ x
  pub right : x < start_of es c (suc m)

-- the children of a node that are not empty and hold x
abbrev pub Touched : List Entry → Cursor → ℕ → Touching → Type 0
Touched es c x NoChild = text_len (tree_at es c.number) ≡ 0
Touched es c x (Child k) = OnlyChildInRange es c x k
Touched es c x (Children k m) = ChildrenMeeting es c x k m

-- the tokens that are found below an element at a path p of depth d: the indexes from it to each are those that l and r hold
abbrev pub found_at : List Entry → List ℕ → ℕ → List ℕ → List ℕ → Hits → List Element
found_at es p d l r Nothing = []
found_at es p d l r (Single a) = at es (p ++ slice d a.depth l) a ∷ []
found_at es p d l r (Between a b) = at es (p ++ slice d a.depth l) a ∷ at es (p ++ slice d b.depth r) b ∷ []

-- the indexes from depth d to each token, and no others, are written
abbrev pub AllWritten : Store → ℕ → List ℕ → List ℕ → List ℕ → List ℕ → Hits → Type 0
AllWritten s d l l' r r' Nothing = (l' ≡ l) × (r' ≡ r)
AllWritten s d l l' r r' (Single a) = Reached s d l l' a × (r' ≡ r)
AllWritten s d l l' r r' (Between a b) = Reached s d l l' a × Reached s d r r' b

-- what is found are these tokens of an element, whatever the path to it, of depth d; l and r are the lent indexes before, l' and r' after
pub record Finds (s : Store) (d : ℕ) (tokens : List ℕ → List Element) (l l' r r' : List ℕ) (h : Hits) : Type 0 where
  pub found : (p : List ℕ) → found_at (entries s) p d l' r' h ≡ tokens p
  pub written : AllWritten s d l l' r r' h

abbrev pub TokensFound : Store → Cursor → ℕ → List ℕ → List ℕ → List ℕ → List ℕ → Hits → Type 0
TokensFound s c x l l' r r' h = Finds s c.depth (λ p. token_at_offset x (at (entries s) p c)) l l' r r' h

-- child k of the node that a cursor stands at, p being the path to the node
abbrev pub child_at : List Entry → List ℕ → Cursor → ℕ → Element
child_at es p c k = record { path = p ++ (k ∷ []); start = start_of es c k; tree = tree_at es (get_or (entry_at es c.number).children k 0) }

abbrev pub ChildTokensFound : Store → Cursor → ℕ → ℕ → List ℕ → List ℕ → List ℕ → List ℕ → Hits → Type 0
ChildTokensFound s c k x l l' r r' h = Finds s c.depth (λ p. token_at_offset x (child_at (entries s) p c k)) l l' r r' h

-- the lent indexes with index k at depth d, on the way to each token that is found
abbrev pub left_put : Hits → ℕ → ℕ → List ℕ → List ℕ
left_put Nothing d k l = l
left_put (Single a) d k l = set l d k
left_put (Between a b) d k l = set l d k

abbrev pub right_put : Hits → ℕ → ℕ → List ℕ → List ℕ
right_put Nothing d k l = l
right_put (Single a) d k l = l
right_put (Between a b) d k l = set l d k

-- one token on each side
abbrev pub both_of : Hits → Hits → Hits
both_of Nothing h = Nothing
both_of (Single a) Nothing = Nothing
both_of (Single a) (Single b) = Between a b
both_of (Single a) (Between b c) = Nothing
both_of (Between a b) h = Nothing
