-- What a path names, as the definitions look for it. Assumes nothing.
use Prim.Native.Nat.{ℕ, ◌≤◌}
use mathlib.Core.Path.{◌≡◌, refl, sym, ap, ◌∙◌}
use mathlib.Core.List.{List}
use mathlib.Core.Bool.{Bool, true, false, cond, ◌||◌, ◌&&◌, not}
use mathlib.Core.Option.{Option, none, some, none-ne-some}
use lib.Dec.{ltb}
use lib.ListN.{length, take, get_or-eq_default}
use borrow.Author.Tests.{ltb-false, le-ltb}
use Rattle.definitions.specs.Tree.{is_node}
use Rattle.definitions.specs.Entry.{Entry, absent, tree_at}
use Rattle.definitions.specs.Refusal.{is_no_node}
use Rattle.definitions.specs.Element.{Element, root, along, element_at}
use Rattle.definitions.proofs.Laws.{false≢true}
use Rattle.definitions.proofs.Limits.{or_false}
use Rattle.cursor.specs.Path.{named}

-- a number that names nothing names no node
pub absent_token : (es : List Entry) (r : ℕ) → ltb r (length es) ≡ false → is_node (tree_at es r) ≡ false
unfolding is_node
absent_token es r h = ap (λ e. is_node e.tree) (get_or-eq_default es absent (ltb-false _ _ h))

by_tests : (o : Option Element) (a b t : Bool) → (b ≡ false → t ≡ false) → cond (a || not (b && t)) none o ≡ cond a none (cond t o none)
by_tests o true b t h = refl
by_tests o false true true h = refl
by_tests o false true false h = refl
by_tests o false false t h = rw (h refl)

module _ (es : List Entry) (r depth : ℕ) (l : List ℕ) where
  pub named_element : named es r depth l ≡ cond (ltb 64 depth) none (element_at (tree_at es r) (take depth l))
  unfolding named element_at is_no_node
  named_element = by_tests (along (take depth l) (root (tree_at es r))) (ltb 64 depth) (ltb r (length es)) (is_node (tree_at es r)) (absent_token es r)

  pub named_short : depth ≤ 64 → named es r depth l ≡ element_at (tree_at es r) (take depth l)
  named_short h = named_element ∙ rw (le-ltb 64 depth h) refl

node_there : (b t : Bool) → not (b && t) ≡ false → t ≡ true
node_there true true h = refl
node_there true false h = absurd (false≢true (sym h))
node_there false t h = absurd (false≢true (sym h))

-- a path names an element, or none
pub record Names (es : List Entry) (r depth : ℕ) (l : List ℕ) (o : Option Element) : Type 0 where
  pub is : o ≡ named es r depth l

-- an element is named only by at most 64 indexes from a root that is a node
module _ {es : List Entry} {r depth : ℕ} {l : List ℕ} {e : Element} (n : Names es r depth l (some e)) where
  tests : (b : Bool) (o : Option Element) → some e ≡ cond b none o → (b ≡ false) × (o ≡ some e)
  tests true o h = absurd (none-ne-some e (sym h))
  tests false o h = (refl, sym h)

  there : (ltb 64 depth || is_no_node es r ≡ false) × (along (take depth l) (root (tree_at es r)) ≡ some e)
  unfolding named
  there = tests (ltb 64 depth || is_no_node es r) (along (take depth l) (root (tree_at es r))) n.is

  pub short : ltb 64 depth ≡ false
  short = (or_false (ltb 64 depth) (is_no_node es r) there.0).0

  pub root_there : is_no_node es r ≡ false
  root_there = (or_false (ltb 64 depth) (is_no_node es r) there.0).1

  pub leads_along : along (take depth l) (root (tree_at es r)) ≡ some e
  leads_along = there.1

  pub root_is_node : is_node (tree_at es r) ≡ true
  unfolding is_no_node
  root_is_node = node_there (ltb r (length es)) (is_node (tree_at es r)) root_there

  pub element_there : element_at (tree_at es r) (take depth l) ≡ some e
  unfolding element_at
  element_there = rw root_is_node leads_along
