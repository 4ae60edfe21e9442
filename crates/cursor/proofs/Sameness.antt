-- Whether two paths name one element. Assumes nothing.
use Prim.Native.Nat.{ℕ}
use mathlib.Core.Path.{◌≡◌, refl, sym}
use mathlib.Core.List.{List}
use mathlib.Core.Bool.{Bool, true, false, cond, ◌||◌, ◌&&◌}
use mathlib.Core.Option.{Option, none, some}
use lib.Dec.{ltb, eqb}
use lib.ListN.{take}
use borrow.Author.Tests.{eq-eqb, ne_eqb}
use Rattle.definitions.specs.Prelude.{Result, ok, refused, and_then, option}
use Rattle.definitions.specs.Tree.{is_node}
use Rattle.definitions.specs.Entry.{tree_at, number_at}
use Rattle.definitions.specs.Refusal.{is_no_node}
use Rattle.definitions.specs.Element.{Element, root, along, element_at}
use Rattle.definitions.specs.Identity.{Occurrence, occurrence, same_element}
use Rattle.utility_types.specs.Numbers.{refusal_number, OrRefusal}
use Rattle.utility_types.specs.declared.Refusal.{Refusal}
use Rattle.green.specs.Store.{Store, entries}
use Rattle.cursor.specs.declared.path.Remember.{Remember}
use Rattle.cursor.specs.declared.path.Place.{Place}
use Rattle.cursor.specs.Path.{named, Leads}
use Rattle.cursor.proofs.Named.{short, root_there, leads_along, root_is_node}
use Rattle.cursor.proofs.Asking.{located_facts, refused_named, refused_4, located_named}
use Rattle.cursor.specs.Same.{same_asked}
use Rattle.std.specs.Prelude.{Ok, Err}

-- what is not named has no occurrence
module _ (g : ℕ → Element → Result Occurrence) where
  nowhere : (a b t : Bool) (o : Option Element) (m : Option ℕ) → none ≡ cond (a || b) none o
      → cond a (refused 4) (cond b (refused 4) (option (refused 4) (λ n. option (refused 4) (g n) (cond t o none)) m)) ≡ refused 4
  unfolding option
  nowhere true b t o m e = refl
  nowhere false true t o m e = refl
  nowhere false false true o none e = refl
  nowhere false false true o (some n) e = rw (← e) refl
  nowhere false false false o none e = refl
  nowhere false false false o (some n) e = refl

module _ {s : Store} {remember : Remember} {r depth : ℕ} {l : List ℕ} {x : OrRefusal Place} (d : Leads s remember r depth l x) where
  absent : {why : Refusal} → x ≡ Err why → cond (ltb 64 depth) (refused 4) (occurrence (entries s) r (take depth l)) ≡ refused 4
  unfolding occurrence element_at named
  absent h =
      nowhere (λ n e. ok (record { number = n; start = e.start })) (ltb 64 depth) (is_no_node (entries s) r) (is_node (tree_at (entries s) r))
      (along (take depth l) (root (tree_at (entries s) r))) (number_at (entries s) r (take depth l)) (refused_named d h).is

  module _ {p : Place} (h : x ≡ Ok p) where
    present : occurrence (entries s) r (take depth l) ≡ ok (record { number = p.at.number; start = p.at.start })
    unfolding occurrence element_at option
    present = let n = located_named d h in rw (root_there n, (located_facts d h).number, root_is_node n, leads_along n) refl

-- two answers, the first of them refused, or only the second
first_refused : (k : Occurrence → Result Bool) (a b : Bool) (x : Result Occurrence) → cond a (refused 4) x ≡ refused 4 → cond (a || b) (refused 4) (and_then x k) ≡ refused 4
unfolding and_then
first_refused k true b x e = refl
first_refused k false true x e = refl
first_refused k false false x e = rw e refl

second_refused : (k : Occurrence → Result Bool) (b : Bool) (y : Result Occurrence) → cond b (refused 4) y ≡ refused 4 → cond b (refused 4) (and_then y k) ≡ refused 4
unfolding and_then
second_refused k true y e = refl
second_refused k false y e = rw e refl

module _ {s : Store} {remember : Remember} {r d : ℕ} {l : List ℕ} {x : OrRefusal Place} (f : Leads s remember r d l x) where
  pub first_absent : {why : Refusal} → x ≡ Err why → (r' d' : ℕ) (l' : List ℕ) → refused (refusal_number why) ≡ same_asked (entries s) r d l r' d' l'
  unfolding same_asked same_element
  first_absent h r' d' l' = rw (refused_4 f h) (sym (first_refused _ (ltb 64 d) (ltb 64 d') (occurrence (entries s) r (take d l)) (absent f h)))

  module _ {remember' : Remember} {r' d' : ℕ} {l' : List ℕ} {x' : OrRefusal Place} (f' : Leads s remember' r' d' l' x') {p : Place} (h : x ≡ Ok p) where
    pub second_absent : {why : Refusal} → x' ≡ Err why → refused (refusal_number why) ≡ same_asked (entries s) r d l r' d' l'
    unfolding same_asked same_element and_then
    second_absent h' = rw (refused_4 f' h') (sym (rw (short (located_named f h), present f h) (second_refused _ (ltb 64 d') (occurrence (entries s) r' (take d' l')) (absent f' h'))))

    module _ {p' : Place} (h' : x' ≡ Ok p') where
      compared : ok (eqb p.at.number p'.at.number && eqb p.at.start p'.at.start) ≡ same_asked (entries s) r d l r' d' l'
      unfolding same_asked same_element and_then
      compared = rw (short (located_named f h), present f h, short (located_named f' h'), present f' h') refl

      pub same_number : p.at.number ≡ p'.at.number → ok (eqb p.at.start p'.at.start) ≡ same_asked (entries s) r d l r' d' l'
      same_number e = rw (eq-eqb p.at.number p'.at.number e) at compared

      pub other_number : (p.at.number ≡ p'.at.number → ⊥) → ok (eqb p.at.number p'.at.number) ≡ same_asked (entries s) r d l r' d' l'
      other_number e = let z = ne_eqb p.at.number p'.at.number e in rw z (rw z at compared)
