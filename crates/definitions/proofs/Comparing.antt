-- Two lists of numbers compared, place by place and part by part. Assumes nothing.
use Prim.Native.Nat.{ℕ, suc, ◌+◌, ◌≤◌, ◌<◌}
use native.Mathlib.Omega.{arith}
use native.Mathlib.Numerals.{add-one}
use mathlib.Core.Path.{◌≡◌, refl, ap, sym}
use mathlib.Core.List.{List, [], ◌∷◌, ◌++◌}
use mathlib.Core.Bool.{Bool, true, false, ◌&&◌}
use lib.ListN.{length, get_or, drop, drop_of_length-le}
use lib.Seq.{drop-cons}
use lib.Dec.{eqb}
use borrow.Author.Tests.{eq-eqb, ne_eqb}
use Rattle.std.specs.Cmp.Lexicographic.{pointwise}
use Rattle.definitions.specs.Tree.{same_numbers}
use Rattle.definitions.proofs.Laws.{same_numbers_eq, same_numbers_refl}

pub is_false : (b : Bool) → (b ≡ true → ⊥) → false ≡ b
is_false true h = absurd (h refl)
is_false false h = refl

pub unequal : (xs ys : List ℕ) → (xs ≡ ys → ⊥) → false ≡ same_numbers xs ys
unequal xs ys h = is_false _ (λ p. h (same_numbers_eq xs ys p))

pub unequal_lengths : (xs ys : List ℕ) → (length xs ≡ length ys → ⊥) → false ≡ same_numbers xs ys
unequal_lengths xs ys h = unequal xs ys (λ p. h (ap length p))

-- as `==` of slices compares them
pub same_pointwise : (xs ys : List ℕ) → pointwise eqb xs ys ≡ same_numbers xs ys
unfolding same_numbers
same_pointwise [] [] = refl
same_pointwise [] (y ∷ ys) = refl
same_pointwise (x ∷ xs) [] = refl
same_pointwise (x ∷ xs) (y ∷ ys) = ap (λ r. eqb x y && r) (same_pointwise xs ys)

-- no two of the first i numbers differ
pub record Compared (xs ys : List ℕ) (i : ℕ) : Type 0 where
  pub lengths : length xs ≡ length ys
  pub rest : same_numbers (drop i xs) (drop i ys) ≡ same_numbers xs ys

pub compared_start : {xs ys : List ℕ} → length xs ≡ length ys → Compared xs ys 0
compared_start e = record { lengths = e; rest = refl }

module _ {xs ys : List ℕ} {i : ℕ} (f : Compared xs ys i) where
  module _ (l : i < length xs) where
    step : (eqb (get_or xs i 0) (get_or ys i 0) && same_numbers (drop (suc i) xs) (drop (suc i) ys)) ≡ same_numbers xs ys
    unfolding same_numbers
    step = let m : i < length ys = omega (arith, f.lengths) in rw (drop-cons xs i 0 l, drop-cons ys i 0 m) at f.rest

    pub compared_differ : (get_or xs i 0 ≡ get_or ys i 0 → ⊥) → false ≡ same_numbers xs ys
    compared_differ h = rw (ne_eqb _ _ h) at step

    pub compared_next : get_or xs i 0 ≡ get_or ys i 0 → Compared xs ys (i + 1)
    compared_next h = record { lengths = f.lengths; rest = rw add-one (rw (eq-eqb _ _ h) at step) }

  pub compared_end : length xs ≤ i → true ≡ same_numbers xs ys
  unfolding same_numbers
  compared_end l = let m : length ys ≤ i = omega (arith, f.lengths) in rw (drop_of_length-le xs l, drop_of_length-le ys m) at f.rest

-- lists that are equal, and lists of two parts
pub same_so_far : (a b : List ℕ) → a ≡ b → true ≡ same_numbers a b
same_so_far a b e = rw e (sym (same_numbers_refl b))

pub same_append : (a b c d : List ℕ) → length a ≡ length c → same_numbers (a ++ b) (c ++ d) ≡ (same_numbers a c && same_numbers b d)
unfolding same_numbers
same_append [] b [] d e = refl
same_append [] b (y ∷ c) d e = absurd (omega arith)
same_append (x ∷ a) b [] d e = absurd (omega arith)
same_append (x ∷ a) b (y ∷ c) d e = go (same_append a b c d (omega arith)) (eqb x y)
  where
    go : same_numbers (a ++ b) (c ++ d) ≡ (same_numbers a c && same_numbers b d) → (t : Bool) → (t && same_numbers (a ++ b) (c ++ d)) ≡ ((t && same_numbers a c) && same_numbers b d)
    go h true = h
    go h false = refl
