-- Lists by index, and lists mapped. Assumes nothing.
use Prim.Native.Nat.{ℕ, zero, suc, ◌≤◌, ◌<◌}
use native.Mathlib.Omega.{arith}
use mathlib.Core.Path.{◌≡◌, refl, sym, ap}
use mathlib.Core.List.{List, [], ◌∷◌, map, cons-ne-nil}
use mathlib.Core.Option.{none, some}
use lib.ListN.{length, take, drop, get_or, get_elem?, set}

module _ {A : Type 0} where
  pub none_there : (l : List A) (k : ℕ) → drop k l ≡ [] → get_elem? l k ≡ none
  none_there [] k h = refl
  none_there (y ∷ l) zero h = absurd (cons-ne-nil y l h)
  none_there (y ∷ l) (suc k) h = none_there l k h

  pub some_there : (l : List A) (k : ℕ) {c : A} {cs : List A} → drop k l ≡ c ∷ cs → (get_elem? l k ≡ some c) × (drop (suc k) l ≡ cs)
  some_there [] zero {c} {cs} h = absurd (cons-ne-nil c cs (sym h))
  some_there [] (suc k) {c} {cs} h = absurd (cons-ne-nil c cs (sym h))
  some_there (y ∷ l) zero h = (cc, cc)
  some_there (y ∷ l) (suc k) h = some_there l k h

pub some_at : (xs : List ℕ) (i : ℕ) → i < length xs → get_elem? xs i ≡ some (get_or xs i 0)
some_at [] i h = absurd (omega arith)
some_at (x ∷ xs) zero h = refl
some_at (x ∷ xs) (suc i) h = some_at xs i (omega arith)

pub none_at : (xs : List ℕ) (i : ℕ) → length xs ≤ i → get_elem? xs i ≡ none
none_at [] i h = refl
none_at (x ∷ xs) zero h = absurd (omega arith)
none_at (x ∷ xs) (suc i) h = none_at xs i (omega arith)

module _ {A B : Type 0} (f : A → B) where
  pub map_take : (i : ℕ) (l : List A) → map f (take i l) ≡ take i (map f l)
  map_take zero l = refl
  map_take (suc i) [] = refl
  map_take (suc i) (x ∷ l) = ap (λ (r : List B). f x ∷ r) (map_take i l)

  pub map_drop : (i : ℕ) (l : List A) → map f (drop i l) ≡ drop i (map f l)
  map_drop zero l = refl
  map_drop (suc i) [] = refl
  map_drop (suc i) (x ∷ l) = map_drop i l

  pub map_set : (l : List A) (i : ℕ) (x : A) → map f (set l i x) ≡ set (map f l) i (f x)
  map_set [] i x = refl
  map_set (y ∷ l) zero x = refl
  map_set (y ∷ l) (suc i) x = ap (λ (r : List B). f y ∷ r) (map_set l i x)
