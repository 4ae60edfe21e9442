-- Results of calls: what an accepted one is, and which tests it passed. Assumes nothing.
use Prim.Native.Nat.{ℕ}
use native.Mathlib.Omega.{arith}
use mathlib.Core.Path.{◌≡◌, refl, sym}
use mathlib.Core.Bool.{Bool, true, false, cond}
use Rattle.definitions.specs.Prelude.{Result, ok, refused, and_then}

module _ {A : Type 0} where
  pub ok_injective : {x y : A} → ok x ≡ ok y → x ≡ y
  ok_injective e = cc

  pub refused_injective : {i j : ℕ} → ◌≡◌ {A = Result A} (refused i) (refused j) → i ≡ j
  refused_injective e = cc

  pub ok≢refused : {x : A} {n : ℕ} → ok x ≡ refused n → ⊥
  ok≢refused e = let z : ◌≡◌ {A = ℕ} 0 1 = cc in omega arith

  -- what is accepted passed each test
  pub test_passed : (b : Bool) (n : ℕ) (r : Result A) (a : A) → cond b (refused n) r ≡ ok a → b ≡ false
  test_passed true n r a e = absurd (ok≢refused (sym e))
  test_passed false n r a e = refl

  pub cond_ok : (b : Bool) (n : ℕ) (r : Result A) (a : A) → cond b (refused n) r ≡ ok a → r ≡ ok a
  cond_ok true n r a e = absurd (ok≢refused (sym e))
  cond_ok false n r a e = e

  pub and_then_ok : {B : Type 0} (r : Result A) (f : A → Result B) (b : B) → and_then r f ≡ ok b → (a : A) × (r ≡ ok a) × (f a ≡ ok b)
  unfolding and_then
  and_then_ok (ok a) f b e = (a, refl, e)
  and_then_ok {B} (refused n) f b e = absurd (let z : ◌≡◌ {A = ℕ} 0 1 = cc in omega arith)

  pub either_ok : {a : A} {P : Type 0} (b : Bool) (x y : Result A) → (x ≡ ok a → P) → (y ≡ ok a → P) → cond b x y ≡ ok a → P
  either_ok true x y f g e = f e
  either_ok false x y f g e = g e
