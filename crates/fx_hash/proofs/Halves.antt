-- A product modulo 2 ^ 64 from the halves of its factors. Assumes nothing.
use Rattle.std.proofs.Common.{◌≡◌, ℕ, ◌+◌, ◌*◌, ◌/◌, ◌%◌, ◌^◌, ◌<◌, sym, ap, ◌∙◌, ap₂, lt_of_le_of_lt, le_of_lt, mul_assoc, add-mul, mul-le-mul_left, div-add-mod', mul-add, mul_right_comm, arith, shl_lt}
use native.Mathlib.Nat.{mul-mul-mul_comm}

-- the product of two halves fits
pub below : {a b : ℕ} → a < 2 ^ 32 → b < 2 ^ 32 → a * b < 2 ^ 64
below {a} ha hb = lt_of_le_of_lt (mul-le-mul_left a (le_of_lt hb)) (shl_lt 32 32 ha)

halves : (x y u v : ℕ) → (x * 2 ^ 32 + y) * (u * 2 ^ 32 + v) ≡ x * u * 2 ^ 64 + (x * v + y * u) * 2 ^ 32 + y * v
halves x y u v =
    rw (add-mul (x * 2 ^ 32) y, mul-add (x * 2 ^ 32), mul-add y)
    (omega (arith, mul-mul-mul_comm x (2 ^ 32) u (2 ^ 32), mul_right_comm x (2 ^ 32) v, mul_assoc y u (2 ^ 32)))

-- high goes out, and of mid what is past its lower half
modular : (high mid low : ℕ) → (low + mid % 2 ^ 64 % 2 ^ 32 * 2 ^ 32) % 2 ^ 64 ≡ (high * 2 ^ 64 + mid * 2 ^ 32 + low) % 2 ^ 64
modular high mid low = omega arith

pub by_halves : (a b : ℕ)
    → (a % 2 ^ 32 * (b % 2 ^ 32) + (a / 2 ^ 32 * (b % 2 ^ 32) + a % 2 ^ 32 * (b / 2 ^ 32)) % 2 ^ 64 % 2 ^ 32 * 2 ^ 32) % 2 ^ 64 ≡ (a * b) % 2 ^ 64
by_halves a b =
    modular (a / 2 ^ 32 * (b / 2 ^ 32)) _ _
    ∙ ap (λ (n : ℕ). n % 2 ^ 64)
    (sym (halves (a / 2 ^ 32) (a % 2 ^ 32) (b / 2 ^ 32) (b % 2 ^ 32)) ∙ ap₂ ◌*◌ (div-add-mod' a (2 ^ 32)) (div-add-mod' b (2 ^ 32)))
