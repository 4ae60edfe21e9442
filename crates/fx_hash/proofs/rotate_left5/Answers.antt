-- `fx_hash::rotate_left5`: the two parts have no bit in common, so their `|` is their sum.
use Rattle.std.proofs.Common.{◌≡◌, ℕ, ◌*◌, ◌/◌, ◌%◌, ◌^◌, ◌<◌, ap, ◌∙◌, arith}
use lib.Bits.{bit_or, or_shifted}
use Rattle.definitions.specs.Hash.{rotate_left5}
use Rattle.fx_hash.proofs.rotate_left5.Goals as goal

parts : (h : ℕ) → h < 2 ^ 64 → bit_or (h * 2 ^ 5 % 2 ^ 64) (h / 2 ^ 59) ≡ rotate_left5 h
unfolding rotate_left5
parts h l =
    let low : h * 2 ^ 5 % 2 ^ 64 ≡ h % 2 ^ 59 * 2 ^ 5 = omega arith in
    rw low (or_shifted (h % 2 ^ 59) 5 (h / 2 ^ 59) (omega arith))

rotated : (h : ℕ) {m : ℕ} → h < 2 ^ 64 → m ≡ h * 32 % 2 ^ 64 → bit_or m (h / 2 ^ 59) ≡ rotate_left5 h
rotated h l e = ap (λ (x : ℕ). bit_or x (h / 2 ^ 59)) e ∙ parts h l

pub returns : goal.returns
returns c = rotated c.args.h c.ranges.h.fits c.wrapping_mul.ensures
