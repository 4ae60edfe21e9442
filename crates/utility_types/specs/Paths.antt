-- A path has at most 64 child indexes: what is asked at more of them is refused by 4.
use Rattle.std.specs.Prelude.{ℕ, Bool, cond, ltb}
use Rattle.definitions.specs.Prelude.{Result, refused}

abbrev pub is_too_long : ℕ → Bool
is_too_long depth = ltb 64 depth

abbrev pub up_to64 : {A : Type 0} → ℕ → Result A → Result A
up_to64 depth a = cond (is_too_long depth) (refused 4) a
