-- How the run of a sheet ends.
use Rattle.std.specs.Prelude.{ℕ, Result}
use Rattle.utility_types.specs.declared.Refusal.{Refusal}

-- with the root, or with a refusal and the ordinal of what was refused
abbrev pub Ended : Type 0
Ended = Result ℕ (Refusal × ℕ)
