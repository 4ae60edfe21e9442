-- Which measures are remembered from the decision to the pushes.
use Rattle.std.specs.Prelude.{ℕ, ◌+◌, ◌-◌, ◌<◌, List, length, get_or}
use Rattle.definitions.specs.Entry.{Entry, entry_at}
use Rattle.green.specs.Measure.{MeasureOf}
use Rattle.replace_with.specs.Ancestors.{added}
use Rattle.replace_with.specs.declared.ancestors.Ancestor.{Ancestor}

-- before anything is
abbrev pub unknown : Ancestor
unknown = record { number = 0; measure = record { len = 0; size = 0; height = 0; hash = 0 } }

-- what is remembered at depth d of a path
abbrev pub ancestor_at : List Ancestor → ℕ → Ancestor
ancestor_at xs d = get_or xs d unknown

-- there stands the measure of what the ancestor at depth d is made anew as; the lowest of them is the first entry that is added
pub record Remembered (es : List Entry) (root : ℕ) (p : List ℕ) (m : ℕ) (xs : List Ancestor) : Type 0 where
  pub each : (d : ℕ) → d < length p → MeasureOf (entry_at (added es root p m) (length p - (d + 1))).tree (ancestor_at xs d).measure
