-- What the exit of a `?` answers: the refusal of the call before it. Assumes nothing.
use mathlib.Core.Path.{◌≡◌, ap}
use Rattle.std.specs.Prelude.{Ok, Err, IsErrAnd}
use Rattle.utility_types.specs.declared.Refusal.{Refusal}
use Rattle.utility_types.specs.Numbers.{OrRefusal}

pub passed_on : {A : Type 0} {why : Refusal} (r : OrRefusal A) → IsErrAnd r (λ x. x ≡ why) → r ≡ Err why
passed_on (Ok x) h = absurd h
passed_on (Err x) h = ap Err h
