-- The codes of a sheet's events.
use Rattle.std.specs.Prelude.{ℕ, ◌≡◌, ◌≢◌}
use Rattle.std.specs.declared.result.Result.{Result}
use Rattle.std.specs.declared.result.Result.TheVariants.{Ok, Err}
use Rattle.sheet.specs.declared.code.Code.{Code}
use Rattle.sheet.specs.declared.code.Code.TheVariants.{Token, StartNode, FinishNode, Checkpoint, StartNodeAt}
use Rattle.sheet.specs.declared.code.NoEvent.{NoEvent}

abbrev pub code_of : Code → ℕ
code_of Token = 1
code_of StartNode = 2
code_of FinishNode = 3
code_of Checkpoint = 4
code_of StartNodeAt = 5

-- what a code is read as: the event of that code, or the code itself if it is none's
abbrev pub Codes : ℕ → Result Code NoEvent → Type 0
Codes n (Ok code) = code_of code ≡ n
Codes n (Err e) = (e.0 ≡ n) × ((code : Code) → code_of code ≢ n)
