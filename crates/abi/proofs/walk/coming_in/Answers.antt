-- `coming_in` meets its contract.
use Rattle.abi.proofs.Telling.{missed, over}
use Rattle.abi.proofs.walk.coming_in.Goals as goal

pub returns-in_default : goal.returns-in_default
returns-in_default c = over _ (missed 3 _ c.in_default.in_default-own.rest)
