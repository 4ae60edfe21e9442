-- `taken` meets its contract.
use Rattle.definitions.specs.Run.{taken}
use Rattle.sheet.proofs.Codes.{unknown_takes, takes, takes_none}
use Rattle.sheet.proofs.event.taken.Goals as goal

pub returns-in_default : goal.returns-in_default
returns-in_default c = unknown_takes c.in_default.ensures.1 c.args.x

pub returns-in-Token : goal.returns-in-Token
unfolding taken
returns-in-Token c = takes c.args.x c.in-Ok.ensures c.in-Token.is

pub returns-in-StartNode : goal.returns-in-StartNode
returns-in-StartNode c = takes_none c.args.x c.in-Ok.ensures c.in-StartNode.is
