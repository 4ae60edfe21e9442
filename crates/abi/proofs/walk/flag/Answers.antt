-- `flag` meets its contract.
use Rattle.abi.proofs.Telling.{flagged}
use Rattle.abi.proofs.walk.flag.Goals as goal

pub returns : goal.returns
returns c = flagged c.args.word
