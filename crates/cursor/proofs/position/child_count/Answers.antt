-- `child_count` meets its contract.
use Rattle.cursor.proofs.Positions.{count_is}
use Rattle.cursor.proofs.position.child_count.Goals as goal

pub returns : goal.returns
returns c = count_is c.requires c.count_of.ensures
