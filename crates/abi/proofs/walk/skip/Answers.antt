-- `skip` meets its contract.
use Rattle.abi.proofs.walk.skip.Goals as goal

pub returns-in-Ok : goal.returns-in-Ok
returns-in-Ok c = rw c.in-Ok.is c.move_on.ensures
