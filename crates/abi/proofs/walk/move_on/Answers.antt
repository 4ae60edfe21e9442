-- `move_on` meets its contract.
use Rattle.abi.proofs.walk.move_on.Goals as goal

pub returns : goal.returns
returns c = rw c.coming_word.ensures
