-- `begin` meets its contract.
use Rattle.abi.proofs.walk.begin.Goals as goal

pub returns-in-Ok : goal.returns-in-Ok
returns-in-Ok c = rw (c.in-Ok.is, c.coming_word.ensures, c.bit.ensures)
