-- `over_children` meets its contract.
use Rattle.green_new.proofs.Adding.{over_all}
use Rattle.green_new.proofs.measure.over_children.Goals as goal

pub returns : goal.returns
returns c = over_all c.childless.ensures.0 c.plus_numbers.ensures.1
