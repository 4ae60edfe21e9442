-- `childless` meets its contract.
use Rattle.green_new.proofs.Adding.{over_none, addable_none}
use Rattle.green_new.proofs.measure.childless.Goals as goal

pub returns : goal.returns
returns c = (over_none c.kind_hash-hash.ensures, addable_none)
