-- `measure_of` meets its contract.
use Rattle.green.proofs.Measured.{measured}
use Rattle.green.proofs.Store.measure_of.Goals as goal

pub returns : goal.returns
returns c = measured c.requires c.text_len.ensures c.size_of.ensures c.height_of.ensures c.hash_of.ensures
