-- `plus` meets its contract.
use mathlib.Core.Path.{refl}
use Rattle.green_new.proofs.Adding.{added, addable_more}
use Rattle.green_new.proofs.measure.plus.Goals as goal

pub returns : goal.returns
returns c = (addable_more c.requires.0.so_far c.requires.1 refl c.max-height.ensures refl refl, added refl c.stays_sharable-is_sharable.ensures c.mixed-hash.ensures c.max-height.ensures refl refl)
