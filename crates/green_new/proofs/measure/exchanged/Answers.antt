-- `exchanged` meets its contract.
use mathlib.Core.Path.{refl}
use Rattle.green_new.proofs.Exchanging.{exchange}
use Rattle.green_new.proofs.measure.exchanged.Goals as goal

pub returns : goal.returns
returns c = exchange c.requires refl refl c.max-height.ensures refl
