-- `of_token` meets its contract.
use mathlib.Core.Path.{refl}
use Rattle.definitions.specs.Hash.{hash}
use Rattle.green_new.proofs.Adding.{token_measure}
use Rattle.green_new.proofs.measure.of_token.Goals as goal

pub returns : goal.returns
returns c = token_measure _ _ refl refl refl (unfold hash in c.token_hash-hash.ensures)
