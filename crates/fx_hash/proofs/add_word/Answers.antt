-- `fx_hash::add_word` meets its contract.
use Rattle.definitions.specs.Hash.{add_word}
use Rattle.fx_hash.proofs.add_word.Goals as goal

pub returns : goal.returns
unfolding add_word
returns c = rw (← c.rotate_left5.ensures) c.wrapping_mul.ensures
