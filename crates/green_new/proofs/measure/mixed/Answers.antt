-- `mixed` meets its contract.
use Rattle.green_new.proofs.measure.mixed.Goals as goal

pub returns-then-is_sharable : goal.returns-then-is_sharable
returns-then-is_sharable c = rw c.if-is_sharable.true c.add_word.ensures
