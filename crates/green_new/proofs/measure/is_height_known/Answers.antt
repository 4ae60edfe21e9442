-- `is_height_known` meets its contract.
use borrow.Author.Tests.{le-leb, lt-leb}
use Rattle.green_new.proofs.measure.is_height_known.Goals as goal

pub returns-then-own-come : goal.returns-then-own-come
returns-then-own-come c = rw (le-leb _ _ c.if-own-come.true)

pub returns-else-own-come : goal.returns-else-own-come
returns-else-own-come c = rw (lt-leb _ _ c.if-own-come.false)
