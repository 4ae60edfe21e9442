-- `is_range_before` meets its contract.
use borrow.Author.Tests.{lt-ltb, le-ltb}
use Rattle.definitions.specs.Refusal.{is_range_before}
use Rattle.cursor_range.proofs.range.is_range_before.Goals as goal

pub returns-then-end-start : goal.returns-then-end-start
unfolding is_range_before
returns-then-end-start c = rw (lt-ltb _ _ c.if-end-start.true)

pub returns-else-end-start : goal.returns-else-end-start
unfolding is_range_before
returns-else-end-start c = rw (le-ltb _ _ c.if-end-start.false)
