-- `is_outside` meets its contract.
use borrow.Author.Tests.{lt-ltb, le-ltb}
use Rattle.definitions.specs.Refusal.{is_outside}
use Rattle.cursor_range.proofs.offset.is_outside.Goals as goal

pub returns-then-x-from : goal.returns-then-x-from
unfolding is_outside
returns-then-x-from c = rw (lt-ltb _ _ c.if-x-from.true)

pub returns : goal.returns
unfolding is_outside
returns c = rw (le-ltb _ _ c.if-x-from.false)
