-- `halve` meets its contract.
use native.Mathlib.Omega.{arith}
use Rattle.cursor_range.proofs.Searching.{right_half, left_half}
use Rattle.cursor_range.proofs.search.halve.Goals as goal

pub returns-then-child-x : goal.returns-then-child-x
returns-then-child-x c = (right_half c.requires.narrowed.0 _ (omega arith) (omega (arith, c.requires.narrowed.1)) (omega (arith, c.child-child.ensures.start, c.if-child-x.true)), omega (arith, c.requires.narrowed.1))

pub returns : goal.returns
returns c = (left_half c.requires.narrowed.0 _ (omega arith) (omega (arith, c.requires.narrowed.1)) (omega (arith, c.child-child.ensures.start, c.if-child-x.false)), omega (arith, c.requires.narrowed.1))
