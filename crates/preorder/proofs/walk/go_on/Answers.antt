-- `go_on` meets its contract.
use native.Mathlib.Omega.{arith}
use Rattle.preorder.proofs.Ahead.{inner_level, no_more, goes_on}
use Rattle.preorder.proofs.walk.go_on.Goals as goal

pub returns-then-child_count-k : goal.returns-then-child_count-k
returns-then-child_count-k c = no_more c.requires.0 c.next_child_from-k.ensures.0 _ c.child_count.ensures.0 c.if-child_count-k.true

pub bounds-path-depth : goal.bounds-path-depth
bounds-path-depth c = omega (arith, inner_level c.requires.0, c.requires.2)

pub returns : goal.returns
returns c = goes_on c.requires.0 c.next_child_from-k.ensures.0 _ c.child_count.ensures.0 c.if-child_count-k.false c.requires.2
