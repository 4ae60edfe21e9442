-- `go_on` meets its contract.
use Rattle.preorder_many.proofs.Going.{goes_up, goes_down}
use native.Mathlib.Omega.{arith}
use Rattle.green.proofs.Known.{number_bound}
use Rattle.preorder_many.proofs.frames.go_on.Goals as goal

pub returns-then-child_count-k : goal.returns-then-child_count-k
returns-then-child_count-k c = goes_up c.requires.0 c.next_child_from-k.ensures.0 c.requires.2 c.child_count.ensures.0 c.if-child_count-k.true

pub returns : goal.returns
returns c = goes_down c.requires.0 c.next_child_from-k.ensures.0 c.requires.2 c.child_count.ensures.0 c.if-child_count-k.false c.child-child.ensures

pub overflow_cast-frames : goal.overflow_cast-frames
overflow_cast-frames c = omega (arith, number_bound _ _ c.child-child.ensures.placed.known)
