-- `nearest_child` meets its contract.
use native.Mathlib.Omega.{arith}
use Rattle.cursor_node.proofs.Passing.{no_nearest, nearest_told}
use Rattle.cursor_node.proofs.children.nearest_child.Goals as goal

pub returns-then-k-eq0 : goal.returns-then-k-eq0
returns-then-k-eq0 c = no_nearest _ c.pass_over-k.ensures.0 c.if-k-eq0.true

pub returns : goal.returns
returns c = nearest_told _ c.pass_over-k.ensures.0 c.requires.inner.0 c.if-k-eq0.false (omega (arith, c.pass_over-k.ensures.1, c.requires.left_bound)) c.child_count-count.ensures.0 c.nearest_index-i.ensures.0 c.child_answer.ensures
