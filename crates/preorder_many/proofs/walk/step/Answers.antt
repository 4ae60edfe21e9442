-- `step` meets its contract.
use Rattle.preorder_many.proofs.Framing.{placed_at}
use Rattle.preorder_many.proofs.Run.{left_step, entered_step}
use native.Mathlib.Omega.{arith}
use Rattle.preorder_many.proofs.walk.step.Goals as goal

pub syntax_element-element-requires : goal.syntax_element-element-requires
syntax_element-element-requires c = rw c.cursor_at-at.ensures (placed_at c.requires.0.framed c.args.depth (omega arith))

pub returns-then-leaves : goal.returns-then-leaves
returns-then-leaves c = left_step c.requires.0 c.requires.1 c.requires.2 (rw c.cursor_at-at.ensures at c.syntax_element-element.ensures) c.index_at-index.ensures c.is_leave-leaves.ensures c.put.ensures c.if-leaves.true c.leave.ensures

pub returns : goal.returns
returns c = entered_step c.requires.0 c.requires.1 c.requires.2 (rw c.cursor_at-at.ensures at c.syntax_element-element.ensures) c.index_at-index.ensures c.is_leave-leaves.ensures c.put.ensures c.if-leaves.false (c.enter.ensures c.args.start)
