-- `leave` meets its contract.
use mathlib.Core.Path.{refl}
use Prim.Native.Nat.{◌-◌}
use Rattle.preorder_many.proofs.Going.{pred, leave_last, leave_top, leave_inner}
use Rattle.preorder_many.proofs.frames.leave.Goals as goal

pub returns-then-depth-start : goal.returns-then-depth-start
returns-then-depth-start c = leave_last c.requires.0 c.requires.1 c.args.start c.if-depth-start.true

pub returns-then-depth-eq0 : goal.returns-then-depth-eq0
returns-then-depth-eq0 c = leave_top c.requires.0 c.requires.1 c.args.start c.if-depth-start.false c.if-depth-eq0.true

pub returns : goal.returns
returns c = leave_inner c.requires.0 c.requires.1 c.args.start c.if-depth-start.false (c.args.depth - 1) (pred c.args.depth c.if-depth-eq0.false) refl (rw c.cursor_at-up.ensures at c.go_on.ensures)
