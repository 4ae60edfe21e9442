-- `child_towards` meets its contract.
use Rattle.utility_types.proofs.Passing.{passed_on}
use mathlib.Core.Path.{refl}
use Rattle.cursor.proofs.Telling.{told_as}
use Rattle.cursor_node.proofs.ChildrenAsked.{no_children, child_asked}
use Rattle.cursor_node.proofs.children.child_towards.Goals as goal

pub returns-in_err-at : goal.returns-in_err-at
returns-in_err-at c = rw (passed_on _ c.from_residual.ensures.1) (no_children c.in_err-at.ensures c.args.direction c.args.with_tokens refl)

pub returns : goal.returns
returns c = told_as c.nearest_child.ensures (child_asked c.in_ok-at.ensures c.args.direction c.args.with_tokens refl c.child_count-count.ensures.0)
