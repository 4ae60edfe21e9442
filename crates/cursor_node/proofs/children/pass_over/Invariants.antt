use Rattle.green.specs.View.{view}
use Rattle.cursor_node.proofs.Passing.{Passed}
use Rattle.cursor_node.proofs.children.pass_over.Given as goal

abbrev pub invariant-loop-before : goal.invariant-loop-before
invariant-loop-before l = Passed (view l.store) l.at l.direction l.left l.before
