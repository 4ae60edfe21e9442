use Rattle.definitions.specs.Entry.{tree_at}
use Rattle.definitions.specs.Tree.{height}
use Rattle.green.specs.Store.{entries}
use Rattle.green.specs.View.{view}
use Rattle.syntax_text.specs.Piece.{NodeAt}
use Rattle.syntax_text.proofs.piece.leaf_at.Given as goal

abbrev pub invariant-loop-at : goal.invariant-loop-at
invariant-loop-at l = NodeAt (view l.store) l.initial.at l.x l.at

abbrev pub decreases-loop-at : goal.decreases-loop-at
decreases-loop-at l = height (tree_at (entries (view l.store)) l.at.number)
