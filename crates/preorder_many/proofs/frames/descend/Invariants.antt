use Rattle.green.specs.View.{view}
use Rattle.preorder_many.proofs.Down.{Down}
use Rattle.preorder_many.proofs.frames.descend.Given as goal

abbrev pub invariant-loop-d : goal.invariant-loop-d
invariant-loop-d l = Down (view l.store) l.path.root l.path.depth l.path.indexes.now l.frames l.at l.d
