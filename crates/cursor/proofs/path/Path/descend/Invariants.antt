use Rattle.green.specs.View.{view}
use Rattle.cursor.proofs.Paths.{Gone}
use Rattle.cursor.proofs.path.Path.descend.Given as goal

abbrev pub invariant-loop-index : goal.invariant-loop-index
invariant-loop-index l = Gone (view l.store) l.remember l.self.root l.self.depth l.self.indexes.now l.at l.remembered l.index-index
