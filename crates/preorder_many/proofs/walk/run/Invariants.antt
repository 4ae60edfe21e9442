use Prim.Native.Nat.{◌*◌}
use lib.ListN.{length}
use Rattle.green.specs.View.{view}
use Rattle.preorder_many.specs.Many.{state}
use Rattle.preorder_many.proofs.Run.{Going}
use Rattle.preorder_many.proofs.walk.run.Given as goal

abbrev pub invariant-loop-count : goal.invariant-loop-count
invariant-loop-count l = Going (view l.store) l.root l.with_tokens l.start (state l.initial.path l.depth l.initial.then) l.initial.events (length l.initial.events) l.path l.frames l.level l.then l.events l.count (l.count * 7)
