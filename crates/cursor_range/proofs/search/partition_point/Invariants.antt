use Prim.Native.Nat.{◌-◌}
use Rattle.green.specs.Store.{entries}
use Rattle.green.specs.View.{view}
use Rattle.cursor_range.specs.Search.{Narrowed}
use Rattle.cursor_range.proofs.search.partition_point.Given as goal

abbrev pub invariant-loop-left : goal.invariant-loop-left
invariant-loop-left l = Narrowed (entries (view l.store)) l.at l.x l.left.low l.left.high

abbrev pub decreases-loop-left : goal.decreases-loop-left
decreases-loop-left l = l.left.high - l.left.low
