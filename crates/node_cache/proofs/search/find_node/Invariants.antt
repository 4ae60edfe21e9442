use Prim.Native.Nat.{◌-◌}
use Rattle.definitions.specs.Tree.{node}
use Rattle.definitions.specs.Entry.{trees_at}
use Rattle.definitions.proofs.Sharing.{Sought}
use Rattle.green.specs.Store.{entries}
use Rattle.green.specs.View.{view}
use Rattle.node_cache.proofs.search.find_node.Given as goal

abbrev pub invariant-loop-i : goal.invariant-loop-i
invariant-loop-i l = Sought (node l.kind.0 (trees_at (entries (view l.store)) l.numbers)) (entries (view l.store)) l.i

abbrev pub decreases-loop-i : goal.decreases-loop-i
decreases-loop-i l = l.n - l.i
