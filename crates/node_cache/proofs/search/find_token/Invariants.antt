use Prim.Native.Nat.{◌-◌}
use Rattle.definitions.specs.Tree.{token}
use Rattle.definitions.proofs.Sharing.{Sought}
use Rattle.green.specs.Store.{entries}
use Rattle.green.specs.View.{view}
use Rattle.node_cache.proofs.search.find_token.Given as goal

abbrev pub invariant-loop-i : goal.invariant-loop-i
invariant-loop-i l = Sought (token l.kind.0 l.src) (entries (view l.store)) l.i

abbrev pub decreases-loop-i : goal.decreases-loop-i
decreases-loop-i l = l.n - l.i
