use Rattle.green.specs.Store.{entries}
use Rattle.green.specs.View.{view}
use Rattle.node_cache.specs.Search.{NoneAlike}
use Rattle.node_cache.proofs.search.next_alike.Given as goal

abbrev pub invariant-loop-i : goal.invariant-loop-i
invariant-loop-i l = NoneAlike (entries (view l.store)) l.hash l.from l.i
