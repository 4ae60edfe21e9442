use Rattle.definitions.specs.Entry.{entry_at}
use Rattle.definitions.proofs.Comparing.{Compared}
use Rattle.green.specs.Store.{entries}
use Rattle.green.specs.View.{view}
use Rattle.node_cache.proofs.search.same_children.Given as goal

abbrev pub invariant-loop-k : goal.invariant-loop-k
invariant-loop-k l = Compared l.numbers (entry_at (entries (view l.store)) l.i).children l.k
