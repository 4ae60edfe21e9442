use Rattle.definitions.proofs.Comparing.{Compared}
use Rattle.node_cache.proofs.search.same_bytes.Given as goal

abbrev pub invariant-loop-i : goal.invariant-loop-i
invariant-loop-i l = Compared l.a l.b l.i
