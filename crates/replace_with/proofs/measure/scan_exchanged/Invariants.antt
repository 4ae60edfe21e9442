use Rattle.green.specs.View.{view}
use Rattle.replace_with.proofs.Measuring.{Scanning}
use Rattle.replace_with.proofs.measure.scan_exchanged.Given as goal

abbrev pub invariant-loop-k : goal.invariant-loop-k
invariant-loop-k l = Scanning (view l.store) l.n l.i l.x l.initial.over l.over l.k
