use Rattle.green.specs.Store.{entries}
use Rattle.green.specs.View.{view}
use Rattle.green_new.proofs.Adding.{Adding}
use Rattle.green_new.proofs.measure.plus_numbers.Given as goal

abbrev pub invariant-loop-n : goal.invariant-loop-n
invariant-loop-n l = Adding l.initial.over (entries (view l.store)) l.numbers l.over l.n-index
