use Prim.Native.Nat.{◌-◌}
use lib.Seq.{slice}
use Rattle.definitions.specs.Entry.{entry_at}
use Rattle.green.specs.Store.{entries}
use Rattle.green.specs.View.{view}
use Rattle.green_new.proofs.Adding.{Adding}
use Rattle.green_new.proofs.measure.plus_children.Given as goal

abbrev pub invariant-loop-i : goal.invariant-loop-i
invariant-loop-i l = Adding l.initial.over (entries (view l.store)) (slice l.from l.to (entry_at (entries (view l.store)) l.n).children) l.over (l.i - l.from)
