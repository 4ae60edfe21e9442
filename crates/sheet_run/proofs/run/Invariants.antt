use Rattle.green.specs.View.{view_events, SameEventPlaces}
use Rattle.sheet_run.proofs.Going.{Going}
use Rattle.sheet_run.proofs.run.Given as goal

abbrev pub invariant-loop-i : goal.invariant-loop-i
invariant-loop-i l =
    Going (view_events l.initial.store) l.initial.yields l.sheet l.source l.n (view_events l.store) l.builder l.yields l.at l.i
    × SameEventPlaces l.initial.store l.store
