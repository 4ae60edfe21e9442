use Rattle.std.proofs.Common.{[]}
use Rattle.green.specs.View.{view_events, SameEventPlaces}
use Rattle.sheet_run.proofs.Going.{Going}
use Rattle.edit_replies.proofs.runs.run_each.Given as goal

abbrev pub invariant-loop-i : goal.invariant-loop-i
invariant-loop-i l =
    Going (view_events l.initial.store) [] l.sheet l.source l.n (view_events l.store) l.builder [] l.at l.i
    × SameEventPlaces l.initial.store l.store
