use Rattle.std.proofs.Common.{◌≤◌, ◌-◌}
use Rattle.green.specs.View.{view_events, SameEventPlaces}
use Rattle.green.specs.Valid.{Valid}
use Rattle.replay.proofs.calls.answer_all.Given as goal

abbrev pub invariant-loop-head : goal.invariant-loop-head
invariant-loop-head l = Valid (view_events l.store) × SameEventPlaces l.initial.store l.store × (l.initial.turns.next.byte ≤ l.turns.next.byte)

abbrev pub decreases-loop-head : goal.decreases-loop-head
decreases-loop-head l = 1000000 - l.turns.next.byte
