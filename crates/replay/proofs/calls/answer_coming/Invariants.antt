use Rattle.std.proofs.Common.{◌≡◌, ◌≤◌, ◌-◌, ◌*◌}
use Rattle.green.specs.Valid.{Valid}
use Rattle.green.specs.View.{view_events, SameEventPlaces}
use Rattle.replay.proofs.calls.answer_coming.Given as goal

abbrev pub invariant-loop-answered : goal.invariant-loop-answered
invariant-loop-answered l = Valid (view_events l.store) × SameEventPlaces l.initial.store l.store × (l.turns.next ≡ l.initial.turns.next) × (l.came ≤ 4 * l.head.words)

abbrev pub decreases-loop-answered : goal.decreases-loop-answered
decreases-loop-answered l = 4 * l.head.words - l.came
