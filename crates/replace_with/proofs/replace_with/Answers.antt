-- `replace_with` meets its contract.
use mathlib.Core.Path.{refl}
use Rattle.utility_types.proofs.Passing.{passed_on}
use Rattle.edits.proofs.Editing.{room_as}
use Rattle.replace_with.proofs.Replacing.{done_judged, done_full, pushable, done_made}
use Rattle.replace_with.proofs.replace_with.Goals as goal

pub returns-then-not-has_room-clause-done : goal.returns-then-not-has_room-clause-done
returns-then-not-has_room-clause-done c = done_full c.requires _ _ _ _ _ (rw c.read-read.ensures at c.in_ok-needs.ensures.result_value) refl (room_as c.read-read.ensures c.in_ok-needs.needs.records c.in_ok-needs.needs.places c.has_room.ensures) c.if-not-has_room.true

pub renew-requires : goal.renew-requires
renew-requires c = pushable c.requires _ _ _ _ _ (rw c.read-read.ensures at c.in_ok-needs.ensures.result_value) refl (room_as c.read-read.ensures c.in_ok-needs.needs.records c.in_ok-needs.needs.places c.has_room.ensures) c.if-not-has_room.false (rw c.read-read.ensures at c.in_ok-needs.ensures.traced)

pub returns-in_err-needs-clause-done : goal.returns-in_err-needs-clause-done
returns-in_err-needs-clause-done c = rw (passed_on _ c.from_residual.ensures.1) (done_judged c.requires _ _ _ _ _ (rw c.read-read.ensures at c.in_err-needs.ensures.result_value) refl)

pub returns-clause-done : goal.returns-clause-done
returns-clause-done c = done_made c.requires _ _ _ _ _ (rw c.read-read.ensures at c.in_ok-needs.ensures.result_value) refl (room_as c.read-read.ensures c.in_ok-needs.needs.records c.in_ok-needs.needs.places c.has_room.ensures) c.if-not-has_room.false c.renew.ensures.done
