-- `splice_children` meets its contract.
use mathlib.Core.Path.{refl}
use Rattle.utility_types.proofs.Passing.{passed_on}
use Rattle.edits.proofs.Editing.{when_refused, when_needs, no_room, room_as, splice_ready, splice_done}
use Rattle.edits.proofs.splice_children.Goals as goal

pub returns-then-not-has_room-clause-done : goal.returns-then-not-has_room-clause-done
returns-then-not-has_room-clause-done c = no_room (when_needs c.requires c.args.n c.args.from c.args.to c.args.new.now (rw c.read-read.ensures at c.in_ok-needed.ensures) refl) (room_as c.read-read.ensures 1 c.in_ok-needed.needed.count c.has_room.ensures) c.if-not-has_room.true-raw

pub push_spliced-requires : goal.push_spliced-requires
push_spliced-requires c = splice_ready (when_needs c.requires c.args.n c.args.from c.args.to c.args.new.now (rw c.read-read.ensures at c.in_ok-needed.ensures) refl) (room_as c.read-read.ensures 1 c.in_ok-needed.needed.count c.has_room.ensures) c.if-not-has_room.false-raw

pub returns-in_err-needed-clause-done : goal.returns-in_err-needed-clause-done
returns-in_err-needed-clause-done c = rw (passed_on _ c.from_residual.ensures.1) (when_refused c.requires c.args.n c.args.from c.args.to c.args.new.now (rw c.read-read.ensures at c.in_err-needed.ensures) refl)

pub returns-clause-done : goal.returns-clause-done
returns-clause-done c = splice_done (when_needs c.requires c.args.n c.args.from c.args.to c.args.new.now (rw c.read-read.ensures at c.in_ok-needed.ensures) refl) (room_as c.read-read.ensures 1 c.in_ok-needed.needed.count c.has_room.ensures) c.if-not-has_room.false-raw c.push_spliced.ensures.pushed
