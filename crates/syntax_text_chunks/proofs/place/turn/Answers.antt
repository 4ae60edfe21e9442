-- `turn` meets its contract.
use native.Mathlib.Omega.{arith}
use Rattle.cursor.proofs.Positions.{inner}
use Rattle.syntax_text_chunks.proofs.Turning.{leads_there, past_range, room_there, into_node, pass_token, pass_node, went_on, went_out}
use Rattle.syntax_text_chunks.proofs.place.turn.Goals as goal
use Rattle.syntax_text_chunks.proofs.place.turn.Goals.{in-Node+else-child_count-gt0, in_default+else-start-end_of}

pub returns-then-end-at : goal.returns-then-end-at
returns-then-end-at c = past_range c.requires.reaches _ _ c.if-end-at.true

pub bounds-place-depth : goal.bounds-place-depth
bounds-place-depth c = room_there c.requires.reaches _ c.args.end (inner c.requires.reaches.placed c.node_or_token.ensures c.in-Node.is) c.partition_point-before.ensures (omega (arith, c.if-child_count-gt0.true, c.child_count.ensures.0)) c.requires.placed.2

pub returns-then-child_count-gt0 : goal.returns-then-child_count-gt0
returns-then-child_count-gt0 c = into_node c.requires.reaches _ _ (inner c.requires.reaches.placed c.node_or_token.ensures c.in-Node.is) c.partition_point-before.ensures (omega (arith, c.if-child_count-gt0.true, c.child_count.ensures.0)) c.saturating_sub-k.ensures c.child.ensures c.requires.placed.2

pub go_down-way-requires : goal.go_down-way-requires
go_down-way-requires c = record { placed = (c.requires.placed.0, c.requires.placed.1, omega (arith, c.requires.placed.2, c.requires.reaches.placed.deep)); leads_on = leads_there c.requires.reaches c.args.start c.args.end }

pub returns-in-Some : goal.returns-in-Some
returns-in-Some c = went_on c.requires.reaches _ _ (elim c.match-node_or_token.branch [ in-Node+else-child_count-gt0 w ↦ pass_node c.requires.reaches _ _ (inner c.requires.reaches.placed c.node_or_token.ensures w.in-Node.is) w.child_count.ensures.0 w.if-child_count-gt0.false | in_default+else-start-end_of w ↦ pass_token c.requires.reaches _ _ w.end_of.ensures.0 w.if-start-end_of.false ]) c.advance-next.ensures c.in-Some.is

pub returns-in-None : goal.returns-in-None
returns-in-None c = went_out c.requires.reaches _ _ (elim c.match-node_or_token.branch [ in-Node+else-child_count-gt0 w ↦ pass_node c.requires.reaches _ _ (inner c.requires.reaches.placed c.node_or_token.ensures w.in-Node.is) w.child_count.ensures.0 w.if-child_count-gt0.false | in_default+else-start-end_of w ↦ pass_token c.requires.reaches _ _ w.end_of.ensures.0 w.if-start-end_of.false ]) c.advance-next.ensures c.in-None.is
