-- `descend` meets its contract.
use native.Mathlib.Omega.{arith}
use mathlib.Core.Path.{◌∙◌}
use Rattle.cursor.proofs.Positions.{inner, leaf}
use Rattle.cursor_range.proofs.Covering.{setting_out, at_token_lem, at_none, has_room_lem, one_down}
use Rattle.cursor_range.proofs.cover.descend.Goals as goal

pub descend-init : goal.descend-init
descend-init c = setting_out c.requires.placed.0 c.requires.start_le_start.0 c.requires.start_le_start.2

pub bounds-path-depth : goal.bounds-path-depth
bounds-path-depth c = has_room_lem c.descend.invariant (inner c.descend.invariant.placed c.node_or_token.ensures c.in-Node.is) c.requires.placed.1

pub descend-preserved : goal.descend-preserved
descend-preserved c = one_down c.descend.invariant (inner c.descend.invariant.placed c.node_or_token.ensures c.in-Node.is) c.choose-k.ensures (omega (arith, c.choose-k.ensures.most, c.child_count-count.ensures.0, c.if-k-count.false)) c.requires.placed.1 c.child-at.ensures

pub returns-in_default : goal.returns-in_default
returns-in_default c = at_token_lem c.descend.invariant (leaf c.descend.invariant.placed c.node_or_token.ensures c.in_default.is)

pub returns-then-k-count : goal.returns-then-k-count
returns-then-k-count c = at_none c.descend.invariant (inner c.descend.invariant.placed c.node_or_token.ensures c.in-Node.is) c.choose-k.ensures (c.if-k-count.true ∙ c.child_count-count.ensures.0)
