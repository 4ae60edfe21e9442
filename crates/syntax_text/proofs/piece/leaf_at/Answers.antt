-- `leaf_at` meets its contract.
use native.Mathlib.Omega.{arith}
use Rattle.cursor.proofs.Positions.{inner, leaf}
use Rattle.syntax_text.proofs.Pieces.{not_first, child_there, child_has, token_there, goes_down}
use Rattle.syntax_text.proofs.piece.leaf_at.Goals as goal

pub overflow_sub-through : goal.overflow_sub-through
overflow_sub-through c = omega (arith, not_first c.loop-at.invariant.node.inner c.loop-at.invariant.has c.partition_point-through.ensures)

pub child-found-requires : goal.child-found-requires
child-found-requires c = record { inner = c.loop-at.invariant.node.inner; k_bound = child_there c.loop-at.invariant.node.inner c.loop-at.invariant.has c.partition_point-through.ensures }

pub returns-in_default : goal.returns-in_default
returns-in_default c = record { token = token_there c.loop-at.invariant.node c.child-found.ensures (child_has c.loop-at.invariant.node.inner c.loop-at.invariant.has c.partition_point-through.ensures c.child-found.ensures) (leaf c.child-found.ensures.placed c.node_or_token.ensures c.in_default.is); parent = c.loop-at.invariant.node; some = not_first c.loop-at.invariant.node.inner c.loop-at.invariant.has c.partition_point-through.ensures; child = c.child-found.ensures }

pub loop-at-preserved : goal.loop-at-preserved
loop-at-preserved c = goes_down c.loop-at.invariant.node c.child-found.ensures (child_has c.loop-at.invariant.node.inner c.loop-at.invariant.has c.partition_point-through.ensures c.child-found.ensures) (inner c.child-found.ensures.placed c.node_or_token.ensures c.in-Node.is)
