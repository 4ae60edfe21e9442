-- `look_near` meets its contract.
use native.Mathlib.Omega.{arith}
use Rattle.cursor.proofs.Positions.{inner, leaf}
use Rattle.syntax_text.proofs.Pieces.{last_of_lem, set_out, has_between, token_there, goes_down}
use Rattle.syntax_text.proofs.piece.look_near.Goals as goal

pub returns-in_default : goal.returns-in_default
returns-in_default c = goes_down c.requires.node_in c.child-found.ensures (has_between c.if-found-x.true c.end_of.ensures.0 c.if-x-end_of.true) (inner c.child-found.ensures.placed c.node_or_token.ensures c.in_default.is)

pub returns-then-x-end_of : goal.returns-then-x-end_of
returns-then-x-end_of c = record { token = token_there c.requires.node_in c.child-found.ensures (has_between c.if-found-x.true c.end_of.ensures.0 c.if-x-end_of.true) (leaf c.child-found.ensures.placed c.node_or_token.ensures c.in-Token.is); parent = c.requires.node_in; some = omega arith; child = last_of_lem c.child-found.ensures }

pub returns-else-x-end_of : goal.returns-else-x-end_of
returns-else-x-end_of c = set_out c.requires.inner.0 c.requires.inner.1

pub returns-else-found-x : goal.returns-else-found-x
returns-else-found-x c = set_out c.requires.inner.0 c.requires.inner.1
