-- `token_beside` meets its contract.
use Rattle.utility_types.proofs.Passing.{passed_on}
use mathlib.Core.Path.{refl}
use Rattle.cursor.proofs.Positions.{inner, leaf}
use Rattle.cursor.proofs.Telling.{none_told, told_as}
use Rattle.cursor.proofs.Asking.{refused_asked, located_facts, refused_as}
use Rattle.cursor_token.proofs.Tokens.{node_refused, none_adjacent, beside_asked}
use Rattle.cursor_token.proofs.adjacent.token_beside.Goals as goal

pub returns-in_err-place : goal.returns-in_err-place
returns-in_err-place c = rw (passed_on _ c.from_residual.ensures.1) (refused_asked c.in_err-place.ensures refl _)

pub returns-in_default : goal.returns-in_default
returns-in_default c = refused_as (node_refused c.args.direction c.in_ok-place.ensures c.remember_for-remember.ensures refl (inner (located_facts c.in_ok-place.ensures refl).placed c.node_or_token.ensures c.in_default.is).node)

pub returns-in_default-above : goal.returns-in_default-above
returns-in_default-above c = told_as (none_told refl) (none_adjacent c.args.direction c.in_ok-place.ensures c.remember_for-remember.ensures refl (leaf (located_facts c.in_ok-place.ensures refl).placed c.node_or_token.ensures c.in-Token.is) c.in_default-above.is)

pub returns : goal.returns
returns c = told_as c.edge_beside.ensures (beside_asked c.args.direction c.in_ok-place.ensures c.remember_for-remember.ensures refl c.in-Some.is (leaf (located_facts c.in_ok-place.ensures refl).placed c.node_or_token.ensures c.in-Token.is) c.beside_index-k.ensures)
