-- `token_at_edge` meets its contract.
use Rattle.utility_types.proofs.Passing.{passed_on}
use mathlib.Core.Path.{refl}
use Rattle.cursor.proofs.Telling.{told_as}
use Rattle.cursor.proofs.Asking.{refused_asked}
use Rattle.cursor_token.proofs.Tokens.{edge_asked}
use Rattle.cursor_token.proofs.edge.token_at_edge.Goals as goal

pub returns-in_err-place : goal.returns-in_err-place
returns-in_err-place c = rw (passed_on _ c.from_residual.ensures.1) (refused_asked c.in_err-place.ensures refl _)

pub returns : goal.returns
returns c = told_as c.edge_of.ensures (edge_asked c.in_ok-place.ensures refl c.args.direction)
