-- `element_at` meets its contract.
use Rattle.utility_types.proofs.Passing.{passed_on}
use mathlib.Core.Path.{refl}
use Rattle.cursor.proofs.Asking.{refused_asked}
use Rattle.cursor_node.proofs.ElementAsked.{here_asked}
use Rattle.cursor_node.proofs.element.element_at.Goals as goal

pub returns-in_err-place : goal.returns-in_err-place
returns-in_err-place c = rw (passed_on _ c.from_residual.ensures.1) (refused_asked c.in_err-place.ensures refl _)

pub returns : goal.returns
returns c = here_asked c.in_ok-place.ensures refl c.syntax_element.ensures
