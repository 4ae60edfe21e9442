-- `parent` meets its contract.
use Rattle.utility_types.proofs.Passing.{passed_on}
use mathlib.Core.Path.{refl}
use Rattle.cursor.proofs.Asking.{refused_asked}
use Rattle.cursor_node.proofs.ElementAsked.{parent_none, parent_asked}
use Rattle.cursor_node.proofs.element.parent.Goals as goal

pub returns-in_err-place : goal.returns-in_err-place
returns-in_err-place c = rw (passed_on _ c.from_residual.ensures.1) (refused_asked c.in_err-place.ensures refl _)

pub returns-in_default : goal.returns-in_default
returns-in_default c = parent_none c.in_ok-place.ensures refl c.in_default.is

pub returns : goal.returns
returns c = parent_asked c.in_ok-place.ensures refl c.in-Some.is c.syntax_element.ensures
