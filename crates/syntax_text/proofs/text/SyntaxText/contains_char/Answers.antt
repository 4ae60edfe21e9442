-- `SyntaxText::contains_char` meets its contract.
use mathlib.Core.Path.{refl}
use Rattle.utility_types.proofs.Passing.{passed_on}
use Rattle.syntax_text.proofs.Finding.{contains_is, contains_told}
use Rattle.syntax_text.proofs.Testing.{refused_told}
use Rattle.syntax_text.proofs.text.SyntaxText.contains_char.Goals as goal

pub returns-in_err-at : goal.returns-in_err-at
returns-in_err-at c = rw (passed_on _ c.from_residual.ensures.1) (refused_told c.in_err-at.ensures _ _ (contains_is c.args.character) refl)

pub returns : goal.returns
returns c = contains_told c.in_ok-at.ensures refl _ _ c.find_in-found.ensures c.is_some.ensures
