-- `SyntaxText::find_char` meets its contract.
use mathlib.Core.Path.{refl}
use Rattle.utility_types.proofs.Passing.{passed_on}
use Rattle.syntax_text.proofs.Finding.{find_is, find_told}
use Rattle.syntax_text.proofs.Testing.{refused_told}
use Rattle.syntax_text.proofs.text.SyntaxText.find_char.Goals as goal

pub returns-in_err-at : goal.returns-in_err-at
returns-in_err-at c = rw (passed_on _ c.from_residual.ensures.1) (refused_told c.in_err-at.ensures _ _ (find_is c.args.character) refl)

pub returns : goal.returns
returns c = find_told c.in_ok-at.ensures refl _ _ c.find_in.ensures
