-- `SyntaxText::len` meets its contract.
use mathlib.Core.Path.{refl}
use Rattle.utility_types.proofs.Passing.{passed_on}
use Rattle.syntax_text.proofs.Testing.{refused_told, answered, len_is}
use Rattle.syntax_text.proofs.text.SyntaxText.len.Goals as goal

pub returns-in_err-check : goal.returns-in_err-check
returns-in_err-check c = rw (passed_on _ c.from_residual.ensures.1) (refused_told c.in_err-check.ensures _ _ len_is refl)

pub returns : goal.returns
returns c = answered c.in_ok-check.ensures _ _ len_is refl
