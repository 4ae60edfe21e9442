-- `is_char_boundary` meets its contract.
use mathlib.Core.Path.{refl}
use Rattle.definitions.specs.SyntaxText.{is_char_boundary}
use Rattle.syntax_text.proofs.text.is_char_boundary.Goals as goal

pub returns : goal.returns
unfolding is_char_boundary
returns c = refl
