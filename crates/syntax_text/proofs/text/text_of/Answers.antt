-- `text_of` meets its contract.
use Rattle.utility_types.proofs.Passing.{passed_on}
use mathlib.Core.Path.{refl}
use Rattle.syntax_text.proofs.Testing.{no_text, node_text}
use Rattle.syntax_text.proofs.text.text_of.Goals as goal

pub returns-in_err-at : goal.returns-in_err-at
returns-in_err-at c = rw (passed_on _ c.from_residual.ensures.1) (no_text c.in_err-at.ensures refl)

pub returns : goal.returns
returns c = node_text c.in_ok-at.ensures refl c.end_of-node_end.ensures.0
