-- `SyntaxText::char_at` meets its contract.
use mathlib.Core.Path.{refl}
use Rattle.utility_types.proofs.Passing.{passed_on}
use Rattle.syntax_text.proofs.Finding.{char_is, char_none, char_some}
use Rattle.syntax_text.proofs.Testing.{refused_told}
use Rattle.syntax_text.proofs.text.SyntaxText.char_at.Goals as goal

pub returns-then-end-start : goal.returns-then-end-start
returns-then-end-start c = char_none c.in_ok-at.ensures refl _ c.if-end-start.true

pub returns-in_err-at : goal.returns-in_err-at
returns-in_err-at c = rw (passed_on _ c.from_residual.ensures.1) (refused_told c.in_err-at.ensures _ _ (char_is c.args.offset) refl)

pub returns : goal.returns
returns c = char_some c.in_ok-at.ensures refl _ c.if-end-start.false (c.piece-bytes.ensures _ c.leaf_at-leaf.ensures.token)
