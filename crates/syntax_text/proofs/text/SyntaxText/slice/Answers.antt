-- `SyntaxText::slice` meets its contract.
use mathlib.Core.Path.{refl}
use Rattle.utility_types.proofs.Passing.{passed_on}
use borrow.Author.Tests.{not-true, not-false}
use Rattle.syntax_text.proofs.Testing.{refused_told}
use Rattle.syntax_text.proofs.Slicing.{slice_is, slice_back, slice_past, slice_cut, slice_cut_end, slice_within}
use Rattle.syntax_text.proofs.text.SyntaxText.slice.Goals as goal

pub returns-then-to-from : goal.returns-then-to-from
returns-then-to-from c = slice_back c.in_ok-at.ensures refl _ _ c.if-to-from.true

pub returns-then-end-start : goal.returns-then-end-start
returns-then-end-start c = slice_past c.in_ok-at.ensures refl _ _ c.if-to-from.false c.if-end-start.true

pub returns-then-not-is_char_boundary : goal.returns-then-not-is_char_boundary
returns-then-not-is_char_boundary c = slice_cut c.in_ok-at.ensures refl _ _ c.if-to-from.false c.if-end-start.false c.is_char_boundary.ensures (not-true _ c.if-not-is_char_boundary.true-raw)

pub returns-then-not-is_char_boundary-2 : goal.returns-then-not-is_char_boundary-2
returns-then-not-is_char_boundary-2 c = slice_cut_end c.in_ok-at.ensures refl _ _ c.if-to-from.false c.if-end-start.false c.is_char_boundary.ensures (not-false _ c.if-not-is_char_boundary.false-raw) c.is_char_boundary-2.ensures (not-true _ c.if-not-is_char_boundary-2.true-raw)

pub returns-in_err-at : goal.returns-in_err-at
returns-in_err-at c = rw (passed_on _ c.from_residual.ensures.1) (refused_told c.in_err-at.ensures _ _ (slice_is c.args.from c.args.to) refl)

pub returns : goal.returns
returns c = slice_within c.in_ok-at.ensures refl _ _ c.if-to-from.false c.if-end-start.false c.is_char_boundary.ensures (not-false _ c.if-not-is_char_boundary.false-raw) c.is_char_boundary-2.ensures (not-false _ c.if-not-is_char_boundary-2.false-raw)
