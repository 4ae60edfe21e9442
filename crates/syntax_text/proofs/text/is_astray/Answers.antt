-- `is_astray` meets its contract.
use mathlib.Core.Path.{sym, ◌∙◌}
use Rattle.cursor_range.proofs.Asked.{outside_if}
use Rattle.syntax_text.proofs.text.is_astray.Goals as goal

pub returns-then-is_range_before : goal.returns-then-is_range_before
returns-then-is_range_before c = sym (outside_if _ _ _ _ (sym c.if-is_range_before.true ∙ c.is_range_before.ensures))

pub returns : goal.returns
returns c = rw c.end_of.ensures.0 (sym (outside_if _ _ _ _ (sym c.if-is_range_before.false ∙ c.is_range_before.ensures)))
