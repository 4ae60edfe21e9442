-- `is_range_outside` meets its contract.
use mathlib.Core.Path.{sym, ◌∙◌}
use Rattle.cursor_range.proofs.Asked.{outside_if}
use Rattle.cursor_range.proofs.cover.is_range_outside.Goals as goal

pub returns-then-is_range_before : goal.returns-then-is_range_before
returns-then-is_range_before c = c.if-is_range_before.true ∙ sym (outside_if _ _ _ _ (sym c.if-is_range_before.true ∙ c.is_range_before.ensures))

pub returns-else-is_range_before : goal.returns-else-is_range_before
returns-else-is_range_before c = sym (outside_if _ _ _ _ (sym c.if-is_range_before.false ∙ c.is_range_before.ensures))
