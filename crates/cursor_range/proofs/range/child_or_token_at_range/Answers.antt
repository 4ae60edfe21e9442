-- `child_or_token_at_range` meets its contract.
use Rattle.utility_types.proofs.Passing.{passed_on}
use mathlib.Core.Path.{refl, sym, ◌∙◌}
use Rattle.cursor.proofs.Telling.{told_as}
use Rattle.cursor.proofs.AskingNodes.{node_facts}
use Rattle.cursor_range.proofs.Asked.{inside_start, out_of_range, no_node, before_asked, past_asked, child_asked}
use Rattle.cursor_range.proofs.range.child_or_token_at_range.Goals as goal

pub returns-in_err-at : goal.returns-in_err-at
returns-in_err-at c = rw (passed_on _ c.from_residual.ensures.1) ((no_node c.in_err-at.ensures _ _ refl).0)

pub returns-then-is_range_before : goal.returns-then-is_range_before
returns-then-is_range_before c = out_of_range (before_asked c.in_ok-at.ensures _ _ refl (sym c.is_range_before.ensures ∙ c.if-is_range_before.true))

pub returns-then-end_of-start : goal.returns-then-end_of-start
returns-then-end_of-start c = past_asked c.in_ok-at.ensures _ _ refl (sym c.is_range_before.ensures ∙ c.if-is_range_before.false) c.end_of.ensures.0 c.if-end_of-start.true

pub child_at_range-k-requires : goal.child_at_range-k-requires
child_at_range-k-requires c = record { inner = (node_facts c.in_ok-at.ensures refl).inner; start_le_start = inside_start c.end_of.ensures.0 _ _ _ (sym c.is_range_before.ensures ∙ c.if-is_range_before.false) c.if-end_of-start.false }

pub returns : goal.returns
returns c = told_as c.child_answer.ensures (child_asked c.in_ok-at.ensures _ _ refl (sym c.is_range_before.ensures ∙ c.if-is_range_before.false) c.child_at_range-k.ensures)
