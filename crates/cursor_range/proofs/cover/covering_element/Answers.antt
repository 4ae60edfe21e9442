-- `covering_element` meets its contract.
use Rattle.utility_types.proofs.Passing.{passed_on}
use mathlib.Core.Path.{refl, sym, ◌∙◌}
use Rattle.cursor.proofs.AskingNodes.{node_facts}
use Rattle.cursor_range.proofs.Asked.{inside_both, out_of_range, no_node, outside_asked, covering_asked}
use borrow.Author.Rules.{rules}
use Rattle.cursor_range.proofs.cover.covering_element.Goals as goal

pub returns-in_err-at : goal.returns-in_err-at
returns-in_err-at c = rw (passed_on _ c.from_residual.ensures.1) ((no_node c.in_err-at.ensures _ _ refl).1)

pub returns-then-is_range_outside : goal.returns-then-is_range_outside
returns-then-is_range_outside c = out_of_range (outside_asked c.in_ok-at.ensures _ _ refl c.end_of-node_end.ensures.0 (sym c.is_range_outside.ensures ∙ c.if-is_range_outside.true))

pub descend-covering-requires : goal.descend-covering-requires
descend-covering-requires c = record { placed = ((node_facts c.in_ok-at.ensures refl).inner.placed, search rules); start_le_start = inside_both c.end_of-node_end.ensures.0 _ _ _ (sym c.is_range_outside.ensures ∙ c.if-is_range_outside.false) }

pub returns : goal.returns
returns c = covering_asked c.in_ok-at.ensures _ _ refl c.end_of-node_end.ensures.0 (sym c.is_range_outside.ensures ∙ c.if-is_range_outside.false) c.descend-covering.ensures c.syntax_element.ensures
