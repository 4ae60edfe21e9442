-- `is_other_kind` meets its contract.
use mathlib.Core.Path.{sym, ◌∙◌}
use borrow.Author.Tests.{not-true, not-false}
use Rattle.std.proofs.lemmas.Bool.{eqb-true, eqb-false}
use Rattle.replace_with.proofs.Judging.{kinds_differ, for_node, for_token}
use Rattle.replace_with.proofs.decide.is_other_kind.Goals as goal

pub returns-then-ne : goal.returns-then-ne
returns-then-ne c = kinds_differ _ _ c.kind_of-old.ensures c.kind_of-new.ensures (eqb-false _ _ (not-true _ (sym c.ne.ensures ∙ c.if-ne.true)))

pub returns-then-is_node : goal.returns-then-is_node
returns-then-is_node c = for_node _ _ c.kind_of-old.ensures c.kind_of-new.ensures (eqb-true _ _ (not-false _ (sym c.ne.ensures ∙ c.if-ne.false))) c.is_node-is_node.ensures c.is_node.ensures c.if-is_node.true

pub returns : goal.returns
returns c = for_token _ _ c.kind_of-old.ensures c.kind_of-new.ensures (eqb-true _ _ (not-false _ (sym c.ne.ensures ∙ c.if-ne.false))) c.is_node-is_node.ensures c.is_node.ensures c.if-is_node.false
