-- `SyntaxText::equal` meets its contract.
use mathlib.Core.Path.{refl, ◌∙◌}
use Rattle.utility_types.proofs.Passing.{passed_on}
use Rattle.cursor.proofs.AskingNodes.{node_facts}
use Rattle.syntax_text.proofs.Testing.{a_node, by_range, within_checked}
use Rattle.syntax_text.proofs.Comparing.{left_nowhere, right_nowhere, left_astray, right_astray, lengths_differ, left_spans, right_spans, as_compared}
use Rattle.syntax_text.proofs.text.SyntaxText.equal.Goals as goal

pub returns-in_err-at : goal.returns-in_err-at
returns-in_err-at c = rw (passed_on _ c.from_residual.ensures.1) (left_nowhere _ _ _ _ _ _ _ _ _ _ _ c.in_err-at.ensures refl)

pub returns-in_err-beside : goal.returns-in_err-beside
returns-in_err-beside c = rw (passed_on _ c.from_residual-in_err-beside.ensures.1) (right_nowhere _ _ _ _ _ _ _ _ _ _ _ c.in_err-beside.ensures refl)

pub returns-then-is_astray : goal.returns-then-is_astray
returns-then-is_astray c = left_astray _ _ _ _ _ _ _ _ _ _ _ (a_node c.in_ok-at.ensures _ _ refl) (a_node c.in_ok-beside.ensures _ _ refl) (by_range c.in_ok-at.ensures _ _ refl c.is_astray.ensures ∙ c.if-is_astray.true)

pub returns-then-is_astray-2 : goal.returns-then-is_astray-2
returns-then-is_astray-2 c = right_astray _ _ _ _ _ _ _ _ _ _ _ (a_node c.in_ok-at.ensures _ _ refl) (a_node c.in_ok-beside.ensures _ _ refl) (by_range c.in_ok-beside.ensures _ _ refl c.is_astray-2.ensures ∙ c.if-is_astray-2.true)

pub overflow_sub-len : goal.overflow_sub-len
overflow_sub-len c = (within_checked c.in_ok-at.ensures _ _ refl c.is_astray.ensures c.if-is_astray.false c.args.self.node.has_room).held.ordered

pub overflow_sub-other : goal.overflow_sub-other
overflow_sub-other c = (within_checked c.in_ok-beside.ensures _ _ refl c.is_astray-2.ensures c.if-is_astray-2.false c.args.other.node.has_room).held.ordered

pub returns-then-len-other : goal.returns-then-len-other
returns-then-len-other c = lengths_differ (within_checked c.in_ok-at.ensures _ _ refl c.is_astray.ensures c.if-is_astray.false c.args.self.node.has_room) (within_checked c.in_ok-beside.ensures _ _ refl c.is_astray-2.ensures c.if-is_astray-2.false c.args.other.node.has_room) c.if-len-other.true

pub equal_in-requires : goal.equal_in-requires
equal_in-requires c = record { inner = ((node_facts c.in_ok-at.ensures refl).inner, left_spans (within_checked c.in_ok-at.ensures _ _ refl c.is_astray.ensures c.if-is_astray.false c.args.self.node.has_room) (within_checked c.in_ok-beside.ensures _ _ refl c.is_astray-2.ensures c.if-is_astray-2.false c.args.other.node.has_room) c.if-len-other.false); inner_2 = ((node_facts c.in_ok-beside.ensures refl).inner, right_spans (within_checked c.in_ok-at.ensures _ _ refl c.is_astray.ensures c.if-is_astray.false c.args.self.node.has_room) (within_checked c.in_ok-beside.ensures _ _ refl c.is_astray-2.ensures c.if-is_astray-2.false c.args.other.node.has_room) c.if-len-other.false) }

pub returns : goal.returns
returns c = as_compared (within_checked c.in_ok-at.ensures _ _ refl c.is_astray.ensures c.if-is_astray.false c.args.self.node.has_room) (within_checked c.in_ok-beside.ensures _ _ refl c.is_astray-2.ensures c.if-is_astray-2.false c.args.other.node.has_room) c.if-len-other.false c.equal_in.ensures
