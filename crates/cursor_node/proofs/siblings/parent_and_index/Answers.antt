-- `parent_and_index` meets its contract.
use Rattle.utility_types.proofs.Passing.{passed_on}
use mathlib.Core.Path.{refl}
use borrow.Author.Tests.{not-true}
use Rattle.cursor.proofs.Positions.{inner, leaf}
use Rattle.cursor.proofs.Asking.{located_facts}
use Rattle.cursor_node.proofs.SiblingsAsked.{with_tokens_offered, refused_siblings, token_siblings, root_siblings, child_siblings}
use Rattle.cursor_node.proofs.siblings.parent_and_index.Goals as goal
use Rattle.cursor_node.proofs.siblings.parent_and_index.Goals.{then-not-with_tokens+in-Node, else-not-with_tokens}

pub returns-in_err-place : goal.returns-in_err-place
returns-in_err-place c = rw (passed_on _ c.from_residual.ensures.1) (refused_siblings c.in_err-place.ensures _ refl)

pub returns-in_default : goal.returns-in_default
returns-in_default c = token_siblings c.in_ok-place.ensures _ refl (not-true _ c.if-not-with_tokens.true-raw) (leaf (located_facts c.in_ok-place.ensures refl).placed c.node_or_token.ensures c.in_default.is)

pub returns-in_default-above : goal.returns-in_default-above
returns-in_default-above c = root_siblings c.in_ok-place.ensures _ refl (elim c.if-not-with_tokens.branch [ then-not-with_tokens+in-Node w ↦ (λ _. (inner (located_facts c.in_ok-place.ensures refl).placed w.node_or_token.ensures w.in-Node.is).node) | else-not-with_tokens w ↦ with_tokens_offered w.if-not-with_tokens.false _ ]) c.in_default-above.is

pub returns : goal.returns
returns c = child_siblings c.in_ok-place.ensures _ refl (elim c.if-not-with_tokens.branch [ then-not-with_tokens+in-Node w ↦ (λ _. (inner (located_facts c.in_ok-place.ensures refl).placed w.node_or_token.ensures w.in-Node.is).node) | else-not-with_tokens w ↦ with_tokens_offered w.if-not-with_tokens.false _ ]) c.in-Some.is refl
