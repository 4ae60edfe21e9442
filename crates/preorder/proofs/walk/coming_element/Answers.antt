-- `coming_element` meets its contract.
use Rattle.utility_types.proofs.Passing.{passed_on}
use mathlib.Core.Path.{refl}
use borrow.Author.Tests.{not-true, not-false}
use Rattle.cursor.proofs.Positions.{inner, leaf}
use Rattle.cursor.proofs.Asking.{located_facts}
use Rattle.cursor_node.proofs.SiblingsAsked.{with_tokens_offered}
use Rattle.preorder.proofs.Coming.{refused_comes, token_comes, element_comes}
use Rattle.preorder.proofs.walk.coming_element.Goals as goal

pub returns-in_err-place : goal.returns-in_err-place
returns-in_err-place c = rw (passed_on _ c.from_residual.ensures.1) (refused_comes c.in_err-place.ensures c.requires _ refl)

pub returns-in_default : goal.returns-in_default
returns-in_default c = token_comes c.in_ok-place.ensures c.requires _ refl (not-true _ c.if-not-with_tokens.true-raw) (leaf (located_facts c.in_ok-place.ensures refl).placed c.node_or_token.ensures c.in_default.is)

pub returns-in-Node : goal.returns-in-Node
returns-in-Node c = element_comes c.in_ok-place.ensures c.requires _ refl (λ _. (inner (located_facts c.in_ok-place.ensures refl).placed c.node_or_token.ensures c.in-Node.is).node)

pub returns-else-not-with_tokens : goal.returns-else-not-with_tokens
returns-else-not-with_tokens c = element_comes c.in_ok-place.ensures c.requires _ refl (with_tokens_offered (not-false _ c.if-not-with_tokens.false-raw) _)
