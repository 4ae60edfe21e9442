-- `token_at_offset` meets its contract.
use Rattle.utility_types.proofs.Passing.{passed_on}
use mathlib.Core.Path.{refl}
use Rattle.std.proofs.Common.{◌∙◌}
use Rattle.cursor.proofs.AskingNodes.{node_facts}
use Rattle.cursor_range.proofs.TokensTold.{no_node_told, outside_told, offset_held, tokens_told_lem}
use borrow.Author.Rules.{rules}
use Rattle.cursor_range.proofs.offset.token_at_offset.Goals as goal

pub returns-in_err-at : goal.returns-in_err-at
returns-in_err-at c = rw (passed_on _ c.from_residual.ensures.1) (no_node_told c.in_err-at.ensures _ refl)

pub returns-then-is_outside : goal.returns-then-is_outside
returns-then-is_outside c = outside_told c.in_ok-at.ensures _ refl c.text_len-len.ensures.0 c.is_outside.ensures c.if-is_outside.true

pub node_tokens-found-requires : goal.node_tokens-found-requires
node_tokens-found-requires c = record { inner = ((node_facts c.in_ok-at.ensures refl).inner, offset_held c.in_ok-at.ensures _ refl c.text_len-len.ensures.0 c.is_outside.ensures c.if-is_outside.false); in_bounds = search rules }

pub returns : goal.returns
returns c = tokens_told_lem c.in_ok-at.ensures _ refl c.text_len-len.ensures.0 c.is_outside.ensures c.if-is_outside.false (c.node_tokens-found.auto.left ∙ c.told-left) (c.node_tokens-found.auto.right ∙ c.told-right) c.node_tokens-found.ensures c.tell.ensures.0 c.tell.ensures.1
