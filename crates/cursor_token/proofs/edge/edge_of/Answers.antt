-- `edge_of` meets its contract.
use mathlib.Core.Path.{refl}
use Rattle.cursor.proofs.Positions.{inner, leaf}
use Rattle.cursor_token.proofs.Edges.{at_leaf, at_childless, edge_of, below_leaf}
use Rattle.cursor_token.proofs.Tokens.{edge_none, edge_told}
use Rattle.cursor_token.proofs.edge.edge_of.Goals as goal

pub returns-in_default : goal.returns-in_default
returns-in_default c = edge_told (at_leaf _ _ c.requires.0 (leaf c.requires.0 c.node_or_token.ensures c.in_default.is)) refl c.syntax_element.ensures

pub returns-then-count-eq0 : goal.returns-then-count-eq0
returns-then-count-eq0 c = edge_none (at_childless _ _ (inner c.requires.0 c.node_or_token.ensures c.in-Node.is) c.child_count-count.ensures.0 c.if-count-eq0.true) refl

pub returns-in_default-node_or_token : goal.returns-in_default-node_or_token
returns-in_default-node_or_token c = edge_told (edge_of (inner c.requires.0 c.node_or_token.ensures c.in-Node.is) c.child_count-count.ensures.0 c.edge_index-k.ensures.0 (below_leaf _ _ c.child-child.ensures (leaf c.child-child.ensures.placed c.node_or_token-2.ensures c.in_default-node_or_token.is) c.requires.1)) refl c.syntax_element-in_default-node_or_token.ensures

pub returns-in_err-token : goal.returns-in_err-token
returns-in_err-token c = rw c.from_residual.ensures (edge_none c.in_err-token.ensures refl)

pub returns : goal.returns
returns c = edge_told c.in_ok-token.ensures refl c.syntax_element-2.ensures
