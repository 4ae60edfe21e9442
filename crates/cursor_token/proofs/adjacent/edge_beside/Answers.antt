-- `edge_beside` meets its contract.
use native.Mathlib.Omega.{arith}
use mathlib.Core.Path.{refl}
use lib.ListN.{length-set}
use Rattle.cursor.proofs.Positions.{count_most, inner, leaf}
use Rattle.cursor_token.proofs.Edges.{at_childless, edge_of, below_none, below_found, below_leaf}
use Rattle.cursor_token.proofs.Tokens.{below_none_told, below_told}
use Rattle.cursor_token.proofs.adjacent.edge_beside.Goals as goal

pub overflow_cast-path : goal.overflow_cast-path
overflow_cast-path c = omega (arith, c.requires.inner.1, count_most c.requires.inner.0)

pub returns-in_default : goal.returns-in_default
returns-in_default c = below_told (below_leaf _ _ c.child-beside.ensures (leaf c.child-beside.ensures.placed c.node_or_token.ensures c.in_default.is) c.requires.in_bounds) refl c.syntax_element.ensures

pub returns-then-count-eq0 : goal.returns-then-count-eq0
returns-then-count-eq0 c = below_none_told (below_none c.child-beside.ensures (at_childless _ _ (inner c.child-beside.ensures.placed c.node_or_token.ensures c.in-Node.is) c.child_count-count.ensures.0 c.if-count-eq0.true) refl) refl

pub overflow_cast-path-in_default-node_or_token-2 : goal.overflow_cast-path-in_default-node_or_token-2
overflow_cast-path-in_default-node_or_token-2 c = omega (arith, c.requires.inner.1, count_most c.requires.inner.0)

pub returns-in_default-node_or_token : goal.returns-in_default-node_or_token
returns-in_default-node_or_token c = below_told (below_found c.child-beside.ensures (edge_of (inner c.child-beside.ensures.placed c.node_or_token.ensures c.in-Node.is) c.child_count-count.ensures.0 c.edge_index-i.ensures.0 (below_leaf _ _ c.child-below.ensures (leaf c.child-below.ensures.placed c.node_or_token-2.ensures c.in_default-node_or_token.is) c.requires.in_bounds)) refl (simp length-set c.requires.in_bounds)) refl c.syntax_element-in_default-node_or_token.ensures

pub returns-in_err-token : goal.returns-in_err-token
returns-in_err-token c = rw c.from_residual.ensures (below_none_told (below_none c.child-beside.ensures c.in_err-token.ensures refl) refl)

pub overflow_cast-path-2 : goal.overflow_cast-path-2
overflow_cast-path-2 c = omega (arith, c.requires.inner.1, count_most c.requires.inner.0)

pub returns : goal.returns
returns c = below_told (below_found c.child-beside.ensures c.in_ok-token.ensures refl (omega (arith, c.requires.in_bounds, c.path-1.given))) refl c.syntax_element-2.ensures
