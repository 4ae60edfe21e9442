-- `edge_below` and `edge_token` meet their contracts: the height falls from a node to its child.
use mathlib.Core.Path.{refl}
use native.Mathlib.Omega.{arith}
use borrow.Author.Rules.{rules}
use Rattle.cursor.proofs.Positions.{count_most, level_there, inner, leaf}
use Rattle.cursor_token.proofs.Edges.{at_leaf, at_childless, edge_of, below_none, below_found, below_leaf}
use Rattle.cursor_token.proofs.edge.+edge_below_edge_token.Goals as goal

pub edge_below-child-child-requires : goal.edge_below-child-child-requires
edge_below-child-child-requires t c = let r = c.requires.inner in record { inner = r.0; k_bound = r.1 }

pub edge_below-node_or_token-requires : goal.edge_below-node_or_token-requires
edge_below-node_or_token-requires t c = c.child-child.ensures.placed

pub edge_below-overflow_cast-path : goal.edge_below-overflow_cast-path
edge_below-overflow_cast-path t c = omega (arith, c.requires.inner.1, count_most c.requires.inner.0)

pub edge_below-offset_bounds-path-depth : goal.edge_below-offset_bounds-path-depth
edge_below-offset_bounds-path-depth t c = omega (arith, c.requires.inner.0.placed.deep)

pub edge_below-bounds-path-depth : goal.edge_below-bounds-path-depth
edge_below-bounds-path-depth t c = level_there c.child-child.ensures (search rules)

pub edge_below-returns-in_default : goal.edge_below-returns-in_default
edge_below-returns-in_default t c = below_leaf _ _ c.child-child.ensures (leaf c.child-child.ensures.placed c.node_or_token.ensures c.in_default.is) (search rules)

pub edge_below-edge_token-requires : goal.edge_below-edge_token-requires
edge_below-edge_token-requires t c = (omega (arith, c.child-child.ensures.lower, c.decreases), (c.child-child.ensures.placed, search rules))

pub edge_below-returns-in_err-token : goal.edge_below-returns-in_err-token
edge_below-returns-in_err-token t c = rw c.from_residual.ensures (below_none c.child-child.ensures c.in_err-token.ensures refl)

pub edge_below-overflow_cast-path-2 : goal.edge_below-overflow_cast-path-2
edge_below-overflow_cast-path-2 t c = omega (arith, c.requires.inner.1, count_most c.requires.inner.0)

pub edge_below-offset_bounds-path-depth-2 : goal.edge_below-offset_bounds-path-depth-2
edge_below-offset_bounds-path-depth-2 t c = omega (arith, c.requires.inner.0.placed.deep)

pub edge_below-bounds-path-depth-2 : goal.edge_below-bounds-path-depth-2
edge_below-bounds-path-depth-2 t c = level_there c.child-child.ensures (omega (arith, c.requires.in_bounds, c.path-1.given))

pub edge_below-returns : goal.edge_below-returns
edge_below-returns t c = below_found c.child-child.ensures c.in_ok-token.ensures refl (omega (arith, c.requires.in_bounds, c.path-1.given))

pub edge_token-node_or_token-requires : goal.edge_token-node_or_token-requires
edge_token-node_or_token-requires t c = c.requires.0

pub edge_token-returns-in_default : goal.edge_token-returns-in_default
edge_token-returns-in_default t c = at_leaf _ _ c.requires.0 (leaf c.requires.0 c.node_or_token.ensures c.in_default.is)

pub edge_token-child_count-count-requires : goal.edge_token-child_count-count-requires
edge_token-child_count-count-requires t c = inner c.requires.0 c.node_or_token.ensures c.in-Node.is

pub edge_token-returns-then-count-eq0 : goal.edge_token-returns-then-count-eq0
edge_token-returns-then-count-eq0 t c = at_childless _ _ (inner c.requires.0 c.node_or_token.ensures c.in-Node.is) c.child_count-count.ensures.0 c.if-count-eq0.true

pub edge_token-edge_index-k-requires : goal.edge_token-edge_index-k-requires
edge_token-edge_index-k-requires t c = omega (arith, c.if-count-eq0.false)

pub edge_token-edge_below-requires : goal.edge_token-edge_below-requires
edge_token-edge_below-requires t c = (omega (arith, c.decreases), ((inner c.requires.0 c.node_or_token.ensures c.in-Node.is, omega (arith, c.edge_index-k.ensures.1, c.child_count-count.ensures.0)), search rules))

pub edge_token-returns : goal.edge_token-returns
edge_token-returns t c = edge_of (inner c.requires.0 c.node_or_token.ensures c.in-Node.is) c.child_count-count.ensures.0 c.edge_index-k.ensures.0 c.edge_below.ensures
