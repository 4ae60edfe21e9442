-- `node_tokens` and `element_tokens` meet their contracts: the height falls from a node to its child.
use native.Mathlib.Omega.{arith}
use borrow.Author.Rules.{rules}
use Rattle.cursor.proofs.Positions.{count_most, inner, leaf}
use Rattle.cursor_range.proofs.Around.{left_holds, right_holds}
use Rattle.cursor_range.proofs.TokensFound.{child_found, child_holds, token_found, only_child_in_range, meeting, none_found, one_found, two_found}
use Rattle.cursor_range.proofs.tokens.+element_tokens_node_tokens.Goals as goal

pub element_tokens-child-at-requires : goal.element_tokens-child-at-requires
element_tokens-child-at-requires t c = record { inner = c.requires.inner.0; k_bound = c.requires.inner.1.within }

pub element_tokens-node_or_token-requires : goal.element_tokens-node_or_token-requires
element_tokens-node_or_token-requires t c = c.child-at.ensures.placed

pub element_tokens-overflow_cast-left : goal.element_tokens-overflow_cast-left
element_tokens-overflow_cast-left t c = omega (arith, c.requires.inner.1.within, count_most c.requires.inner.0)

pub element_tokens-returns-in_default : goal.element_tokens-returns-in_default
element_tokens-returns-in_default t c = token_found c.requires.inner.0 c.requires.inner.1 c.child-at.ensures c.requires.in_bounds.0 c.requires.in_bounds.1 (leaf c.child-at.ensures.placed c.node_or_token.ensures c.in_default.is)

pub element_tokens-node_tokens-found-requires : goal.element_tokens-node_tokens-found-requires
element_tokens-node_tokens-found-requires t c = (omega (arith, c.decreases, c.child-at.ensures.lower), ((inner c.child-at.ensures.placed c.node_or_token.ensures c.in-Node.is, child_holds c.requires.inner.0 c.requires.inner.1 c.child-at.ensures), search rules))

pub element_tokens-overflow_cast-k : goal.element_tokens-overflow_cast-k
element_tokens-overflow_cast-k t c = omega (arith, c.requires.inner.1.within, count_most c.requires.inner.0)

pub element_tokens-put_index-requires : goal.element_tokens-put_index-requires
element_tokens-put_index-requires t c = (omega (arith, c.child-at.ensures.depth, c.child-at.ensures.placed.deep, c.requires.in_bounds.0), omega (arith, c.child-at.ensures.depth, c.child-at.ensures.placed.deep, c.requires.in_bounds.1))

pub element_tokens-returns : goal.element_tokens-returns
element_tokens-returns t c = child_found _ c.child-at.ensures (omega (arith, c.requires.in_bounds.0)) (omega (arith, c.requires.in_bounds.1)) c.node_tokens-found.ensures c.put_index.ensures.0 c.put_index.ensures.1

pub node_tokens-touching_children-touching-requires : goal.node_tokens-touching_children-touching-requires
node_tokens-touching_children-touching-requires t c = let r = c.requires.inner in record { inner = r.0; in_closed_range = r.1 }

pub node_tokens-element_tokens-requires : goal.node_tokens-element_tokens-requires
node_tokens-element_tokens-requires t c = (omega (arith, c.decreases), ((c.requires.inner.0, (only_child_in_range c.in-Child.is c.touching_children-touching.ensures).holds), search rules))

pub node_tokens-element_tokens-before-requires : goal.node_tokens-element_tokens-before-requires
node_tokens-element_tokens-before-requires t c = (omega (arith, c.decreases), ((c.requires.inner.0, left_holds (meeting c.in-Children.is c.touching_children-touching.ensures)), search rules))

pub node_tokens-element_tokens-after-requires : goal.node_tokens-element_tokens-after-requires
node_tokens-element_tokens-after-requires t c = (omega (arith, c.decreases), ((c.requires.inner.0, right_holds (meeting c.in-Children.is c.touching_children-touching.ensures)), search rules))

pub node_tokens-returns-in-NoChild : goal.node_tokens-returns-in-NoChild
node_tokens-returns-in-NoChild t c = none_found _ _ c.in-NoChild.is c.touching_children-touching.ensures

pub node_tokens-returns-in-Child : goal.node_tokens-returns-in-Child
node_tokens-returns-in-Child t c = one_found c.requires.inner.0 (only_child_in_range c.in-Child.is c.touching_children-touching.ensures) c.element_tokens.ensures

pub node_tokens-returns-in-Children : goal.node_tokens-returns-in-Children
node_tokens-returns-in-Children t c = two_found c.requires.inner.0 (meeting c.in-Children.is c.touching_children-touching.ensures) c.element_tokens-before.ensures c.element_tokens-after.ensures c.both.ensures
