-- `occurrence_below` and `occurrence_in` meet their contracts: the height falls from a node to its child.
use native.Mathlib.Omega.{arith}
use lib.ListN.{length-set}
use borrow.Author.Rules.{rules}
use Rattle.cursor.proofs.Positions.{level_there, inner, leaf}
use Rattle.cursor.proofs.Occurring.{found_here, too_low, at_token_lem, none_passed, same_length, pass, found_below, none_below}
use Rattle.cursor.proofs.whereabouts.+occurrence_below_occurrence_in.Goals as goal

pub occurrence_below-child_count-count-requires : goal.occurrence_below-child_count-count-requires
occurrence_below-child_count-count-requires t c = c.requires.inner.0

pub occurrence_below-loop-i-init : goal.occurrence_below-loop-i-init
occurrence_below-loop-i-init t c = none_passed

pub occurrence_below-child-child-requires : goal.occurrence_below-child-child-requires
occurrence_below-child-child-requires t c = record { inner = c.requires.inner.0; k_bound = omega (arith, c.child_count-count.ensures.0, c.loop-i-test.true) }

pub occurrence_below-occurrence_in-found-requires : goal.occurrence_below-occurrence_in-found-requires
occurrence_below-occurrence_in-found-requires t c = (omega (arith, c.child-child.ensures.lower, c.decreases), (c.child-child.ensures.placed, omega (arith, same_length c.loop-i.invariant, c.requires.in_bounds)))

pub occurrence_below-overflow_cast-path : goal.occurrence_below-overflow_cast-path
occurrence_below-overflow_cast-path t c = omega (arith, c.loop-i-test.true, c.child_count-count.ensures.1)

pub occurrence_below-offset_bounds-path-depth : goal.occurrence_below-offset_bounds-path-depth
occurrence_below-offset_bounds-path-depth t c = omega (arith, c.requires.inner.0.placed.deep)

pub occurrence_below-bounds-path-depth : goal.occurrence_below-bounds-path-depth
occurrence_below-bounds-path-depth t c = level_there c.child-child.ensures (search (rules, same_length c.loop-i.invariant))

pub occurrence_below-shape_of-path-in-Some : goal.occurrence_below-shape_of-path-in-Some
occurrence_below-shape_of-path-in-Some t c = simp length-set (search (rules, same_length c.loop-i.invariant))

pub occurrence_below-returns-in-Some : goal.occurrence_below-returns-in-Some
occurrence_below-returns-in-Some t c = found_below c.loop-i.invariant (omega (arith, c.child_count-count.ensures.0, c.loop-i-test.true)) c.child-child.ensures c.occurrence_in-found.ensures c.in-Some.is (search (rules, same_length c.loop-i.invariant))

pub occurrence_below-loop-i-preserved : goal.occurrence_below-loop-i-preserved
occurrence_below-loop-i-preserved t c = pass c.loop-i.invariant (omega (arith, c.child_count-count.ensures.0, c.loop-i-test.true)) c.child-child.ensures c.occurrence_in-found.ensures c.in_default.is

pub occurrence_below-shape_of-path : goal.occurrence_below-shape_of-path
occurrence_below-shape_of-path t c = search (rules, same_length c.loop-i.invariant)

pub occurrence_below-returns : goal.occurrence_below-returns
occurrence_below-returns t c = none_below c.loop-i.invariant c.requires.inner.1 (omega (arith, c.child_count-count.ensures.0, c.loop-i-test.false))

pub occurrence_in-returns-then-at-number : goal.occurrence_in-returns-then-at-number
occurrence_in-returns-then-at-number t c = found_here _ c.requires.0 c.if-at-number.true

pub occurrence_in-returns-then-at-number-2 : goal.occurrence_in-returns-then-at-number-2
occurrence_in-returns-then-at-number-2 t c = too_low _ c.requires.0 c.if-at-number-2.true

pub occurrence_in-node_or_token-requires : goal.occurrence_in-node_or_token-requires
occurrence_in-node_or_token-requires t c = c.requires.0

pub occurrence_in-returns-in_default : goal.occurrence_in-returns-in_default
occurrence_in-returns-in_default t c = at_token_lem _ c.requires.0 c.if-at-number.false (leaf c.requires.0 c.node_or_token.ensures c.in_default.is)

pub occurrence_in-occurrence_below-requires : goal.occurrence_in-occurrence_below-requires
occurrence_in-occurrence_below-requires t c = (omega (arith, c.decreases), ((inner c.requires.0 c.node_or_token.ensures c.in-Node.is, c.if-at-number.false), search rules))

pub occurrence_in-returns : goal.occurrence_in-returns
occurrence_in-returns t c = c.occurrence_below.ensures
