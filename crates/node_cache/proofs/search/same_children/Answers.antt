-- `same_children` meets its contract.
use native.Mathlib.Omega.{arith}
use mathlib.Core.Path.{refl, ap}
use Rattle.definitions.proofs.Comparing.{compared_end}
use Rattle.node_cache.proofs.SameNode.{other_count, same_count, child_differs, child_same}
use Rattle.node_cache.proofs.search.same_children.Goals as goal

pub count_of-requires : goal.count_of-requires
count_of-requires c = c.requires.0

pub returns-then-count_of-numbers : goal.returns-then-count_of-numbers
returns-then-count_of-numbers c = other_count _ _ c.requires.1 c.count_of.ensures c.if-count_of-numbers.true

pub loop-k-init : goal.loop-k-init
loop-k-init c = same_count _ _ c.requires.1 c.count_of.ensures c.if-count_of-numbers.false

pub nth_child-child-requires : goal.nth_child-child-requires
nth_child-child-requires c = record { known = c.requires; k_in_bounds = omega (arith, c.loop-k.invariant.lengths) }

pub returns-then-child-number : goal.returns-then-child-number
returns-then-child-number c = child_differs c.loop-k.invariant c.loop-k-test.true (ap (λ x. x.number) c.nth_child-child.ensures.0) refl c.if-child-number.true

pub loop-k-preserved : goal.loop-k-preserved
loop-k-preserved c = child_same c.loop-k.invariant c.loop-k-test.true (ap (λ x. x.number) c.nth_child-child.ensures.0) refl c.if-child-number.false

pub returns : goal.returns
returns c = compared_end c.loop-k.invariant c.loop-k-test.false
