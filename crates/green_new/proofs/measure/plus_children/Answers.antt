-- `plus_children` meets its contract: up to i the children are added.
use native.Mathlib.Omega.{arith}
use mathlib.Core.Path.{ap}
use Rattle.green.specs.Answers.{Place}
use Rattle.green_new.proofs.Adding.{range_none, range_room, range_more, range_all}
use Rattle.green_new.proofs.measure.plus_children.Goals as goal

pub loop-i-init : goal.loop-i-init
loop-i-init c = range_none c.requires.0 c.requires.1

pub nth_child-child-requires : goal.nth_child-child-requires
nth_child-child-requires c = record { known = (c.requires.0.known, c.requires.0.a_node); k_in_bounds = omega (arith, c.requires.0.within, c.requires.0.order, c.loop-i-test.true) }

pub measure_of-x-requires : goal.measure_of-x-requires
measure_of-x-requires c = record { valid = c.requires.0.known.valid; within = omega (arith, c.nth_child-child.ensures.1, c.requires.0.known.within) }

pub plus-over-requires : goal.plus-over-requires
plus-over-requires c = range_room c.requires.0 c.loop-i.invariant c.requires.1 (omega arith) c.loop-i-test.true c.measure_of-x.ensures.1

pub loop-i-preserved : goal.loop-i-preserved
loop-i-preserved c = range_more c.requires.0 c.loop-i.invariant (omega arith) c.loop-i-test.true (ap (λ (x : Place). x.number) c.nth_child-child.ensures.0) c.measure_of-x.ensures.0 c.plus-over.ensures.0 c.plus-over.ensures.1

pub returns : goal.returns
returns c = range_all c.requires.0 c.loop-i.invariant c.loop-i-test.false
