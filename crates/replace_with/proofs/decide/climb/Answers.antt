-- `climb` meets its contract.
use mathlib.Core.Path.{refl}
use native.Mathlib.Omega.{arith}
use lib.Seq.{length-take-le}
use Rattle.replace_with.proofs.Climbing.{climbing_none, climbed, climbed_all, before_step, ancestor_here, exchanges_here, climb_large, count_few, climb_on}
use Rattle.replace_with.proofs.decide.climb.Goals as goal

pub loop-d-init : goal.loop-d-init
loop-d-init c = climbing_none c.requires c.measure_of-x.ensures

pub measure_exchanged-y-requires : goal.measure_exchanged-y-requires
measure_exchanged-y-requires c = let w = before_step c.requires c.loop-d.invariant c.loop-d-test.true in exchanges_here c.requires w.0 w.1 refl

pub count_of-count-requires : goal.count_of-count-requires
count_of-count-requires c = let w = before_step c.requires c.loop-d.invariant c.loop-d-test.true in ancestor_here c.requires w.0 w.1

pub returns-then-not-is_within-clause-result_value : goal.returns-then-not-is_within-clause-result_value
returns-then-not-is_within-clause-result_value c = let w = before_step c.requires c.loop-d.invariant c.loop-d-test.true in climb_large c.requires w.0 w.1 refl c.measure_exchanged-y.ensures c.count_of-count.ensures c.is_within.ensures c.if-not-is_within.true

pub overflow_add-places : goal.overflow_add-places
overflow_add-places c = let w = before_step c.requires c.loop-d.invariant c.loop-d-test.true in let z = count_few c.requires w.0 w.1 refl c.measure_exchanged-y.ensures c.count_of-count.ensures c.is_within.ensures c.if-not-is_within.false in omega (arith, z, c.loop-d.invariant.few, c.requires.deep, length-take-le c.args.path.depth c.args.path.indexes.now c.requires.long)

pub loop-d-preserved : goal.loop-d-preserved
loop-d-preserved c = let w = before_step c.requires c.loop-d.invariant c.loop-d-test.true in climb_on c.requires w.0 w.1 refl c.measure_exchanged-y.ensures c.count_of-count.ensures c.is_within.ensures c.if-not-is_within.false refl

pub returns-clause-result_value : goal.returns-clause-result_value
returns-clause-result_value c = climbed c.requires c.loop-d.invariant c.loop-d-test.false

pub returns-clause-traced : goal.returns-clause-traced
returns-clause-traced c = climbed_all c.requires c.loop-d.invariant c.loop-d-test.false
