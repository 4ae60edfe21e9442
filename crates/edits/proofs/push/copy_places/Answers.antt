-- `copy_places` meets its contract: after i turns the first i places are copied.
use native.Mathlib.Omega.{arith}
use Rattle.edits.proofs.Copying.{copied_none, copied_all, source_there, target_there, movable, copied_more}
use Rattle.edits.proofs.push.copy_places.Goals as goal

pub loop-i-init : goal.loop-i-init
loop-i-init c = copied_none c.requires

pub overflow_add-word : goal.overflow_add-word
overflow_add-word c = omega (arith, source_there c.requires c.loop-i.invariant c.loop-i-test.true)

pub offset_bounds-children-source : goal.offset_bounds-children-source
offset_bounds-children-source c = omega (arith, source_there c.requires c.loop-i.invariant c.loop-i-test.true)

pub bounds-children-source : goal.bounds-children-source
bounds-children-source c = source_there c.requires c.loop-i.invariant c.loop-i-test.true

pub overflow_sub-children : goal.overflow_sub-children
overflow_sub-children c = omega (arith, (movable c.requires c.loop-i.invariant c.loop-i-test.true).behind)

pub overflow_add-children : goal.overflow_add-children
overflow_add-children c = omega (arith, (movable c.requires c.loop-i.invariant c.loop-i-test.true).small)

pub overflow_mul-children : goal.overflow_mul-children
overflow_mul-children c = omega (arith, (movable c.requires c.loop-i.invariant c.loop-i-test.true).small)

pub overflow_add-children-in-loop-i : goal.overflow_add-children-in-loop-i
overflow_add-children-in-loop-i c = omega (arith, (movable c.requires c.loop-i.invariant c.loop-i-test.true).small)

pub overflow_add-children-in-loop-i-2 : goal.overflow_add-children-in-loop-i-2
overflow_add-children-in-loop-i-2 c = omega (arith, target_there c.requires c.loop-i.invariant c.loop-i-test.true)

pub offset_bounds-children-target : goal.offset_bounds-children-target
offset_bounds-children-target c = omega (arith, target_there c.requires c.loop-i.invariant c.loop-i-test.true)

pub bounds-children-target : goal.bounds-children-target
bounds-children-target c = target_there c.requires c.loop-i.invariant c.loop-i-test.true

pub loop-i-preserved : goal.loop-i-preserved
loop-i-preserved c = copied_more c.requires c.loop-i.invariant c.loop-i-test.true

pub shape_of-children : goal.shape_of-children
shape_of-children c = c.loop-i.invariant.same_length

pub returns : goal.returns
returns c = copied_all c.requires c.loop-i.invariant c.loop-i-test.false
