-- `put_children` meets its contract: after i turns the first i places are written.
use native.Mathlib.Omega.{arith}
use Rattle.green_new.proofs.Children.{put_none, put_one, put_all, number_small, number_record, place_bound, offset_bound, len_bound}
use Rattle.green_new.proofs.node.put_children.Goals as goal

pub loop-i-init : goal.loop-i-init
loop-i-init c = put_none c.requires

pub overflow_mul-children : goal.overflow_mul-children
overflow_mul-children c = omega (arith, offset_bound c.requires c.loop-i.invariant c.loop-i-test.true)

pub overflow_add-children : goal.overflow_add-children
overflow_add-children c = omega (arith, offset_bound c.requires c.loop-i.invariant c.loop-i-test.true, number_small c.requires c.loop-i.invariant c.loop-i-test.true)

pub overflow_add-children-in-loop-i : goal.overflow_add-children-in-loop-i
overflow_add-children-in-loop-i c = omega (arith, place_bound c.requires c.loop-i.invariant c.loop-i-test.true)

pub offset_bounds-children-at : goal.offset_bounds-children-at
offset_bounds-children-at c = omega (arith, place_bound c.requires c.loop-i.invariant c.loop-i-test.true)

pub bounds-children-at : goal.bounds-children-at
bounds-children-at c = omega (arith, place_bound c.requires c.loop-i.invariant c.loop-i-test.true)

pub len_at-requires : goal.len_at-requires
len_at-requires c = (number_record c.requires c.loop-i.invariant c.loop-i-test.true)

pub overflow_add-offset : goal.overflow_add-offset
overflow_add-offset c = omega (arith, len_bound c.requires c.loop-i.invariant c.loop-i-test.true _ c.len_at.ensures, offset_bound c.requires c.loop-i.invariant c.loop-i-test.true)

pub loop-i-preserved : goal.loop-i-preserved
loop-i-preserved c = (put_one c.requires c.loop-i.invariant c.loop-i-test.true _ c.len_at.ensures)

pub shape_of-children : goal.shape_of-children
shape_of-children c = c.loop-i.invariant.same_length

pub returns : goal.returns
returns c = let r = put_all c.loop-i.invariant c.loop-i-test.false in record { children_after = r.0; value = r.1 }
