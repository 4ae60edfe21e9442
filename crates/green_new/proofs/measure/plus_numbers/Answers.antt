-- `plus_numbers` meets its contract: after i turns the first i of them are added.
use mathlib.Core.Path.{refl}
use Rattle.green.proofs.Answering.{child_known}
use Rattle.green_new.proofs.Adding.{adding_none, adding_room, adding_more, adding_all}
use Rattle.green_new.proofs.measure.plus_numbers.Goals as goal

pub loop-n-init : goal.loop-n-init
loop-n-init c = adding_none c.requires.room_for

pub measure_of-x-requires : goal.measure_of-x-requires
measure_of-x-requires c = child_known _ c.args.store.valid c.requires.all_below c.loop-n-test.true refl

pub plus-over-requires : goal.plus-over-requires
plus-over-requires c = adding_room c.loop-n.invariant c.requires.room_for c.loop-n-test.true c.measure_of-x.ensures.1

pub loop-n-preserved : goal.loop-n-preserved
loop-n-preserved c = adding_more c.loop-n.invariant c.loop-n-test.true refl c.measure_of-x.ensures.0 c.plus-over.ensures.0 c.plus-over.ensures.1

pub returns : goal.returns
returns c = adding_all c.loop-n.invariant c.loop-n-test.false
