-- `scan_exchanged` meets its contract.
use native.Mathlib.Omega.{arith}
use Rattle.green.proofs.Answering.{count_node}
use Rattle.replace_with.proofs.Measuring.{scanning_none, scanning_room, scanning_more, scanning_all}
use Rattle.replace_with.proofs.measure.scan_exchanged.Goals as goal

pub count_of-count-requires : goal.count_of-count-requires
count_of-count-requires c = c.requires.known

pub kind_of-kind-requires : goal.kind_of-kind-requires
kind_of-kind-requires c = c.requires.known

pub loop-k-init : goal.loop-k-init
loop-k-init c = scanning_none c.childless-over.ensures.1

pub child_measure-y-requires : goal.child_measure-y-requires
child_measure-y-requires c = record { exchanges = c.requires; k_in_bounds = omega (arith, c.count_of-count.ensures, count_node c.requires.known c.requires.node, c.loop-k-test.true) }

pub plus-over-requires : goal.plus-over-requires
plus-over-requires c = scanning_room c.requires c.loop-k.invariant (omega (arith, c.count_of-count.ensures, count_node c.requires.known c.requires.node, c.loop-k-test.true)) c.child_measure-y.ensures.summable

pub loop-k-preserved : goal.loop-k-preserved
loop-k-preserved c = scanning_more c.requires c.loop-k.invariant (omega (arith, c.count_of-count.ensures, count_node c.requires.known c.requires.node, c.loop-k-test.true)) c.child_measure-y.ensures.measure_of c.plus-over.ensures.0 c.plus-over.ensures.1

pub returns : goal.returns
returns c = scanning_all c.requires c.loop-k.invariant (omega (arith, c.count_of-count.ensures, count_node c.requires.known c.requires.node, c.loop-k-test.false)) c.kind_of-kind.ensures c.childless-over.ensures.0
