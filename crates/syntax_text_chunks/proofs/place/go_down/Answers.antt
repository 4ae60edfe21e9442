-- `go_down` meets its contract.
use native.Mathlib.Omega.{arith}
use lib.Seq.{length-take-le, get_or-take}
use Rattle.syntax_text_chunks.proofs.Placing.{setting_out, inner_here, child_there, going_turn, going_on, arrived}
use Rattle.syntax_text_chunks.proofs.place.go_down.Goals.{else-i-count, then-i-count}
use Rattle.syntax_text_chunks.proofs.place.go_down.Goals as goal

pub loop-index-init : goal.loop-index-init
loop-index-init c = setting_out c.requires.placed.0 c.requires.placed.1 c.requires.leads_on

pub child_count-count-requires : goal.child_count-count-requires
child_count-count-requires c = inner_here c.loop-index.invariant c.requires.placed.2 (rw (length-take-le c.args.depth c.args.place.now c.requires.placed.2) at c.loop-index-test.true)

pub child-at-requires : goal.child-at-requires
child-at-requires c = record { inner = inner_here c.loop-index.invariant c.requires.placed.2 (rw (length-take-le c.args.depth c.args.place.now c.requires.placed.2) at c.loop-index-test.true); k_bound = child_there c.loop-index.invariant c.requires.placed.2 (rw (length-take-le c.args.depth c.args.place.now c.requires.placed.2) at c.loop-index-test.true) (get_or-take c.args.depth c.args.place.now c.loop-index.index-index 0 (rw (length-take-le c.args.depth c.args.place.now c.requires.placed.2) at c.loop-index-test.true)) }

pub loop-index-preserved : goal.loop-index-preserved
loop-index-preserved c = elim c.if-i-count.branch [ then-i-count w ↦ going_turn c.loop-index.invariant c.requires.placed.2 (rw (length-take-le c.args.depth c.args.place.now c.requires.placed.2) at c.loop-index-test.true) (get_or-take c.args.depth c.args.place.now c.loop-index.index-index 0 (rw (length-take-le c.args.depth c.args.place.now c.requires.placed.2) at c.loop-index-test.true)) c.child-at.ensures (omega (arith, w.if-i-count.true, c.child_count-count.ensures.0)) w.later-is | else-i-count w ↦ going_on c.loop-index.invariant c.requires.placed.2 (rw (length-take-le c.args.depth c.args.place.now c.requires.placed.2) at c.loop-index-test.true) (get_or-take c.args.depth c.args.place.now c.loop-index.index-index 0 (rw (length-take-le c.args.depth c.args.place.now c.requires.placed.2) at c.loop-index-test.true)) c.child-at.ensures (omega (arith, w.if-i-count.false, c.child_count-count.ensures.0)) w.later-is ]

pub returns : goal.returns
returns c = arrived c.loop-index.invariant (rw (length-take-le c.args.depth c.args.place.now c.requires.placed.2) at c.loop-index-test.false)
