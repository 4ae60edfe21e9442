-- `nth` meets its contract.
use native.Mathlib.Omega.{arith}
use mathlib.Core.Path.{refl, ◌∙◌}
use Rattle.syntax_text_chunks.proofs.Chunking.{rebase, top_reached, none_given, reached, one_given, all_given, given_all}
use Rattle.syntax_text_chunks.proofs.Turning.{leads_there}
use Rattle.syntax_text_chunks.proofs.chunks.nth.Goals as goal

pub settle-found-requires : goal.settle-found-requires
settle-found-requires c = record { placed = c.requires.placed; reaches = (top_reached _ c.requires.placed.0 c.requires.placed.1, c.requires.start_le_end) }

pub loop-i-init : goal.loop-i-init
loop-i-init c = (omega arith, rebase (none_given c.requires.placed.1 c.settle-found.ensures) refl)

pub returns-in_err-at : goal.returns-in_err-at
returns-in_err-at c = rw c.from_residual.ensures (rebase (all_given c.loop-i.i c.loop-i.invariant.1 c.in_err-at.was _ c.loop-i.invariant.0) (c.loop-i.invariant.1.same ∙ c.settle-found.ensures.same))

pub go_down-way-requires : goal.go_down-way-requires
go_down-way-requires c = record { placed = (c.requires.placed.0, c.requires.placed.1, omega (arith, c.requires.placed.2, c.loop-i.invariant.1.same, c.settle-found.ensures.same, (reached c.loop-i.i c.loop-i.invariant.1 c.in_ok-at.was).0.placed.deep)); leads_on = leads_there (reached c.loop-i.i c.loop-i.invariant.1 c.in_ok-at.was).0 c.args.start c.args.end }

pub loop-i-preserved : goal.loop-i-preserved
loop-i-preserved c = (omega (arith, c.loop-i-test.true), one_given c.loop-i.i c.loop-i.invariant.1 c.in_ok-at.was c.following-found.ensures)

pub returns : goal.returns
returns c = rebase (given_all c.loop-i.i c.loop-i.invariant.1 _ c.loop-i.invariant.0 c.loop-i-test.false) (c.loop-i.invariant.1.same ∙ c.settle-found.ensures.same)
