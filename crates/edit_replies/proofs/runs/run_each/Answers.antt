use Rattle.std.proofs.Common.{[], refl, sym, ◌∙◌, arith}
use Rattle.definitions.proofs.Sheets.{well_formed}
use Rattle.definitions.specs.Sheet.{event_count}
use Rattle.green.proofs.Untouched.{places_same, places_on}
use Rattle.sheet_run.proofs.Stepping.{not_refused, left_part}
use Rattle.sheet_run.proofs.Going.{going_start, going_on, going_refused, going_over}
use Rattle.sheet_run.proofs.Starting.{nothing_done, new_standing}
use Rattle.edit_replies.proofs.runs.run_each.Goals as goal

pub returns-then-is_malformed : goal.returns-then-is_malformed
returns-then-is_malformed c = record {
  run_done = nothing_done c.args.sheet.now c.args.source.now c.requires (sym c.is_malformed.ensures ∙ c.if-is_malformed.true) refl;
  same = places_same _;
}

pub u32_at-n-requires : goal.u32_at-n-requires
u32_at-n-requires c = omega (arith, well_formed c.args.sheet.now c.args.source.now (sym c.is_malformed.ensures ∙ c.if-is_malformed.false))

pub loop-i-init : goal.loop-i-init
unfolding event_count
loop-i-init c = (going_start [] (new_standing c.requires c.new-builder.ensures) (sym c.is_malformed.ensures ∙ c.if-is_malformed.false) c.new-builder.ensures _ c.u32_at-n.ensures, places_same _)

pub returns-in-Refused : goal.returns-in-Refused
returns-in-Refused c = record {
  run_done = (going_refused c.loop-i.invariant.0 c.loop-i-test.true c.step-done.ensures.done {b₀ = c.new-builder.result} c.in-Refused.is refl).0;
  same = places_on c.loop-i.invariant.1 c.step-done.ensures.same;
}

pub loop-i-preserved : goal.loop-i-preserved
loop-i-preserved c = (
  going_on c.loop-i.invariant.0 c.loop-i-test.true c.step-done.ensures.done (not_refused c.step-done.ensures.done c.in_default.not-Refused) c.step-done.ensures.same.lengths,
  places_on c.loop-i.invariant.1 c.step-done.ensures.same,
)

pub returns : goal.returns
returns c = record {
  run_done = (going_over c.loop-i.invariant.0 c.loop-i-test.false {b₀ = c.new-builder.result} (rw (left_part c.args.source.now c.loop-i.at, c.read-lent-2.ensures) at c.end_run.ensures)).0;
  same = c.loop-i.invariant.1;
}
