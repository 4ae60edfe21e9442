-- `run` meets its contract.
use native.Mathlib.Omega.{arith}
use mathlib.Core.Path.{refl, sym, ◌∙◌}
use Rattle.definitions.proofs.Sheets.{well_formed}
use Rattle.definitions.specs.Sheet.{event_count}
use Rattle.green.proofs.Untouched.{places_same, places_on}
use Rattle.sheet_run.proofs.Stepping.{wrote_number, wrote_none, number_small, left_part}
use Rattle.sheet_run.proofs.Going.{going_start, going_on, going_refused, going_over}
use Rattle.sheet_run.proofs.Starting.{nothing_run, new_standing}
use Rattle.sheet_run.proofs.run.Goals as goal
use Rattle.sheet_run.proofs.run.Goals.{in-Yielded, in-Accepted}

pub returns-then-is_malformed : goal.returns-then-is_malformed
returns-then-is_malformed c =
    let r = nothing_run c.args.sheet.now c.args.source.now c.requires (sym c.is_malformed.ensures ∙ c.if-is_malformed.true) _ refl in
    record { run_done = r.0; builder_done = r.1.0; yields_done = r.1.1; same = places_same _ }

pub u32_at-n-requires : goal.u32_at-n-requires
u32_at-n-requires c = omega (arith, well_formed c.args.sheet.now c.args.source.now (sym c.is_malformed.ensures ∙ c.if-is_malformed.false))

pub loop-i-init : goal.loop-i-init
unfolding event_count
loop-i-init c = (going_start _ (new_standing c.requires c.clear.ensures) (sym c.is_malformed.ensures ∙ c.if-is_malformed.false) c.clear.ensures _ c.u32_at-n.ensures, places_same _)

pub returns-in-Refused : goal.returns-in-Refused
returns-in-Refused c =
    let r = going_refused c.loop-i.invariant.0 c.loop-i-test.true c.step-done.ensures.done c.in-Refused.is refl in
    record { run_done = r.0; builder_done = r.1.0; yields_done = r.1.1; same = places_on c.loop-i.invariant.1 c.step-done.ensures.same }

pub overflow_cast-yields : goal.overflow_cast-yields
overflow_cast-yields c = omega (arith, number_small c.step-done.ensures.done c.in-Yielded.is)

pub loop-i-preserved : goal.loop-i-preserved
loop-i-preserved c = (
  going_on c.loop-i.invariant.0 c.loop-i-test.true c.step-done.ensures.done
      (elim c.match-answer.branch [ in-Yielded w ↦ wrote_number c.step-done.ensures.done _ w.in-Yielded.is w.yields-is | in-Accepted w ↦ wrote_none c.step-done.ensures.done _ w.in-Accepted.is w.yields-is ])
      c.step-done.ensures.same.lengths,
  places_on c.loop-i.invariant.1 c.step-done.ensures.same,
)

pub returns : goal.returns
returns c =
    let r = going_over c.loop-i.invariant.0 c.loop-i-test.false (rw (left_part c.args.source.now c.loop-i.at, c.read-lent.ensures) at c.end_run.ensures) in
    record { run_done = r.0; builder_done = r.1.0; yields_done = r.1.1; same = c.loop-i.invariant.1 }
