-- `run` meets its contract.
use mathlib.Core.Path.{◌≡◌, refl, sym, ◌∙◌}
use Rattle.preorder_many.proofs.Run.{going_none, going_on, all_over, all_full}
use Prim.Native.Nat.{◌+◌, ◌*◌}
use native.Mathlib.Omega.{arith}
use Rattle.preorder_many.proofs.walk.run.Goals as goal

pub loop-count-init : goal.loop-count-init
loop-count-init c = going_none c.requires.0 c.requires.1 refl

pub returns-then-is_over : goal.returns-then-is_over
returns-then-is_over c = all_over c.loop-count.invariant refl (sym c.is_over.ensures ∙ c.if-is_over.true)

pub loop-count-preserved : goal.loop-count-preserved
loop-count-preserved c =
    let z : (c.loop-count.count + 1) * 7 ≡ c.loop-count.count * 7 + 7 = omega arith in
    rw z (going_on c.loop-count.invariant (omega (arith, c.loop-count-test.true)) c.step-ahead.ensures)

pub returns-then-is_over-2 : goal.returns-then-is_over-2
returns-then-is_over-2 c = all_over c.loop-count.invariant (omega (arith, c.loop-count.auto.count-end, c.loop-count-test.false)) (sym c.is_over-2.ensures ∙ c.if-is_over-2.true)

pub returns : goal.returns
returns c = all_full c.loop-count.invariant (omega (arith, c.loop-count.auto.count-end, c.loop-count-test.false)) (sym c.is_over-2.ensures ∙ c.if-is_over-2.false) (omega arith)
