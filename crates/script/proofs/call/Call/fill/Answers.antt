use Rattle.std.proofs.Common.{◌∙◌, arith}
use Rattle.script.proofs.Filling.{filled, passed}
use Rattle.script.proofs.call.Call.fill.Goals as goal

pub loop-i-preserved : goal.loop-i-preserved
loop-i-preserved c = (rw c.in_ok-into.ensures.rest (filled c.loop-i.into c.loop-i.self.rest.now _ c.loop-i.i _ c.in_ok-into.ensures.value (omega arith) (omega arith) ∙ c.loop-i.invariant.0), c.in_ok-into.ensures.rest ∙ rw c.loop-i.invariant.1 (passed _ c.loop-i.i), omega (arith, c.in_ok-into.ensures.left, c.loop-i.invariant))
