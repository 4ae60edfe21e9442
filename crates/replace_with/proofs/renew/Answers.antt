-- `renew` meets its contract.
use native.Mathlib.Omega.{arith}
use mathlib.Core.Path.{refl}
use borrow.Author.Rules.{rules}
use Rattle.replace_with.proofs.Renewing.{renewing_none, before_step, at_small, splice_ready, renewing_one}
use Rattle.replace_with.proofs.renew.Goals as goal

pub loop-d-init : goal.loop-d-init
loop-d-init c = (renewing_none c.requires, search rules)

pub overflow_cast-below : goal.overflow_cast-below
overflow_cast-below c = let w = before_step c.requires c.loop-d.invariant.0 c.loop-d-test.true in omega (arith, at_small c.requires w.0 w.1)

pub push_spliced-requires : goal.push_spliced-requires
push_spliced-requires c = let w = before_step c.requires c.loop-d.invariant.0 c.loop-d-test.true in splice_ready c.requires w.0 w.1 refl refl refl

pub loop-d-preserved : goal.loop-d-preserved
loop-d-preserved c = let w = before_step c.requires c.loop-d.invariant.0 c.loop-d-test.true in (renewing_one c.requires w.0 w.1 refl refl refl c.push_spliced.ensures.pushed refl, search rules)
