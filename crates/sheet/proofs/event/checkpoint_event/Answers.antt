-- `checkpoint_event` meets its contract.
use native.Mathlib.Omega.{arith}
use mathlib.Core.Path.{refl}
use Rattle.definitions.proofs.Judging.{checkpoint_kind, checkpoint_register, checkpoint_good}
use Rattle.builder.proofs.Steps.{stepped_refused}
use Rattle.sheet.proofs.event.checkpoint_event.Goals as goal

pub returns-then-kind-ne0 : goal.returns-then-kind-ne0
returns-then-kind-ne0 c = λ s left v. stepped_refused v (checkpoint_kind _ _ _ _ _ c.if-kind-ne0.true) refl

pub returns-then-register-ge-REGISTERS : goal.returns-then-register-ge-REGISTERS
returns-then-register-ge-REGISTERS c = λ s left v. stepped_refused v (checkpoint_register _ _ _ _ _ c.if-kind-ne0.false c.if-register-ge-REGISTERS.true) refl

pub returns : goal.returns
returns c = λ s left v. rw (checkpoint_good _ _ _ c.args.register _ c.if-kind-ne0.false (omega (arith, c.if-register-ge-REGISTERS.false))) (c.set_checkpoint.ensures s v)
