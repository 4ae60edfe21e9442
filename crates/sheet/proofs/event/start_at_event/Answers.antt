-- `start_at_event` meets its contract.
use native.Mathlib.Omega.{arith}
use mathlib.Core.Path.{refl}
use Rattle.definitions.proofs.Judging.{start_at_register, start_at_good}
use Rattle.builder.proofs.Steps.{stepped_refused}
use Rattle.sheet.proofs.event.start_at_event.Goals as goal

pub returns-then-register-ge-REGISTERS : goal.returns-then-register-ge-REGISTERS
returns-then-register-ge-REGISTERS c = λ s left v. stepped_refused v (start_at_register _ _ _ _ _ c.if-register-ge-REGISTERS.true) refl

pub returns : goal.returns
returns c = λ s left v. rw (start_at_good _ _ _ c.args.register _ (omega (arith, c.if-register-ge-REGISTERS.false))) (c.start_node_at.ensures s v)
