-- `start_event` meets its contract.
use mathlib.Core.Path.{refl}
use Rattle.definitions.proofs.Judging.{start_operand, start_good}
use Rattle.builder.proofs.Steps.{stepped_refused}
use Rattle.sheet.proofs.event.start_event.Goals as goal

pub returns-then-operand-ne0 : goal.returns-then-operand-ne0
returns-then-operand-ne0 c = λ s left v. stepped_refused v (start_operand _ _ _ _ _ c.if-operand-ne0.true) refl

pub returns : goal.returns
returns c = λ s left v. rw (start_good _ _ _ _ _ c.if-operand-ne0.false) (c.start_node.ensures s v)
