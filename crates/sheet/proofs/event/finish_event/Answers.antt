-- `finish_event` meets its contract.
use mathlib.Core.Path.{refl}
use Rattle.definitions.proofs.Judging.{finish_kind, finish_operand, finish_good}
use Rattle.builder.proofs.Steps.{stepped_refused}
use borrow.Author.Rules.{rules}
use Rattle.sheet.proofs.Parts.{of_parts}
use Rattle.sheet.proofs.event.finish_event.Goals as goal

pub returns-then-kind-ne0-clause-does : goal.returns-then-kind-ne0-clause-does
returns-then-kind-ne0-clause-does c = λ left. stepped_refused c.requires (finish_kind _ _ _ _ _ c.if-kind-ne0.true) refl

pub returns-then-operand-ne0-clause-does : goal.returns-then-operand-ne0-clause-does
returns-then-operand-ne0-clause-does c = λ left. stepped_refused c.requires (finish_operand _ _ _ _ _ c.if-kind-ne0.false c.if-operand-ne0.true) refl

pub returns-clause-does : goal.returns-clause-does
returns-clause-does c = λ left. rw (finish_good _ _ _ _ _ c.if-kind-ne0.false c.if-operand-ne0.false) (of_parts c.finish_node.ensures.does (search rules) (search rules) (search rules) (search rules))
