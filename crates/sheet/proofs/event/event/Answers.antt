-- `event` meets its contract.
use mathlib.Core.Path.{refl}
use Rattle.builder.proofs.Steps.{stepped_refused}
use Rattle.sheet.proofs.Codes.{code_is, unknown}
use Rattle.sheet.proofs.event.event.Goals as goal

pub returns-in_default-clause-does : goal.returns-in_default-clause-does
returns-in_default-clause-does c = stepped_refused c.requires (unknown c.in_default.ensures.1 _ _ _ _ _) refl

pub returns-in-StartNode-clause-does : goal.returns-in-StartNode-clause-does
returns-in-StartNode-clause-does c = rw (code_is c.in-Ok.ensures c.in-StartNode.is) (c.start_event.ensures _ _ c.requires)

pub returns-in-Checkpoint-clause-does : goal.returns-in-Checkpoint-clause-does
returns-in-Checkpoint-clause-does c = rw (code_is c.in-Ok.ensures c.in-Checkpoint.is) (c.checkpoint_event.ensures _ _ c.requires)

pub returns-in-StartNodeAt-clause-does : goal.returns-in-StartNodeAt-clause-does
returns-in-StartNodeAt-clause-does c = rw (code_is c.in-Ok.ensures c.in-StartNodeAt.is) (c.start_at_event.ensures _ _ c.requires)
