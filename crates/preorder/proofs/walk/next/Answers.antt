-- `next` meets its contract.
use mathlib.Core.Path.{sym, ◌∙◌}
use Rattle.preorder.proofs.Next.{next_entering, next_leave, next_ended, ended_is, leave_is}
use Rattle.preorder.proofs.walk.next.Goals as goal

pub returns-then-is_entering : goal.returns-then-is_entering
returns-then-is_entering c = next_entering _ _ (sym c.is_entering.ensures ∙ c.if-is_entering.true) (c.enter.ensures _)

pub returns-then-is_over : goal.returns-then-is_over
returns-then-is_over c = next_ended _ _ _ _ _ _ _ c.requires (ended_is _ (sym c.is_over.ensures ∙ c.if-is_over.true))

pub returns : goal.returns
returns c = next_leave _ _ (leave_is _ (sym c.is_entering.ensures ∙ c.if-is_entering.false) (sym c.is_over.ensures ∙ c.if-is_over.false)) c.leave.ensures
