-- `next_many` meets its contract.
use mathlib.Core.Path.{sym, ◌∙◌}
use borrow.Author.Tests.{not-true}
use Rattle.preorder_many.proofs.Run.{none_over, none_there}
use Rattle.preorder_many.proofs.walk.next_many.Goals as goal

pub returns-then-is_over : goal.returns-then-is_over
returns-then-is_over c = none_over _ _ _ _ _ _ _ c.requires (sym c.is_over.ensures ∙ c.if-is_over.true)

pub returns-then-not-go_down : goal.returns-then-not-go_down
returns-then-not-go_down c = none_there c.args.start c.args.coming c.args.events.now c.requires (sym c.is_over.ensures ∙ c.if-is_over.false) (c.go_down.ensures.coming (not-true _ c.if-not-go_down.true-raw))
