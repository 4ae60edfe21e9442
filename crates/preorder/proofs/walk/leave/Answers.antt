-- `leave` meets its contract.
use mathlib.Core.Path.{refl}
use Rattle.preorder.proofs.Stepping.{leave_refused, leave_start, leave_root, leave_child}
use Rattle.preorder.proofs.walk.leave.Goals as goal

pub returns-in-Err : goal.returns-in-Err
returns-in-Err c = leave_refused c.coming_element-found.ensures _ c.requires.1 c.in-Err.is _

pub returns-then-depth-start : goal.returns-then-depth-start
returns-then-depth-start c = leave_start c.coming_element-found.ensures _ c.requires.1 c.in-Ok.is c.syntax_element-element.ensures c.requires.0 _ c.if-depth-start.true

pub returns-in_default : goal.returns-in_default
returns-in_default c = leave_root c.coming_element-found.ensures _ c.requires.1 c.in-Ok.is c.syntax_element-element.ensures c.requires.0 _ c.if-depth-start.false c.in_default.is

pub returns : goal.returns
returns c = leave_child c.coming_element-found.ensures _ c.requires.1 c.in-Ok.is c.syntax_element-element.ensures c.requires.0 _ c.if-depth-start.false c.in-Some.is refl c.go_on-ahead.ensures
