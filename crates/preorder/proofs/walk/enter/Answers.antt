-- `enter` meets its contract.
use Rattle.cursor.proofs.Positions.{leaf}
use Rattle.preorder.proofs.Stepping.{come, enter_refused, enter_token, enter_node}
use Rattle.preorder.proofs.walk.enter.Goals as goal

pub returns-in-Err : goal.returns-in-Err
returns-in-Err c = λ start. enter_refused c.coming_element-found.ensures _ c.requires.1 c.in-Err.is start

pub returns-in_default : goal.returns-in_default
returns-in_default c = λ start. enter_token c.coming_element-found.ensures _ c.requires.1 c.in-Ok.is c.syntax_element-element.ensures (leaf (come c.coming_element-found.ensures c.in-Ok.is).located.placed c.node_or_token.ensures c.in_default.is) start

pub returns : goal.returns
returns c = λ start. enter_node c.coming_element-found.ensures _ c.requires.1 c.in-Ok.is c.syntax_element-element.ensures c.go_on-ahead.ensures start
