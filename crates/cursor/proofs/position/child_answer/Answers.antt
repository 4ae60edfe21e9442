-- `child_answer` meets its contract.
use Rattle.cursor.proofs.Telling.{no_child_told, child_told_lem}
use Rattle.cursor.proofs.position.child_answer.Goals as goal

pub returns-then-child_count-k : goal.returns-then-child_count-k
returns-then-child_count-k c = no_child_told c.requires.0 c.child_count.ensures.0 c.if-child_count-k.true

pub returns : goal.returns
returns c = child_told_lem c.requires.1 c.child-found.ensures c.syntax_element.ensures
