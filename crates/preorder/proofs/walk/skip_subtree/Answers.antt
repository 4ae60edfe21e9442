-- `skip_subtree` meets its contract.
use Rattle.preorder.proofs.Skipped.{skip_first, skip_leave, skip_ended, skip_root, skip_enter}
use Rattle.preorder.proofs.walk.skip_subtree.Goals as goal

pub returns-then-depth-eq0 : goal.returns-then-depth-eq0
returns-then-depth-eq0 c = skip_root c.in-Enter.is c.if-depth-eq0.true

pub returns-in-First : goal.returns-in-First
returns-in-First c = skip_first c.in-First.is

pub returns-else-depth-eq0 : goal.returns-else-depth-eq0
returns-else-depth-eq0 c = skip_enter c.requires c.in-Enter.is c.if-depth-eq0.false

pub returns-in-Leave : goal.returns-in-Leave
returns-in-Leave c = skip_leave c.requires c.in-Leave.is

pub returns-in-Ended : goal.returns-in-Ended
returns-in-Ended c = skip_ended c.requires c.in-Ended.is
