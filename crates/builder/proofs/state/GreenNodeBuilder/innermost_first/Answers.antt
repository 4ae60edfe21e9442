-- `innermost_first` meets its contract.
use Rattle.builder.proofs.Parents.{innermost_none, innermost_last}
use Rattle.builder.proofs.state.GreenNodeBuilder.innermost_first.Goals as goal

pub returns-then-open-eq0 : goal.returns-then-open-eq0
returns-then-open-eq0 c = innermost_none c.as_slice-parents.ensures.value c.if-open-eq0.true

pub returns : goal.returns
returns c = innermost_last c.as_slice-parents.ensures.value c.if-open-eq0.false
