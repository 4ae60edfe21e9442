-- `open_node` meets its contract.
use Rattle.builder.proofs.Opening.{node_too_deep, node_opened}
use Rattle.builder.proofs.Steps.{full, not_full}
use Rattle.builder.proofs.state.GreenNodeBuilder.open_node.Goals as goal

pub returns-then-is_full : goal.returns-then-is_full
returns-then-is_full c = λ s v fits. node_too_deep v c.args.kind.0 c.args.first.0 (full c.is_full.ensures.value c.if-is_full.true)

pub returns : goal.returns
returns c = λ s v fits. node_opened v _ fits (not_full c.is_full.ensures.value c.is_full.ensures.fits c.if-is_full.false) c.push.ensures.items
