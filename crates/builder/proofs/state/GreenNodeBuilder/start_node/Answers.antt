-- `start_node` meets its contract.
use Rattle.builder.proofs.Opening.{fits_last, node_started}
use Rattle.builder.proofs.state.GreenNodeBuilder.start_node.Goals as goal

pub returns : goal.returns
returns c = λ s v. node_started v c.args.kind.0 (rw c.len.ensures.value at (c.open_node.ensures s v (rw c.len.ensures.value (fits_last v))))
