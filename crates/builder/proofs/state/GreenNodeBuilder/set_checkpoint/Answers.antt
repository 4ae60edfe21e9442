-- `set_checkpoint` meets its contract.
use Rattle.builder.proofs.Registers.{checkpoint_set}
use Rattle.builder.proofs.state.GreenNodeBuilder.set_checkpoint.Goals as goal

pub returns : goal.returns
returns c = λ s v. rw c.len.ensures.value (checkpoint_set v c.args.register)
