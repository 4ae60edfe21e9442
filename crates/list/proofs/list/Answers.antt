use Rattle.green.proofs.Empty.{empty_valid}
use Rattle.list.proofs.list.Goals as goal

pub run_alone-ended-requires : goal.run_alone-ended-requires
run_alone-ended-requires c = empty_valid _ _ _
