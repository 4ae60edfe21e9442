use Rattle.green.proofs.Empty.{empty_valid}
use Rattle.replay.proofs.calls.on_store.Goals as goal

pub answer_all-requires : goal.answer_all-requires
answer_all-requires c = empty_valid _ _ _
