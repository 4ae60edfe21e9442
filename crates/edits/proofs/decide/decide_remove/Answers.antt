-- `decide_remove` meets its contract.
use Rattle.edits.proofs.Edits.{judged_as, remove_splice, removed_children}
use Rattle.edits.proofs.decide.decide_remove.Goals as goal

pub returns : goal.returns
returns c = judged_as _ _ _ _ _ _ _ (λ l. remove_splice c.args.store.valid l _ _ c.saturating_add-after.ensures) (removed_children c.args.store.valid _ _ c.saturating_add-after.ensures) _ c.decide_splice.ensures
