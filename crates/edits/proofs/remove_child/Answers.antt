-- `remove_child` meets its contract.
use Rattle.edits.proofs.Edits.{done_as, remove_splice}
use Rattle.edits.proofs.remove_child.Goals as goal

pub returns-clause-done : goal.returns-clause-done
returns-clause-done c = done_as (remove_splice c.requires _ _ _ c.saturating_add-after.ensures) c.splice_children.ensures.done
