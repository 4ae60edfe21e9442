-- `replace_child` meets its contract.
use Rattle.utility_types.proofs.Passing.{passed_on}
use Rattle.edits.proofs.Edits.{done_as, new_replace_splice, replace_refused}
use Rattle.edits.proofs.replace_child.Goals as goal

pub returns-in_err-one-clause-done : goal.returns-in_err-one-clause-done
returns-in_err-one-clause-done c = rw (passed_on _ c.from_residual.ensures.1) (replace_refused c.requires _ _ _ (rw c.read-read.ensures at c.in_err-one.ensures))

pub returns-clause-done : goal.returns-clause-done
returns-clause-done c = done_as (new_replace_splice _ _ _ _ _ (rw c.read-read.ensures at c.in_ok-one.ensures) (rw c.read-read.ensures at c.replaced-span.ensures)) c.splice_children.ensures.done
