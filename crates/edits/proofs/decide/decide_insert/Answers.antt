-- `decide_insert` meets its contract.
use Rattle.utility_types.proofs.Passing.{passed_on}
use Rattle.edits.proofs.Edits.{judged_as, new_insert_splice, inserted_children, insert_judged}
use Rattle.edits.proofs.decide.decide_insert.Goals as goal

pub returns-in_err-one : goal.returns-in_err-one
returns-in_err-one c = rw (passed_on _ c.from_residual.ensures.1) (insert_judged c.args.store.valid _ c.args.i _ c.in_err-one.ensures)

pub returns : goal.returns
returns c = judged_as _ _ _ _ _ _ _ (λ l. new_insert_splice l _ _ _ _ c.in_ok-one.ensures) (λ _. inserted_children c.in_ok-one.ensures _ _) _ c.decide_splice.ensures
