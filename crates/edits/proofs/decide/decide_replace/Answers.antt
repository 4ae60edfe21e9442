-- `decide_replace` meets its contract.
use Rattle.utility_types.proofs.Passing.{passed_on}
use Rattle.edits.proofs.Edits.{judged_as, new_replace_splice, replaced_children, replace_judged}
use Rattle.edits.proofs.decide.decide_replace.Goals as goal

pub returns-in_err-one : goal.returns-in_err-one
returns-in_err-one c = rw (passed_on _ c.from_residual.ensures.1) (replace_judged c.args.store.valid _ _ _ c.in_err-one.ensures)

pub returns : goal.returns
returns c = judged_as _ _ _ _ _ _ _ (λ l. new_replace_splice l _ _ _ _ c.in_ok-one.ensures c.replaced-span.ensures) (λ _. replaced_children c.in_ok-one.ensures _ _ c.replaced-span.ensures) _ c.decide_splice.ensures
