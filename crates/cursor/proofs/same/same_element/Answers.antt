-- `same_element` meets its contract.
use mathlib.Core.Path.{refl}
use Rattle.utility_types.proofs.Passing.{passed_on}
use Rattle.cursor.proofs.Sameness.{first_absent, second_absent, same_number, other_number}
use Rattle.cursor.proofs.same.same_element.Goals as goal

pub returns-in_err-one : goal.returns-in_err-one
returns-in_err-one c = rw (passed_on _ c.from_residual.ensures.1) (first_absent c.in_err-one.ensures refl _ _ _)

pub returns-in_err-two : goal.returns-in_err-two
returns-in_err-two c = rw (passed_on _ c.from_residual-in_err-two.ensures.1) (second_absent c.in_ok-one.ensures c.in_err-two.ensures refl refl)

pub returns-then-a-b : goal.returns-then-a-b
returns-then-a-b c = same_number c.in_ok-one.ensures c.in_ok-two.ensures refl refl c.if-a-b.true

pub returns-else-a-b : goal.returns-else-a-b
returns-else-a-b c = other_number c.in_ok-one.ensures c.in_ok-two.ensures refl refl c.if-a-b.false
