-- `is_within` meets its contract.
use native.Mathlib.Omega.{arith}
use Rattle.green_new.proofs.Making.{too_high, too_large, by_length}
use Rattle.green_new.proofs.limits.is_within.Goals as goal

pub returns-then-x-gt-MAX_HEIGHT : goal.returns-then-x-gt-MAX_HEIGHT
returns-then-x-gt-MAX_HEIGHT c = λ n few. too_high n _ _ _ few (omega (arith, c.if-x-gt-MAX_HEIGHT.true))

pub returns-then-x-gt-MAX_SIZE : goal.returns-then-x-gt-MAX_SIZE
returns-then-x-gt-MAX_SIZE c = λ n few. too_large n _ _ _ few c.if-x-gt-MAX_SIZE.true

pub returns : goal.returns
returns c = λ n few. by_length n _ _ _ few c.if-x-gt-MAX_HEIGHT.false c.if-x-gt-MAX_SIZE.false
