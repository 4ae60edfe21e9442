-- `child` meets its contract.
use Rattle.cursor.proofs.Positions.{start_fits, child_at_lem}
use native.Mathlib.Omega.{arith}
use Rattle.cursor.proofs.position.child.Goals as goal

pub overflow_add-result : goal.overflow_add-result
overflow_add-result c = omega (arith, start_fits c.requires.inner _ c.requires.k_bound c.nth_child-child.ensures.0)

pub returns : goal.returns
returns c = child_at_lem c.requires.inner _ c.requires.k_bound c.nth_child-child.ensures.0
