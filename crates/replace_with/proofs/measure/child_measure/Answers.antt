-- `child_measure` meets its contract.
use mathlib.Core.Path.{ap}
use native.Mathlib.Omega.{arith}
use Rattle.replace_with.proofs.Measuring.{new_child, old_child}
use Rattle.replace_with.proofs.measure.child_measure.Goals as goal

pub returns-then-k-i : goal.returns-then-k-i
returns-then-k-i c = record { summable = c.requires.exchanges.fits; measure_of = new_child c.requires.exchanges c.if-k-i.true }

pub measure_of-requires : goal.measure_of-requires
measure_of-requires c = record { valid = c.requires.exchanges.known.valid; within = omega (arith, c.nth_child-child.ensures.1, c.requires.exchanges.known.within) }

pub returns : goal.returns
returns c = record { summable = c.measure_of.ensures.1; measure_of = old_child c.requires.exchanges c.requires.k_in_bounds (ap (λ x. x.number) c.nth_child-child.ensures.0) c.if-k-i.false c.measure_of.ensures.0 }
