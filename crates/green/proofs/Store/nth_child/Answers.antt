-- `nth_child` meets its contract.
use native.Mathlib.Omega.{arith}
use Rattle.green.proofs.Answering.{child_bound, child_place}
use Rattle.green.proofs.Store.nth_child.Goals as goal

pub overflow_add-word : goal.overflow_add-word
overflow_add-word c = omega (arith, child_bound _ c.args.n c.requires.known.0 c.args.k c.requires.known.1 c.requires.k_in_bounds, c.first_of-first.ensures)

pub offset_bounds-self-first : goal.offset_bounds-self-first
offset_bounds-self-first c = omega (arith, child_bound _ c.args.n c.requires.known.0 c.args.k c.requires.known.1 c.requires.k_in_bounds, c.first_of-first.ensures)

pub bounds-self-first : goal.bounds-self-first
bounds-self-first c = omega (arith, child_bound _ c.args.n c.requires.known.0 c.args.k c.requires.known.1 c.requires.k_in_bounds, c.first_of-first.ensures)

pub returns : goal.returns
returns c = child_place _ c.args.n c.requires.known.0 c.args.k c.requires.known.1 c.requires.k_in_bounds c.first_of-first.result c.first_of-first.ensures
