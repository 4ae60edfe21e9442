-- `text_of` meets its contract.
use native.Mathlib.Omega.{arith}
use Rattle.green.proofs.Answering.{token_bound, token_part}
use Rattle.green.proofs.Store.text_of.Goals as goal

pub overflow_add-result : goal.overflow_add-result
overflow_add-result c = omega (arith, token_bound _ c.args.n c.requires.0 c.requires.1, c.first_of-first.ensures, c.count_of-count.ensures)

pub slice_bounds-result-end : goal.slice_bounds-result-end
slice_bounds-result-end c = omega (arith, token_bound _ c.args.n c.requires.0 c.requires.1, c.first_of-first.ensures, c.count_of-count.ensures)

pub returns : goal.returns
returns c = token_part _ c.args.n c.requires.0 c.requires.1 c.first_of-first.result c.count_of-count.result c.first_of-first.ensures c.count_of-count.ensures
