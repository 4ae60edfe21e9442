-- `word` meets its contract.
use native.Mathlib.Omega.{arith}
use Rattle.green.proofs.Known.{record_bound, field}
use Rattle.green.proofs.Store.word.Goals as goal

pub overflow_mul-result : goal.overflow_mul-result
overflow_mul-result c = omega (arith, record_bound _ _ c.requires.0)

pub overflow_add-result : goal.overflow_add-result
overflow_add-result c = omega (arith, record_bound _ _ c.requires.0)

pub offset_bounds-self-n : goal.offset_bounds-self-n
offset_bounds-self-n c = omega (arith, record_bound _ _ c.requires.0)

pub bounds-self-n : goal.bounds-self-n
bounds-self-n c = omega (arith, record_bound _ _ c.requires.0)

pub returns : goal.returns
returns c = field _ c.args.n c.requires.0 c.args.f c.requires.1
