-- `fx_hash::wrapping_mul` meets its contract: three products of halves give the product.
use Rattle.std.proofs.Common.{◌∙◌}
use Rattle.fx_hash.proofs.Halves.{by_halves}
use Rattle.fx_hash.proofs.wrapping_mul.Goals as goal

pub returns : goal.returns
returns c =
    c.wrapping_add_u64.ensures.value ∙ rw c.wrapping_add_u64-mid.ensures.value (by_halves c.args.a c.args.b)
