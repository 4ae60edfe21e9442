-- `chunk_of` meets its contract.
use Prim.Native.Nat.{◌-◌, max}
use native.Mathlib.Omega.{arith}
use mathlib.Core.Path.{◌≡◌, refl}
use Rattle.syntax_text_chunks.proofs.Chunking.{chunk_bound, chunk_end, chunk_lies, chunk_own}
use Rattle.syntax_text_chunks.proofs.chunks.chunk_of.Goals as goal

pub overflow_add-result : goal.overflow_add-result
overflow_add-result c = omega (arith, chunk_bound c.requires.0 c.requires.1 c.requires.2 c.first_of-first.ensures c.count_of-count.ensures refl c.min-to.ensures, c.saturating_sub-from.ensures)

pub overflow_add-result-2 : goal.overflow_add-result-2
overflow_add-result-2 c = omega (arith, chunk_end c.requires.0 c.requires.1 c.requires.2 c.first_of-first.ensures c.count_of-count.ensures refl c.min-to.ensures)

pub returns : goal.returns
returns c =
    let a = c.args in
    let z : c.saturating_sub-from.result ≡ max a.start a.found.start - a.found.start = omega (arith, c.saturating_sub-from.ensures) in
    rw z (record {
      lies_in = chunk_lies c.requires.0 c.requires.1 c.requires.2 c.first_of-first.ensures c.count_of-count.ensures refl c.min-to.ensures;
      own_part = chunk_own c.requires.0 c.requires.1 c.requires.2 c.first_of-first.ensures c.count_of-count.ensures refl c.min-to.ensures;
    })
