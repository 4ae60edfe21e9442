-- `notes_next_chunk` meets its contract.
use borrow.Author.Rules.{rules}
use native.Mathlib.Omega.{arith}
use Rattle.abi.proofs.Telling.{part_told_as}
use Rattle.notes_tree_ffi.proofs.Exporting.{chunk_told_lem}
use Rattle.notes_tree_ffi.proofs.steps.notes_next_chunk.Goals as goal

pub returns : goal.returns
returns c =
    let e = c.next_part-came.ensures in
    chunk_told_lem c.args.state.now (omega (arith, c.show-arg-2-1.given)) e.chunk_next (omega (arith, c.show_path-arg-2-1.given)) e.part_given.0 (rw (part_told_as _ e.part_given.1) c.put_chunk.ensures) (search rules)
