-- `notes_walk_begin` meets its contract.
use native.Mathlib.Omega.{arith}
use Rattle.notes_tree_ffi.proofs.Exporting.{begin_told}
use Rattle.notes_tree_ffi.proofs.steps.notes_walk_begin.Goals as goal

pub returns : goal.returns
returns c = begin_told (omega (arith, c.show-arg-2-1.given)) c.flag-tokens.ensures c.begin-moved.ensures c.begin.ensures c.moved.ensures
