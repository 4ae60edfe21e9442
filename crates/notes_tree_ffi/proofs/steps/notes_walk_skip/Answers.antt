-- `notes_walk_skip` meets its contract.
use native.Mathlib.Omega.{arith}
use Rattle.notes_tree_ffi.proofs.Exporting.{skip_told}
use Rattle.notes_tree_ffi.proofs.steps.notes_walk_skip.Goals as goal

pub returns : goal.returns
returns c = skip_told (omega (arith, c.show-arg-2-1.given)) c.requires c.coming-coming.ensures c.skip_subtree-moved.ensures c.skip.ensures c.moved.ensures
