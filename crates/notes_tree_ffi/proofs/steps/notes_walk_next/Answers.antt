-- `notes_walk_next` meets its contract.
use native.Mathlib.Omega.{arith}
use Rattle.notes_tree_ffi.proofs.Exporting.{next_told}
use Rattle.notes_tree_ffi.proofs.steps.notes_walk_next.Goals as goal

pub returns : goal.returns
returns c = next_told (omega (arith, c.show-arg-1.given)) c.with_tokens-tokens.ensures c.coming-coming.ensures c.next-step.ensures (omega (arith, c.show_path-arg-2-1.given)) c.move_on.ensures c.put_walk.ensures
