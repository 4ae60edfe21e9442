-- `notes_walk_many` meets its contract.
use native.Mathlib.Omega.{arith}
use Rattle.notes_tree_ffi.proofs.Exporting.{many_told}
use Rattle.notes_tree_ffi.proofs.steps.notes_walk_many.Goals as goal

pub returns : goal.returns
returns c = many_told (omega (arith, c.show-arg-1.given)) c.with_tokens-tokens.ensures c.coming-coming.ensures c.next_many-given.ensures c.move_on.ensures c.put_given.ensures
