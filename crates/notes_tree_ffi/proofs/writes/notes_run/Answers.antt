-- `notes_run` meets its contract.
use native.Mathlib.Omega.{arith}
use mathlib.Core.Path.{◌≡◌}
use lib.ListN.{length}
use Rattle.notes_tree_ffi.proofs.Going.{reached_valid}
use Rattle.notes_tree_ffi.proofs.Exporting.{run_told}
use Rattle.notes_tree_ffi.proofs.writes.notes_run.Goals as goal

pub run_alone-ended-requires : goal.run_alone-ended-requires
run_alone-ended-requires c = reached_valid c.requires

pub returns-clause-exported : goal.returns-clause-exported
returns-clause-exported c = let long : length c.args.yields.now ≡ 4096 = omega (arith, c.show-arg-2-1.given) in run_told c.args.yields.now long c.run_alone-ended.ensures.run_done c.run_alone-ended.ensures.yields_done c.put_ended.ensures
