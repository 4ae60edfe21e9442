-- `notes_edit` meets its contract.
use mathlib.Core.Path.{refl}
use Rattle.abi.proofs.Telling.{missed, past_end, wordless}
use Rattle.notes_tree.specs.History.{Edit}
use Rattle.notes_tree_ffi.specs.Exports.{edits}
use Rattle.notes_tree_ffi.proofs.Going.{reached_valid}
use Rattle.notes_tree_ffi.proofs.Exporting.{edit_told, no_edit}
use Rattle.notes_tree_ffi.proofs.writes.notes_edit.Goals as goal
use Rattle.notes_tree_ffi.proofs.writes.notes_edit.Goals.{in-0, in-1, in-2, in-3, in-4}

pub replace_child-made-requires : goal.replace_child-made-requires
replace_child-made-requires c = reached_valid c.requires

pub insert_child-made-requires : goal.insert_child-made-requires
insert_child-made-requires c = reached_valid c.requires

pub remove_child-made-requires : goal.remove_child-made-requires
remove_child-made-requires c = reached_valid c.requires

pub splice_children-made-requires : goal.splice_children-made-requires
splice_children-made-requires c = reached_valid c.requires

pub replace_with-made-requires : goal.replace_with-made-requires
replace_with-made-requires c = reached_valid c.requires

pub returns-clause-exported : goal.returns-clause-exported
returns-clause-exported c =
    elim c.match-code.branch [
      | in-0 w ↦ edit_told (Edit.replace_child _ _ _) (rw w.in-0.is refl) (rw (← w.store-is, ← w.made-is) at w.replace_child-made.ensures.done) c.put_made.ensures
      | in-1 w ↦ edit_told (Edit.insert_child _ _ _) (rw w.in-1.is refl) (rw (← w.store-is, ← w.made-is) at w.insert_child-made.ensures.done) c.put_made.ensures
      | in-2 w ↦ edit_told (Edit.remove_child _ _) (rw w.in-2.is refl) (rw (← w.store-is, ← w.made-is) at w.remove_child-made.ensures.done) c.put_made.ensures
      | in-3 w ↦ edit_told (Edit.splice_children _ _ _ _) (rw w.in-3.is refl) (rw (← w.store-is, ← w.made-is) at w.splice_children-made.ensures.done) c.put_made.ensures
      | in-4 w ↦ edit_told (Edit.replace_with _ _ _ _) (rw w.in-4.is refl) (rw (← w.store-is, ← w.made-is) at w.replace_with-made.ensures.done) c.put_made.ensures
    ]

pub returns-in_default-clause-exported : goal.returns-in_default-clause-exported
returns-in_default-clause-exported c = no_edit (past_end (edits c.args.number c.args.from c.args.to c.args.news.now c.args.path.now) _ (missed 5 _ c.in_default.in_default-own.rest)) (wordless refl)
