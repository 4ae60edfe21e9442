use Prim.Native.Nat.{◌+◌, ◌*◌}
use Rattle.definitions.specs.Tree.{height}
use Rattle.definitions.specs.Entry.{tree_at}
use Rattle.green.specs.Store.{entries}
use Rattle.green.specs.View.{view}
use Rattle.cursor.proofs.Occurring.{NotYetFound}
use Rattle.cursor.proofs.whereabouts.+occurrence_below_occurrence_in.Given as goal

abbrev pub decreases-occurrence_below : goal.decreases-occurrence_below
decreases-occurrence_below l = 2 * height (tree_at (entries (view l.store.now)) l.at.number)

abbrev pub decreases-occurrence_in : goal.decreases-occurrence_in
decreases-occurrence_in l = 2 * height (tree_at (entries (view l.store.now)) l.at.number) + 1

abbrev pub invariant-occurrence_below-loop-i : goal.invariant-occurrence_below-loop-i
invariant-occurrence_below-loop-i l = NotYetFound (view l.store) l.number l.at l.initial.path l.path l.i
