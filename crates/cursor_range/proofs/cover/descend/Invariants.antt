use Prim.Native.Nat.{◌+◌, ◌-◌}
use Rattle.definitions.specs.Tree.{height}
use Rattle.definitions.specs.Entry.{tree_at}
use Rattle.green.specs.Store.{entries}
use Rattle.green.specs.View.{view}
use Rattle.cursor_range.specs.Search.{Narrowed}
use Rattle.cursor_range.proofs.Covering.{Descending}
use Rattle.cursor_range.proofs.cover.descend.Given as goal

abbrev pub invariant-scan : goal.invariant-scan
invariant-scan l = Narrowed (entries (view l.store)) l.at (l.start + 1) l.left.low l.left.high

abbrev pub decreases-scan : goal.decreases-scan
decreases-scan l = l.left.high - l.left.low

abbrev pub invariant-descend : goal.invariant-descend
invariant-descend l = Descending (view l.store) l.start l.end l.initial.at l.initial.path l.at l.path

abbrev pub decreases-descend : goal.decreases-descend
decreases-descend l = height (tree_at (entries (view l.store)) l.at.number)
