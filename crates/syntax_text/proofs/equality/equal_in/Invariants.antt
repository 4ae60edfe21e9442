use Prim.Native.Nat.{◌-◌}
use Rattle.green.specs.Store.{entries}
use Rattle.green.specs.View.{view}
use Rattle.syntax_text.specs.Piece.{NodeIn}
use Rattle.syntax_text.proofs.Comparing.{Comparing}
use Rattle.syntax_text.proofs.equality.equal_in.Given as goal

abbrev pub invariant-loop-i : goal.invariant-loop-i
invariant-loop-i l =
    Comparing (entries (view l.store)) l.at l.other l.start l.other_start l.len l.i × NodeIn (view l.store) l.at l.parent × NodeIn (view l.store) l.other l.other_parent

abbrev pub decreases-loop-i : goal.decreases-loop-i
decreases-loop-i l = l.len - l.i
