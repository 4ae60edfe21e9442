use Prim.Native.Nat.{◌-◌}
use Rattle.green.specs.Store.{entries}
use Rattle.green.specs.View.{view}
use Rattle.syntax_text.specs.Piece.{NodeIn}
use Rattle.syntax_text.proofs.Finding.{Seeking}
use Rattle.syntax_text.proofs.chars.find_in.Given as goal

abbrev pub invariant-loop-x : goal.invariant-loop-x
invariant-loop-x l = Seeking (entries (view l.store)) l.at l.start l.end l.character l.x × NodeIn (view l.store) l.at l.parent

abbrev pub decreases-loop-x : goal.decreases-loop-x
decreases-loop-x l = l.end - l.x
