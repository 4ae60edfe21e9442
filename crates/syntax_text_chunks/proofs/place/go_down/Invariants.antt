use Rattle.green.specs.View.{view}
use Rattle.syntax_text_chunks.proofs.Placing.{Going}
use Rattle.syntax_text_chunks.proofs.place.go_down.Given as goal

abbrev pub invariant-loop-index : goal.invariant-loop-index
invariant-loop-index l = Going (view l.store) l.initial.at l.place l.depth l.at l.later l.index-index
