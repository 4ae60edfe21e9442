use mathlib.Core.List.{[]}
use lib.ListN.{length}
use Rattle.green.specs.Store.{entries}
use Rattle.green.specs.View.{view}
use Rattle.syntax_text_chunks.specs.Places.{counted, rest}
use Rattle.syntax_text_chunks.proofs.Turning.{Settling}
use Rattle.syntax_text_chunks.proofs.place.settle.Given as goal

abbrev pub invariant-loop-found : goal.invariant-loop-found
invariant-loop-found l = Settling (view l.store) l.start l.end l.top l.initial.place l.initial.at l.place l.at

abbrev pub decreases-loop-found : goal.decreases-loop-found
decreases-loop-found l = length (rest (entries (view l.store)) counted [] l.top l.place l.at)
