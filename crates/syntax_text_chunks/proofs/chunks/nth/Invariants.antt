use Prim.Native.Nat.{◌≤◌}
use Rattle.green.specs.Store.{entries}
use Rattle.green.specs.View.{view}
use Rattle.syntax_text_chunks.specs.Chunks.{chunks_from}
use Rattle.syntax_text_chunks.specs.Places.{SettleDone}
use Rattle.syntax_text_chunks.proofs.chunks.nth.Given as goal

abbrev pub invariant-loop-i : goal.invariant-loop-i
invariant-loop-i l = (l.i ≤ l.given) × SettleDone (view l.store) l.start l.end l.top (chunks_from (entries (view l.store)) l.start l.end l.top l.i) l.initial.place l.place l.found
