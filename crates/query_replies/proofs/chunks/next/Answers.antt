use Rattle.std.proofs.Common.{arith, ap}
use Rattle.query_replies.proofs.chunks.next.Goals as goal
use Rattle.query_replies.proofs.chunks.next.Goals.{then-it-gt0, else-it-gt0}

-- the state keeps no place, or the one that a step has left
pub next_chunk-came-requires : goal.next_chunk-came-requires
next_chunk-came-requires c =
    elim c.if-it-gt0.branch [ then-it-gt0 w ↦ rw w.chunks-is w.next_chunk.ensures.chunk_next.kept | else-it-gt0 w ↦ λ n e. absurd (omega (arith, e, ap (λ x. x.kept) w.chunks-is)) ]
