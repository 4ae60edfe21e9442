-- `choose` meets its contract.
use native.Mathlib.Omega.{arith}
use borrow.Author.Tests.{eqb-true, ltb-true}
use Rattle.cursor_range.proofs.Choosing.{no_child_chosen, short_chosen, before_chosen, last_chosen}
use Rattle.cursor_range.proofs.range.choose.Goals as goal
use Rattle.cursor_range.proofs.range.choose.Goals.{else-last-gt0-via-then-last-gt0+then-child-end+else-end-child_end, else-last-gt0-via-then-last-gt0+else-child-end, else-last-gt0-via-else-last-gt0}

pub returns-then-count-eq0 : goal.returns-then-count-eq0
returns-then-count-eq0 c = no_child_chosen c.requires.inner c.requires.partition.2 (rw c.if-count-eq0.true at c.requires.partition.0) c.requires.partition.1

pub returns-then-child_end-end : goal.returns-then-child_end-end
returns-then-child_end-end c = short_chosen c.requires.inner c.requires.partition.2 c.requires.partition.0 (omega (arith, c.if-count-eq0.false)) c.child-child.ensures c.end_of-child_end.ensures.0 c.if-child_end-end.true c.child_count.ensures.0

pub returns-then-end-child_end : goal.returns-then-end-child_end
returns-then-end-child_end c = before_chosen c.requires.inner c.requires.partition.2 c.requires.partition.0 (omega (arith, c.if-count-eq0.false)) c.child-child.ensures c.end_of-child_end.ensures.0 (omega (arith, c.if-last-gt0.true)) (eqb-true _ _ c.if-child-end.true-raw) (ltb-true _ _ c.if-end-child_end.true-raw)

pub returns : goal.returns
returns c =
    last_chosen c.requires.inner c.requires.partition.2 c.requires.partition.0 (omega (arith, c.if-count-eq0.false)) c.child-child.ensures c.end_of-child_end.ensures.0 c.if-child_end-end.false
    (λ p q l. elim c.else-last-gt0.branch [ else-last-gt0-via-then-last-gt0+then-child-end+else-end-child_end w ↦ omega (arith, w.if-end-child_end.false) | else-last-gt0-via-then-last-gt0+else-child-end w ↦ w.if-child-end.false q | else-last-gt0-via-else-last-gt0 w ↦ omega (arith, w.if-last-gt0.false) ])
