-- `same_bytes` meets its contract.
use native.Mathlib.Omega.{arith}
use Rattle.definitions.proofs.Comparing.{unequal_lengths, compared_start, compared_differ, compared_next, compared_end}
use Rattle.node_cache.proofs.search.same_bytes.Goals as goal

pub returns-then-a-b : goal.returns-then-a-b
returns-then-a-b c = unequal_lengths c.args.a.now c.args.b.now c.if-a-b.true

pub loop-i-init : goal.loop-i-init
loop-i-init c = compared_start c.if-a-b.false

pub returns-then-a-i : goal.returns-then-a-i
returns-then-a-i c = compared_differ c.loop-i.invariant (omega arith) c.if-a-i.true

pub loop-i-preserved : goal.loop-i-preserved
loop-i-preserved c = compared_next c.loop-i.invariant (omega arith) c.if-a-i.false

pub returns : goal.returns
returns c = compared_end c.loop-i.invariant (omega arith)
