-- `descend` meets its contract.
use native.Mathlib.Omega.{arith}
use mathlib.Core.Path.{ap, ◌∙◌}
use Prim.Native.Nat.{◌<◌}
use lib.ListN.{take, get_or}
use lib.Seq.{length-take-le, get_or-take}
use Rattle.cursor.specs.Path.{is_remembered}
use Rattle.cursor.proofs.Positions.{inner, leaf}
use Rattle.cursor.proofs.Paths.{gone_none, at_token_lem, past_children, gone_beside, gone_on, arrived, facts_at_end}
use Rattle.cursor.proofs.path.Path.descend.Goals.{else-is_remembered, then-is_remembered}
use Rattle.cursor.proofs.path.Path.descend.Goals as goal

pub loop-index-init : goal.loop-index-init
loop-index-init c = gone_none c.requires.known

pub returns-in_default-clause-result_value : goal.returns-in_default-clause-result_value
returns-in_default-clause-result_value c =
    let h = rw (length-take-le c.args.self.depth c.args.self.indexes.now c.requires.depth_in_bounds) at c.loop-index-test.true in
    at_token_lem c.loop-index.invariant c.requires.depth_in_bounds h (leaf c.loop-index.invariant.placed c.node_or_token.ensures c.in_default.is)

pub returns-then-count-i-clause-result_value : goal.returns-then-count-i-clause-result_value
returns-then-count-i-clause-result_value c =
    let a = c.args in
    let h = rw (length-take-le a.self.depth a.self.indexes.now c.requires.depth_in_bounds) at c.loop-index-test.true in
    past_children c.loop-index.invariant c.requires.depth_in_bounds h (inner c.loop-index.invariant.placed c.node_or_token.ensures c.in-Node.is) (get_or-take a.self.depth a.self.indexes.now c.loop-index.index-index 0 h)
    (omega (arith, c.child_count-count.ensures.0, c.if-count-i.true))

pub loop-index-preserved : goal.loop-index-preserved
loop-index-preserved c =
    let a = c.args in
    let g = c.loop-index.invariant in
    let h = rw (length-take-le a.self.depth a.self.indexes.now c.requires.depth_in_bounds) at c.loop-index-test.true in
    let i = inner g.placed c.node_or_token.ensures c.in-Node.is in
    let k = get_or-take a.self.depth a.self.indexes.now c.loop-index.index-index 0 h in
    let m : get_or (take a.self.depth a.self.indexes.now) c.loop-index.index-index 0 < c.child_count-count.result = omega (arith, c.if-count-i.false) in
    let m' = rw c.child_count-count.ensures.0 at m in
    let b = c.is_remembered.ensures ∙ ap (is_remembered a.remember (get_or (take a.self.depth a.self.indexes.now) c.loop-index.index-index 0)) c.child_count-count.ensures.0 in
    elim c.if-is_remembered.branch [ then-is_remembered w ↦ gone_beside g c.requires.depth_in_bounds h i k m' c.child-at.ensures b w.if-is_remembered.true w.remembered-is | else-is_remembered w ↦ gone_on g c.requires.depth_in_bounds h i k m' c.child-at.ensures b w.if-is_remembered.false w.remembered-is ]

pub returns-clause-result_value : goal.returns-clause-result_value
returns-clause-result_value c = arrived c.loop-index.invariant c.requires.depth_in_bounds (rw (length-take-le c.args.self.depth c.args.self.indexes.now c.requires.depth_in_bounds) at c.loop-index-test.false)

pub returns-clause-when_located : goal.returns-clause-when_located
returns-clause-when_located c = facts_at_end c.loop-index.invariant c.requires.depth_in_bounds (rw (length-take-le c.args.self.depth c.args.self.indexes.now c.requires.depth_in_bounds) at c.loop-index-test.false)
