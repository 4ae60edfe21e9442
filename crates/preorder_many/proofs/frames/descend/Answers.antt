-- `descend` meets its contract.
use Rattle.definitions.proofs.Laws.{false≢true}
use Rattle.cursor.proofs.Positions.{inner, leaf}
use Rattle.cursor.proofs.Paths.{at_token_lem, past_children}
use Rattle.preorder_many.proofs.Down.{down_none, down_child}
use Prim.Native.Nat.{◌≤◌}
use lib.ListN.{length}
use lib.Seq.{length-take-le, get_or-take}
use native.Mathlib.Omega.{arith}
use Rattle.green.proofs.Known.{number_bound}
use Rattle.preorder_many.proofs.frames.descend.Goals as goal

pub loop-d-init : goal.loop-d-init
loop-d-init c = down_none c.requires.0 c.requires.1 c.requires.3

pub returns-in_default : goal.returns-in_default
returns-in_default c = record { framed = λ e. absurd (false≢true e); none_value = λ e. let f : c.args.path.depth ≤ length c.args.path.indexes.now = omega (arith, c.requires.2, c.requires.3.path) in at_token_lem c.loop-d.invariant.gone f (rw (length-take-le c.args.path.depth c.args.path.indexes.now f) at c.loop-d-test.true) (leaf c.loop-d.invariant.gone.placed c.node_or_token.ensures c.in_default.is) }

pub returns-then-child_count-i : goal.returns-then-child_count-i
returns-then-child_count-i c =
    let a = c.args in
    let f : a.path.depth ≤ length a.path.indexes.now = omega (arith, c.requires.2, c.requires.3.path) in
    let h = rw (length-take-le a.path.depth a.path.indexes.now f) at c.loop-d-test.true in
    record {
      framed = λ e. absurd (false≢true e);
      none_value = λ e.
          past_children c.loop-d.invariant.gone f h (inner c.loop-d.invariant.gone.placed c.node_or_token.ensures c.in-Node.is) (get_or-take a.path.depth a.path.indexes.now c.loop-d.d 0 h) (omega (arith, c.child_count.ensures.0, c.if-child_count-i.true));
    }

pub loop-d-preserved : goal.loop-d-preserved
loop-d-preserved c =
    let a = c.args in
    let f : a.path.depth ≤ length a.path.indexes.now = omega (arith, c.requires.2, c.requires.3.path) in
    let h = rw (length-take-le a.path.depth a.path.indexes.now f) at c.loop-d-test.true in
    down_child c.loop-d.invariant c.requires.2 h (inner c.loop-d.invariant.gone.placed c.node_or_token.ensures c.in-Node.is) (get_or-take a.path.depth a.path.indexes.now c.loop-d.d 0 h) (omega (arith, c.child_count.ensures.0, c.if-child_count-i.false)) c.child-at.ensures

pub overflow_cast-frames : goal.overflow_cast-frames
overflow_cast-frames c = omega (arith, number_bound _ _ c.requires.0)

pub overflow_cast-frames-in-loop-d : goal.overflow_cast-frames-in-loop-d
overflow_cast-frames-in-loop-d c = omega (arith, number_bound _ _ c.child-at.ensures.placed.known)
