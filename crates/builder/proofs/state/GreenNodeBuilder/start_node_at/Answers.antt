-- `start_node_at` meets its contract.
use Rattle.builder.proofs.Opening.{checkpoint_unset, checkpoint_high, checkpoint_low, checkpoint_fits, node_started_at}
use Rattle.builder.proofs.state.GreenNodeBuilder.start_node_at.Goals as goal

pub returns-in_default : goal.returns-in_default
returns-in_default c = λ s v. checkpoint_unset v c.args.kind.0 c.args.register c.in_default.is

pub returns-then-waits-first : goal.returns-then-waits-first
returns-then-waits-first c = λ s v. checkpoint_high v c.args.kind.0 c.args.register c.in-Some.is (rw c.len-waits.ensures.value at c.if-waits-first.true)

pub returns-then-first-innermost_first : goal.returns-then-first-innermost_first
returns-then-first-innermost_first c = λ s v. checkpoint_low v c.args.kind.0 c.args.register c.in-Some.is (rw c.len-waits.ensures.value at c.if-waits-first.false) _ c.innermost_first.ensures c.if-first-innermost_first.true

pub returns : goal.returns
returns c = λ s v. node_started_at v c.args.kind.0 c.args.register c.in-Some.is (rw c.len-waits.ensures.value at c.if-waits-first.false) _ c.innermost_first.ensures c.if-first-innermost_first.false (c.open_node.ensures s v (checkpoint_fits v c.args.kind.0 c.args.register c.in-Some.is (rw c.len-waits.ensures.value at c.if-waits-first.false) _ c.innermost_first.ensures c.if-first-innermost_first.false))
