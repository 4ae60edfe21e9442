-- `pass_over` meets its contract.
use Prim.Native.Nat.{◌+◌, ◌-◌}
use native.Mathlib.Omega.{arith}
use mathlib.Core.Path.{◌≡◌, sym, ap, ◌∙◌}
use Rattle.utility_types.specs.Numbers.{is_node_of}
use Rattle.cursor_node.proofs.Passing.{all_offered, only_tokens, pass_token, stop_node, stop_none}
use Rattle.cursor_node.proofs.children.pass_over.Goals as goal

pub returns-then-with_tokens : goal.returns-then-with_tokens
returns-then-with_tokens c = (all_offered c.if-with_tokens.true, omega arith)

pub returns-then-height_of-eq1 : goal.returns-then-height_of-eq1
returns-then-height_of-eq1 c = (only_tokens c.if-with_tokens.false c.height_of.ensures c.if-height_of-eq1.true, omega arith)

pub returns-in_default : goal.returns-in_default
returns-in_default c =
    let z : c.loop-before.before - 1 + 1 ≡ c.loop-before.before = omega (arith, c.loop-before-test.true) in
    let i = rw z at c.nearest_index-i.ensures.0 in
    rw z (stop_node c.loop-before.invariant c.requires.0 c.requires.1 c.loop-before-test.true c.child_count-count.ensures.0 i c.child-child.ensures c.if-with_tokens.false (sym c.node_or_token.ensures.1 ∙ ap is_node_of c.in_default.is), c.loop-before.invariant.within)

pub loop-before-preserved : goal.loop-before-preserved
loop-before-preserved c =
    let z : c.loop-before.before - 1 + 1 ≡ c.loop-before.before = omega (arith, c.loop-before-test.true) in
    let i = rw z at c.nearest_index-i.ensures.0 in
    pass_token c.loop-before.invariant c.requires.0 c.requires.1 c.loop-before-test.true c.child_count-count.ensures.0 i c.child-child.ensures (sym c.node_or_token.ensures.1 ∙ ap is_node_of c.in-Token.is)

pub returns : goal.returns
returns c = let z : c.loop-before.before ≡ 0 = omega (arith, c.loop-before-test.false) in (rw z at (stop_none c.loop-before.invariant c.if-with_tokens.false z), omega arith)
