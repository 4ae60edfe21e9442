-- `equal_in` meets its contract.
use native.Mathlib.Omega.{arith}
use mathlib.Core.Path.{sym, ◌∙◌}
use borrow.Author.Tests.{not-true, not-false}
use Rattle.definitions.proofs.Comparing.{same_pointwise}
use Rattle.syntax_text.proofs.Pieces.{token_itself}
use Rattle.syntax_text.proofs.Comparing.{compared, differs, compares}
use Rattle.syntax_text.proofs.equality.equal_in.Goals as goal

pub piece-left-requires : goal.piece-left-requires
piece-left-requires c = (token_itself c.leaf_near-one.ensures.token, omega (arith, c.loop-i-test.true))

pub piece-right-requires : goal.piece-right-requires
piece-right-requires c = (token_itself c.leaf_near-two.ensures.token, omega (arith, c.loop-i-test.true))

pub returns-then-ne : goal.returns-then-ne
returns-then-ne c = differs c.loop-i.invariant.0 c.requires.inner.1 c.requires.inner_2.1 (c.piece-left.ensures _ c.leaf_near-one.ensures.token) (c.piece-right.ensures _ c.leaf_near-two.ensures.token) c.min-n.ensures (same_pointwise _ _) (not-true _ (sym c.ne.ensures ∙ c.if-ne.true))

pub loop-i-preserved : goal.loop-i-preserved
loop-i-preserved c = (compares c.loop-i.invariant.0 c.requires.inner.1 c.requires.inner_2.1 (c.piece-left.ensures _ c.leaf_near-one.ensures.token) (c.piece-right.ensures _ c.leaf_near-two.ensures.token) c.min-n.ensures (same_pointwise _ _) (not-false _ (sym c.ne.ensures ∙ c.if-ne.false)), c.leaf_near-one.ensures.parent, c.leaf_near-two.ensures.parent)

pub returns : goal.returns
returns c = compared c.loop-i.invariant.0 c.loop-i-test.false
