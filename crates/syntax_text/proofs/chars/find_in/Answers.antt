-- `find_in` meets its contract.
use native.Mathlib.Omega.{arith}
use Rattle.syntax_text.proofs.Pieces.{token_itself}
use Rattle.syntax_text.proofs.Finding.{seek_end, seek_found, seek_bound, seek_on}
use Rattle.syntax_text.proofs.chars.find_in.Goals as goal

pub piece-bytes-requires : goal.piece-bytes-requires
piece-bytes-requires c = (token_itself c.leaf_near-leaf.ensures.token, c.loop-x-test.true)

pub overflow_add-result : goal.overflow_add-result
overflow_add-result c = omega (arith, seek_bound c.loop-x.invariant.0 c.requires.spans (c.piece-bytes.ensures _ c.leaf_near-leaf.ensures.token) _ c.index_of-found.ensures c.in-Some.is, (c.piece-bytes.ensures _ c.leaf_near-leaf.ensures.token).most, c.loop-x.invariant.0.low, c.loop-x-test.true)

pub returns-in-Some : goal.returns-in-Some
returns-in-Some c = seek_found c.loop-x.invariant.0 c.requires.spans (c.piece-bytes.ensures _ c.leaf_near-leaf.ensures.token) _ c.index_of-found.ensures c.in-Some.is

pub loop-x-preserved : goal.loop-x-preserved
loop-x-preserved c = (seek_on c.loop-x.invariant.0 c.requires.spans (c.piece-bytes.ensures _ c.leaf_near-leaf.ensures.token) _ c.index_of-found.ensures c.in_default.is, c.leaf_near-leaf.ensures.parent)

pub returns : goal.returns
returns c = seek_end c.loop-x.invariant.0 c.loop-x-test.false
