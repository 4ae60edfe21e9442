-- `next_child_from` meets its contract.
use native.Mathlib.Omega.{arith}
use Rattle.cursor_node.proofs.Passing.{first_of_all, first_from}
use Rattle.cursor_node.proofs.children.next_child_from.Goals as goal

pub returns-then-with_tokens : goal.returns-then-with_tokens
returns-then-with_tokens c = (first_of_all c.requires.0 _ c.if-with_tokens.true, c.requires.1)

pub returns : goal.returns
returns c = (first_from c.requires.0 _ c.child_count-count.ensures.0 (omega (arith, c.requires.1, c.child_count-count.ensures.0)) c.pass_over-left.ensures, omega (arith, c.child_count-count.ensures.0))
