-- `offset_before` meets its contract.
use native.Mathlib.Omega.{arith}
use mathlib.Core.Path.{ap}
use Rattle.green.specs.Answers.{Place}
use Rattle.green.proofs.Answering.{count_node}
use Rattle.edits.proofs.Putting.{child_start, node_end}
use Rattle.edits.proofs.push.offset_before.Goals as goal

pub nth_child-child-requires : goal.nth_child-child-requires
nth_child-child-requires c = record { known = (c.requires.known, c.requires.a_node); k_in_bounds = omega (arith, c.count_of.ensures, count_node c.requires.known c.requires.a_node, c.if-i-count_of.true) }

pub returns-then-i-count_of : goal.returns-then-i-count_of
returns-then-i-count_of c = child_start c.requires (ap (λ (x : Place). x.offset) c.nth_child-child.ensures.0)

pub returns : goal.returns
returns c = node_end c.requires (omega (arith, c.count_of.ensures, count_node c.requires.known c.requires.a_node, c.if-i-count_of.false)) c.text_len.ensures
