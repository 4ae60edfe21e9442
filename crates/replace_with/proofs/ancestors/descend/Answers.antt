-- `descend` meets its contract.
use native.Mathlib.Omega.{arith}
use mathlib.Core.Path.{refl, sym, ap, ◌∙◌}
use lib.Seq.{length-take-le}
use Rattle.std.proofs.lemmas.List.{map-set}
use Rattle.green.specs.Answers.{Place}
use Rattle.green.proofs.Answering.{count_node}
use Rattle.replace_with.specs.declared.ancestors.Ancestor.{Ancestor}
use Rattle.replace_with.proofs.Descending.{led_nowhere, led_there, at_token_lem, past_children, down_one, arrived}
use Rattle.replace_with.proofs.ancestors.descend.Goals as goal

pub returns-then-not-is_node : goal.returns-then-not-is_node
returns-then-not-is_node c = led_nowhere (at_token_lem c.loop-d.invariant c.loop-d-test.true (sym c.is_node.ensures ∙ c.if-not-is_node.true))

pub returns-then-count_of-i : goal.returns-then-count_of-i
returns-then-count_of-i c = let a = sym c.is_node.ensures ∙ c.if-not-is_node.false in led_nowhere (past_children c.loop-d.invariant c.loop-d-test.true a refl (omega (arith, c.count_of.ensures, count_node c.loop-d.invariant.known a, c.if-count_of-i.true)))

pub nth_child-child-requires-clause-k_in_bounds : goal.nth_child-child-requires-clause-k_in_bounds
nth_child-child-requires-clause-k_in_bounds c = let a = sym c.is_node.ensures ∙ c.if-not-is_node.false in omega (arith, c.count_of.ensures, count_node c.loop-d.invariant.known a, c.if-count_of-i.false)

pub loop-d-preserved : goal.loop-d-preserved
loop-d-preserved c = let a = sym c.is_node.ensures ∙ c.if-not-is_node.false in rw (map-set (λ (x : Ancestor). x.number) c.loop-d.ancestors _ _) (down_one c.loop-d.invariant c.loop-d-test.true a refl (omega (arith, c.count_of.ensures, count_node c.loop-d.invariant.known a, c.if-count_of-i.false)) (ap (λ (x : Place). x.number) c.nth_child-child.ensures.0) c.nth_child-child.ensures.1)

pub returns : goal.returns
returns c = led_there (arrived c.loop-d.invariant (omega (arith, length-take-le c.args.path.depth c.args.path.indexes.now (omega (arith, c.args.path.has_room, c.requires.depth_in_bounds)), c.loop-d-test.false)))
