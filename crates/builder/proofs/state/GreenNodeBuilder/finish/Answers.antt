-- `finish` meets its contract.
use mathlib.Core.Path.{refl}
use Rattle.builder.proofs.Finishing.{unfinished, root_known, root_node, root_token}
use Rattle.builder.proofs.state.GreenNodeBuilder.finish.Goals as goal

pub returns-then-children-ne1 : goal.returns-then-children-ne1
returns-then-children-ne1 c = unfinished c.requires c.as_slice-children.ensures.value c.if-children-ne1.true

pub is_node-requires : goal.is_node-requires
is_node-requires c = root_known c.requires c.as_slice-children.ensures.value c.if-children-ne1.false refl

pub returns-then-is_node : goal.returns-then-is_node
returns-then-is_node c = root_node c.requires c.as_slice-children.ensures.value c.if-children-ne1.false refl _ c.is_node.ensures c.if-is_node.true

pub returns : goal.returns
returns c = root_token c.requires c.as_slice-children.ensures.value c.if-children-ne1.false refl _ c.is_node.ensures c.if-is_node.false
