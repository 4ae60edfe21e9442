-- `summarize` meets its contract.
use Rattle.green.proofs.Known.{known}
use Rattle.green.proofs.Answering.{no_summary, node_children, token_children, a_summary}
use Rattle.green.proofs.Store.summarize.Goals as goal

pub returns-then-self-n : goal.returns-then-self-n
returns-then-self-n c = no_summary _ c.args.self.valid _ c.if-self-n.true

pub returns-then-is_node : goal.returns-then-is_node
returns-then-is_node c =
    let k = known _ c.args.self.valid _ c.if-self-n.false in
    a_summary _ _ k c.is_node-is_node.ensures c.kind_of.ensures c.text_len.ensures c.size_of.ensures c.height_of.ensures c.hash_of.ensures
    (node_children _ _ k c.is_node-is_node.ensures c.count_of-count.ensures c.if-is_node.true)

pub returns-else-is_node : goal.returns-else-is_node
returns-else-is_node c =
    let k = known _ c.args.self.valid _ c.if-self-n.false in
    a_summary _ _ k c.is_node-is_node.ensures c.kind_of.ensures c.text_len.ensures c.size_of.ensures c.height_of.ensures c.hash_of.ensures
    (token_children _ _ k c.is_node-is_node.ensures c.if-is_node.false)
