-- `child_count` meets its contract.
use Rattle.green.proofs.Known.{known}
use Rattle.edits.proofs.Counting.{none_past, none_of_token, some_of_node}
use Rattle.edits.proofs.spliced.child_count.Goals as goal

pub returns-then-store-n : goal.returns-then-store-n
returns-then-store-n c = none_past c.args.store.valid _ c.if-store-n.true

pub is_node-requires : goal.is_node-requires
is_node-requires c = known _ c.args.store.valid _ c.if-store-n.false

pub returns-then-not-is_node : goal.returns-then-not-is_node
returns-then-not-is_node c = none_of_token c.args.store.valid _ c.if-store-n.false c.is_node.ensures c.if-not-is_node.true-raw

pub count_of-requires : goal.count_of-requires
count_of-requires c = known _ c.args.store.valid _ c.if-store-n.false

pub returns : goal.returns
returns c = some_of_node c.args.store.valid _ c.if-store-n.false c.is_node.ensures c.if-not-is_node.false-raw c.count_of.ensures
