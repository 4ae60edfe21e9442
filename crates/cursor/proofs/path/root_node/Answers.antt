-- `root_node` meets its contract.
use Rattle.green.proofs.Known.{known}
use Rattle.cursor.proofs.Positions.{root_placed}
use Rattle.cursor.proofs.Paths.{root_absent, root_token, root_is}
use Rattle.cursor.proofs.path.root_node.Goals as goal

pub returns-then-store-root : goal.returns-then-store-root
returns-then-store-root c = root_absent c.args.store.valid _ c.if-store-root.true

pub node_or_token-requires : goal.node_or_token-requires
node_or_token-requires c = root_placed (known _ c.args.store.valid _ c.if-store-root.false)

pub returns-in_default : goal.returns-in_default
returns-in_default c = root_token c.args.store.valid _ c.node_or_token.ensures c.in_default.is

pub returns : goal.returns
returns c = root_is c.args.store.valid _ c.node_or_token.ensures c.if-store-root.false c.in-Node.is
