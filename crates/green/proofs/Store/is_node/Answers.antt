-- `is_node` meets its contract.
use Rattle.definitions.specs.Entry.{entry_at}
use Rattle.green.specs.Store.{entries}
use Rattle.green.specs.View.{view}
use Rattle.green.proofs.Known.{tag_node}
use Rattle.green.proofs.Store.is_node.Goals as goal

pub returns : goal.returns
returns c = rw c.tag_of.ensures (tag_node (entry_at (entries (view c.args.self)) c.args.n))
