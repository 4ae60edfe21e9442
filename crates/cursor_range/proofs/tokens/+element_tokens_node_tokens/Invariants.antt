use Prim.Native.Nat.{◌+◌, ◌*◌}
use Rattle.definitions.specs.Tree.{height}
use Rattle.definitions.specs.Entry.{tree_at}
use Rattle.green.specs.Store.{entries}
use Rattle.green.specs.View.{view}
use Rattle.cursor_range.proofs.tokens.+element_tokens_node_tokens.Given as goal

abbrev pub decreases-node_tokens : goal.decreases-node_tokens
decreases-node_tokens l = 2 * height (tree_at (entries (view l.store.now)) l.at.number) + 1

-- a child of a node comes before the node
abbrev pub decreases-element_tokens : goal.decreases-element_tokens
decreases-element_tokens l = 2 * height (tree_at (entries (view l.store.now)) l.parent.number)
