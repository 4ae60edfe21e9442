use Prim.Native.Nat.{◌+◌, ◌*◌}
use Rattle.definitions.specs.Tree.{height}
use Rattle.definitions.specs.Entry.{tree_at}
use Rattle.green.specs.Store.{here, entries}
use Rattle.cursor_token.proofs.edge.+edge_below_edge_token.Given as goal

abbrev pub decreases-edge_below : goal.decreases-edge_below
decreases-edge_below l = 2 * height (tree_at (entries (here l.records l.children l.text l.used)) l.at.number)

abbrev pub decreases-edge_token : goal.decreases-edge_token
decreases-edge_token l = 2 * height (tree_at (entries (here l.records l.children l.text l.used)) l.number) + 1
