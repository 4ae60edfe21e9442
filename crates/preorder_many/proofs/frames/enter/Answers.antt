-- `enter` meets its contract.
use mathlib.Core.Path.{sym, ap, ◌∙◌}
use Rattle.utility_types.specs.Numbers.{is_node_of}
use Rattle.cursor.proofs.Positions.{inner}
use Rattle.preorder_many.proofs.Framing.{placed_at}
use Rattle.preorder_many.proofs.Going.{enter_leaf, enter_inner}
use native.Mathlib.Omega.{arith}
use Rattle.preorder_many.proofs.frames.enter.Goals as goal

pub node_or_token-requires : goal.node_or_token-requires
node_or_token-requires c = rw c.cursor_at-at.ensures (placed_at c.requires.0.framed c.args.depth (omega arith))

pub returns-in_default : goal.returns-in_default
returns-in_default c = λ start. enter_leaf c.requires.0 c.requires.1 (rw c.cursor_at-at.ensures at (sym c.node_or_token.ensures.1 ∙ ap is_node_of c.in_default.is)) start

pub go_on-requires : goal.go_on-requires
go_on-requires c = (inner (rw c.cursor_at-at.ensures (placed_at c.requires.0.framed c.args.depth (omega arith))) c.node_or_token.ensures c.in-Node.is, omega arith, c.requires.1)

pub returns : goal.returns
returns c = λ start. enter_inner c.requires.0 c.requires.1 (rw c.cursor_at-at.ensures at c.go_on.ensures) start
