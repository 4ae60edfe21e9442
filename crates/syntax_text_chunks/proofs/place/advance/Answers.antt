-- `advance` meets its contract.
use native.Mathlib.Omega.{arith}
use Rattle.cursor.proofs.Elements.{node_height}
use Rattle.cursor.proofs.Positions.{count_most}
use Rattle.syntax_text_chunks.proofs.Placing.{turn, turned_to}
use Rattle.syntax_text_chunks.proofs.place.advance.Goals as goal

pub overflow_cast-place : goal.overflow_cast-place
overflow_cast-place c = omega (arith, count_most (turn c.requires.0 c.in_ok-parent.was).inner, (turn c.requires.0 c.in_ok-parent.was).index)

pub bounds-place-at : goal.bounds-place-at
bounds-place-at c = omega (arith, (turn c.requires.0 c.in_ok-parent.was).inner.placed.deep, node_height _ (turn c.requires.0 c.in_ok-parent.was).inner.node, c.requires.1)

pub returns : goal.returns
returns c = turned_to (turn c.requires.0 c.in_ok-parent.was) c.child.ensures c.requires.1
