-- `leaf_near` meets its contract.
use Rattle.syntax_text.proofs.Pieces.{as_node, leaf_below}
use Rattle.syntax_text.proofs.piece.leaf_near.Goals as goal

pub returns-in-Below : goal.returns-in-Below
returns-in-Below c = leaf_below (as_node c.look_near-near.ensures c.in-Below.is).node c.leaf_at.ensures
