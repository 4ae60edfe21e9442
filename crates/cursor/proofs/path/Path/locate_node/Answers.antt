-- `locate_node` meets its contract.
use mathlib.Core.Path.{refl}
use Rattle.utility_types.proofs.Passing.{passed_on}
use Rattle.cursor.proofs.Positions.{inner, leaf}
use Rattle.cursor.proofs.Asking.{located_facts}
use Rattle.cursor.proofs.AskingNodes.{refused_no_node, token_no_node, node_located}
use Rattle.cursor.proofs.path.Path.locate_node.Goals as goal

pub returns-in_err-place : goal.returns-in_err-place
returns-in_err-place c = rw (passed_on _ c.from_residual.ensures.1) (refused_no_node c.in_err-place.ensures refl)

pub returns-in_default : goal.returns-in_default
returns-in_default c = token_no_node c.in_ok-place.ensures refl (leaf (located_facts c.in_ok-place.ensures refl).placed c.node_or_token.ensures c.in_default.is)

pub returns : goal.returns
returns c = node_located c.in_ok-place.ensures refl (inner (located_facts c.in_ok-place.ensures refl).placed c.node_or_token.ensures c.in-Node.is)
