-- `begin` meets its contract.
use mathlib.Core.Path.{refl}
use Rattle.utility_types.proofs.Passing.{passed_on}
use Rattle.preorder.proofs.Begun.{begun_refused, begun_node}
use borrow.Author.Rules.{rules}
use Rattle.preorder.proofs.walk.begin.Goals as goal

pub returns-in_err-locate_node : goal.returns-in_err-locate_node
returns-in_err-locate_node c = rw (passed_on _ c.from_residual.ensures.1) (begun_refused c.in_err-locate_node.ensures refl)

pub returns : goal.returns
returns c = begun_node c.in_ok-locate_node.ensures refl (search rules)
