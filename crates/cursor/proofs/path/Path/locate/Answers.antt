-- `locate` meets its contract.
use mathlib.Core.Path.{refl}
use native.Mathlib.Omega.{arith}
use Rattle.utility_types.proofs.Passing.{passed_on}
use Rattle.cursor.proofs.Paths.{root_refused, root_accepted, too_deep, no_root, from_root}
use Rattle.cursor.proofs.path.Path.locate.Goals as goal

pub returns-then-self-gt-MOST_INDEXES : goal.returns-then-self-gt-MOST_INDEXES
returns-then-self-gt-MOST_INDEXES c = record { says = too_deep _ _ _ _ (omega (arith, c.if-self-gt-MOST_INDEXES.true)); facts = refl }

pub returns-in_err-root_node : goal.returns-in_err-root_node
returns-in_err-root_node c = rw (passed_on _ c.from_residual.ensures.1) (record { says = no_root _ _ _ _ (root_refused c.in_err-root_node.ensures refl).0; facts = (root_refused c.in_err-root_node.ensures refl).1 })

pub returns : goal.returns
returns c = record { says = from_root _ _ _ _ c.if-self-gt-MOST_INDEXES.false (root_accepted c.in_ok-root_node.ensures refl).0 c.descend.ensures.result_value; facts = c.descend.ensures.when_located }
