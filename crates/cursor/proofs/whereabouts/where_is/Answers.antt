-- `where_is` meets its contract.
use mathlib.Core.Path.{refl}
use Rattle.utility_types.proofs.Passing.{passed_on}
use Rattle.cursor.proofs.Occurring.{number_refused, root_no_node, where_answered}
use Rattle.cursor.proofs.whereabouts.where_is.Goals as goal

pub returns-then-store-number : goal.returns-then-store-number
returns-then-store-number c = number_refused c.args.store.valid _ _ _ c.if-store-number.true

pub returns-in_err-at : goal.returns-in_err-at
returns-in_err-at c = rw (passed_on _ c.from_residual.ensures.1) (root_no_node c.args.store.valid _ _ _ c.in_err-at.ensures refl)

pub returns : goal.returns
returns c = where_answered c.args.store.valid _ _ _ c.in_ok-at.ensures c.if-store-number.false refl c.occurrence_in-found.ensures
