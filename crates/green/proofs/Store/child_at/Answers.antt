-- `child_at` meets its contract.
use mathlib.Core.Path.{refl}
use Rattle.utility_types.proofs.Passing.{passed_on}
use Rattle.green.proofs.Answering.{no_child, token_no_child, node_known, child_past, child_index, child_here}
use Rattle.green.proofs.Store.child_at.Goals as goal

pub returns-in_err-what : goal.returns-in_err-what
returns-in_err-what c = rw (passed_on _ c.from_residual.ensures.1) (no_child c.args.self.valid _ c.in_err-what.ensures _ refl)

pub returns-in_default : goal.returns-in_default
returns-in_default c = token_no_child c.args.self.valid _ c.in_ok-what.ensures refl _ c.in_default.is

pub count_of-requires : goal.count_of-requires
count_of-requires c = (node_known c.args.self.valid _ c.in_ok-what.ensures refl c.in-Node.is).0

pub returns-then-count_of-k : goal.returns-then-count_of-k
returns-then-count_of-k c = child_past c.args.self.valid _ c.in_ok-what.ensures refl c.in-Node.is _ c.count_of.ensures c.if-count_of-k.true

pub nth_child-requires : goal.nth_child-requires
nth_child-requires c =
    record { known = node_known c.args.self.valid _ c.in_ok-what.ensures refl c.in-Node.is; k_in_bounds = child_index c.args.self.valid _ c.in_ok-what.ensures refl c.in-Node.is _ c.count_of.ensures c.if-count_of-k.false }

pub returns : goal.returns
returns c = child_here c.args.self.valid _ c.in_ok-what.ensures refl c.in-Node.is _ c.count_of.ensures c.if-count_of-k.false c.nth_child.ensures.0
