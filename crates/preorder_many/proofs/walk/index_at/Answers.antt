-- `index_at` meets its contract.
use mathlib.Core.Path.{refl}
use Prim.Native.Nat.{◌-◌}
use Rattle.preorder_many.proofs.Going.{pred}
use Rattle.preorder_many.proofs.Run.{index_none, index_last}
use native.Mathlib.Omega.{arith}
use Rattle.preorder_many.proofs.walk.index_at.Goals as goal

pub returns-then-depth-eq0 : goal.returns-then-depth-eq0
returns-then-depth-eq0 c = index_none c.args.path.now c.if-depth-eq0.true

pub returns : goal.returns
returns c = index_last c.args.path.now (c.args.depth - 1) (pred c.args.depth c.if-depth-eq0.false) (omega (arith, c.requires, pred c.args.depth c.if-depth-eq0.false)) refl
