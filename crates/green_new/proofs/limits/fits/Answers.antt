-- `fits` meets its contract.
use native.Mathlib.Omega.{arith}
use Rattle.green_new.proofs.Room.{over_most, under_most}
use Prim.Native.Nat.{◌+◌}
use Rattle.green_new.proofs.limits.fits.Goals as goal

pub returns-then-most-more : goal.returns-then-most-more
returns-then-most-more c = over_most (c.args.used + c.args.more) c.args.lent c.args.most (omega (arith, c.if-most-more.true))

pub returns-then-most-used : goal.returns-then-most-used
returns-then-most-used c = over_most (c.args.used + c.args.more) c.args.lent c.args.most c.if-most-used.true

pub returns : goal.returns
returns c = under_most (c.args.used + c.args.more) c.args.lent c.args.most c.if-most-used.false
