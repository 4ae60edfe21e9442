-- `stays_sharable` meets its contract.
use mathlib.Core.Bool.{not, ◌&&◌}
use lib.Dec.{ltb, eqb}
use Rattle.green_new.proofs.Adding.{unsharable_stays, many_stay, stay}
use Rattle.green_new.proofs.measure.stays_sharable.Goals as goal

pub returns-then-not-a : goal.returns-then-not-a
returns-then-not-a c = unsharable_stays c.args.a.is_sharable (ltb c.args.a.count 3 && not (eqb c.args.hash 0)) c.if-not-a.true

pub returns-then-a-ge3 : goal.returns-then-a-ge3
returns-then-a-ge3 c = many_stay c.args.a.is_sharable (not (eqb c.args.hash 0)) c.args.a.count c.if-a-ge3.true

pub returns : goal.returns
returns c = stay c.args.a.is_sharable (not (eqb c.args.hash 0)) c.args.a.count c.if-not-a.false c.if-a-ge3.false
