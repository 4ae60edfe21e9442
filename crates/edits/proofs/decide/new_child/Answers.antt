-- `new_child` meets its contract.
use native.Mathlib.Omega.{arith}
use mathlib.Core.Path.{refl}
use Rattle.green.proofs.Known.{count_records, valid_room}
use Rattle.green.specs.View.{view}
use Rattle.edits.proofs.decide.new_child.Goals as goal

pub returns-then-store-m : goal.returns-then-store-m
returns-then-store-m c = record { there = λ h. absurd (omega (arith, c.if-store-m.true, count_records (view c.args.store) c.args.store.valid)); absent = λ _. refl }

pub overflow_cast-result : goal.overflow_cast-result
overflow_cast-result c = omega (arith, c.if-store-m.false, count_records (view c.args.store) c.args.store.valid, (valid_room (view c.args.store) c.args.store.valid).records_most)

pub returns : goal.returns
returns c = record { there = λ _. refl; absent = λ h. absurd (omega (arith, c.if-store-m.false, count_records (view c.args.store) c.args.store.valid)) }
