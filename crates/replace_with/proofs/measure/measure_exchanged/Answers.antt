-- `measure_exchanged` meets its contract.
use native.Mathlib.Omega.{arith}
use mathlib.Core.Path.{sym, ap, ◌∙◌}
use Rattle.green.specs.Answers.{Place}
use Rattle.green.proofs.Answering.{count_node}
use Rattle.green_new.proofs.Adding.{room_for}
use Rattle.replace_with.proofs.Measuring.{exchangeable, exchange_one}
use Rattle.replace_with.proofs.measure.measure_exchanged.Goals as goal

pub plus-comes-requires : goal.plus-comes-requires
plus-comes-requires c = (room_for c.childless-none.ensures.1 1 (omega arith), c.requires.fits)

pub exchanged-requires : goal.exchanged-requires
exchanged-requires c = exchangeable c.requires c.measure_of-own.ensures.0 (ap (λ (x : Place). x.number) c.nth_child-child.ensures.0) c.measure_of-old.ensures.0 c.kind_of.ensures c.childless-none.ensures.0 c.plus-goes.ensures.1 c.plus-comes.ensures.1 c.measure_of-own.ensures.1 c.childless-none.ensures.1 c.plus-comes.ensures.0 (sym c.is_height_known.ensures ∙ c.if-is_height_known.true)

pub returns-then-is_height_known : goal.returns-then-is_height_known
returns-then-is_height_known c = exchange_one c.requires c.measure_of-own.ensures.0 (ap (λ (x : Place). x.number) c.nth_child-child.ensures.0) c.measure_of-old.ensures.0 c.kind_of.ensures c.childless-none.ensures.0 c.plus-goes.ensures.1 c.plus-comes.ensures.1 (omega (arith, c.count_of.ensures, count_node c.requires.known c.requires.node, c.if-count_of-gt3.true)) c.exchanged.ensures
