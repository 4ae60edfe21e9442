-- `measure_spliced` meets its contract.
use mathlib.Core.Path.{sym, ◌∙◌}
use Rattle.edits.proofs.Measuring.{goes_room, comes_room, exchangeable, exchange_spliced, of_kind}
use Rattle.edits.proofs.spliced.measure_spliced.Goals as goal

pub kind_of-kind-requires : goal.kind_of-kind-requires
kind_of-kind-requires c = c.requires.splices.0.known

pub measure_of-own-requires : goal.measure_of-own-requires
measure_of-own-requires c = c.requires.splices.0.known

pub plus_children-goes-requires : goal.plus_children-goes-requires
plus_children-goes-requires c = (c.requires.splices.0, goes_room c.requires.splices.0 c.args.new.now c.childless-none.ensures.1)

pub plus_numbers-comes-requires : goal.plus_numbers-comes-requires
plus_numbers-comes-requires c = record { all_below = c.requires.splices.1; room_for = comes_room c.requires.splices.0 c.args.new.now c.childless-none.ensures.1 (rw c.requires.count_value.0 at c.requires.count_value.1) }

pub exchanged-requires : goal.exchanged-requires
exchanged-requires c = exchangeable c.requires.splices.0 c.args.new.now c.measure_of-own.ensures.0 (of_kind c.kind_of-kind.ensures c.childless-none.ensures.0) c.plus_children-goes.ensures.1 c.plus_numbers-comes.ensures.1 c.measure_of-own.ensures.1 c.childless-none.ensures.1 (rw c.requires.count_value.0 at c.requires.count_value.1) c.plus_numbers-comes.ensures.0 (sym c.is_height_known.ensures ∙ c.if-is_height_known.true)

pub returns-then-is_height_known : goal.returns-then-is_height_known
returns-then-is_height_known c = exchange_spliced c.requires.splices.0 c.args.new.now c.measure_of-own.ensures.0 (of_kind c.kind_of-kind.ensures c.childless-none.ensures.0) c.plus_children-goes.ensures.1 c.plus_numbers-comes.ensures.1 (rw c.requires.count_value.0 at c.if-count-gt3.true) c.exchanged.ensures

pub over_spliced-over-requires : goal.over_spliced-over-requires
over_spliced-over-requires c = record { splices = c.requires.splices; len_bound = rw c.requires.count_value.0 at c.requires.count_value.1 }

pub returns : goal.returns
returns c = rw c.kind_of-kind.ensures at c.over_spliced-over.ensures.measure
