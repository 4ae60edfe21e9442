-- `decide_splice` meets its contract.
use native.Mathlib.Omega.{arith}
use Rattle.green.proofs.Known.{known}
use Rattle.edits.proofs.Deciding.{no_element, a_token, new_absent, reversed, past_end, range, count_is, new_below, too_many, too_many_new, few_old, too_large, fits}
use Rattle.edits.proofs.decide.decide_splice.Goals as goal

pub returns-then-store-n : goal.returns-then-store-n
returns-then-store-n c = no_element c.args.store.valid c.args.n c.args.from c.args.to c.args.new.now c.if-store-n.true

pub is_node-requires : goal.is_node-requires
is_node-requires c = known _ c.args.store.valid _ c.if-store-n.false

pub returns-then-not-is_node : goal.returns-then-not-is_node
returns-then-not-is_node c = a_token c.args.store.valid c.args.n c.args.from c.args.to c.args.new.now c.if-store-n.false c.is_node.ensures c.if-not-is_node.true-raw

pub returns-then-not-are_elements : goal.returns-then-not-are_elements
returns-then-not-are_elements c = new_absent c.args.store.valid c.args.n c.args.from c.args.to c.args.new.now c.if-store-n.false c.is_node.ensures c.if-not-is_node.false-raw c.are_elements.ensures c.if-not-are_elements.true-raw

pub count_of-old-requires : goal.count_of-old-requires
count_of-old-requires c = known _ c.args.store.valid _ c.if-store-n.false

pub returns-then-to-from : goal.returns-then-to-from
returns-then-to-from c = reversed c.args.store.valid c.args.n c.args.from c.args.to c.args.new.now c.if-store-n.false c.is_node.ensures c.if-not-is_node.false-raw c.are_elements.ensures c.if-not-are_elements.false-raw c.count_of-old.ensures c.if-to-from.true

pub returns-then-old-to : goal.returns-then-old-to
returns-then-old-to c = past_end c.args.store.valid c.args.n c.args.from c.args.to c.args.new.now c.if-store-n.false c.is_node.ensures c.if-not-is_node.false-raw c.are_elements.ensures c.if-not-are_elements.false-raw c.count_of-old.ensures c.if-to-from.false c.if-old-to.true

pub returns-then-more-gt4096 : goal.returns-then-more-gt4096
returns-then-more-gt4096 c = too_many_new c.args.store.valid c.args.n c.args.from c.args.to c.args.new.now c.if-store-n.false c.is_node.ensures c.if-not-is_node.false-raw c.are_elements.ensures c.if-not-are_elements.false-raw c.count_of-old.ensures c.if-to-from.false c.if-old-to.false c.if-more-gt4096.true

pub overflow_add-count : goal.overflow_add-count
overflow_add-count c = omega (arith, few_old c.args.store.valid c.args.n c.args.from c.args.to c.args.new.now c.if-store-n.false c.is_node.ensures c.if-not-is_node.false-raw c.are_elements.ensures c.if-not-are_elements.false-raw c.count_of-old.ensures c.if-to-from.false c.if-old-to.false, c.if-more-gt4096.false)

pub returns-then-count-gt4096 : goal.returns-then-count-gt4096
returns-then-count-gt4096 c = too_many c.args.store.valid c.args.n c.args.from c.args.to c.args.new.now c.if-store-n.false c.is_node.ensures c.if-not-is_node.false-raw c.are_elements.ensures c.if-not-are_elements.false-raw c.count_of-old.ensures c.if-to-from.false c.if-old-to.false c.if-count-gt4096.true

pub measure_spliced-measure-requires : goal.measure_spliced-measure-requires
measure_spliced-measure-requires c = record { splices = (range c.args.store.valid c.args.n c.args.from c.args.to c.args.new.now c.if-store-n.false c.is_node.ensures c.if-not-is_node.false-raw c.are_elements.ensures c.if-not-are_elements.false-raw c.count_of-old.ensures c.if-to-from.false c.if-old-to.false, new_below c.args.store.valid c.args.n c.args.from c.args.to c.args.new.now c.if-store-n.false c.is_node.ensures c.if-not-is_node.false-raw c.are_elements.ensures c.if-not-are_elements.false-raw c.count_of-old.ensures c.if-to-from.false c.if-old-to.false); count_value = (count_is c.args.store.valid c.args.n c.args.from c.args.to c.args.new.now c.if-store-n.false c.is_node.ensures c.if-not-is_node.false-raw c.are_elements.ensures c.if-not-are_elements.false-raw c.count_of-old.ensures c.if-to-from.false c.if-old-to.false, c.if-count-gt4096.false) }

pub returns-then-not-is_within : goal.returns-then-not-is_within
returns-then-not-is_within c = too_large c.args.store.valid c.args.n c.args.from c.args.to c.args.new.now c.if-store-n.false c.is_node.ensures c.if-not-is_node.false-raw c.are_elements.ensures c.if-not-are_elements.false-raw c.count_of-old.ensures c.if-to-from.false c.if-old-to.false c.measure_spliced-measure.ensures (c.is_within.ensures _ c.if-count-gt4096.false) c.if-not-is_within.true-raw

pub returns : goal.returns
returns c = fits c.args.store.valid c.args.n c.args.from c.args.to c.args.new.now c.if-store-n.false c.is_node.ensures c.if-not-is_node.false-raw c.are_elements.ensures c.if-not-are_elements.false-raw c.count_of-old.ensures c.if-to-from.false c.if-old-to.false c.measure_spliced-measure.ensures (c.is_within.ensures _ c.if-count-gt4096.false) c.if-not-is_within.false-raw
