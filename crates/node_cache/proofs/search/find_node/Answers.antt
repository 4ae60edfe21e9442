-- `find_node` meets its contract.
use native.Mathlib.Omega.{arith}
use mathlib.Core.Path.{◌∙◌}
use Rattle.definitions.proofs.Sharing.{sought_start, sought_hit, sought_next, sought_end}
use Rattle.green.proofs.Known.{known, number_bound, count_records}
use Rattle.node_cache.proofs.Seeking.{seek_on}
use Rattle.node_cache.proofs.NodeEvents.{unshared, node_sought, node_reused}
use Rattle.node_cache.proofs.search.find_node.Goals as goal

pub returns-then-not-over : goal.returns-then-not-over
returns-then-not-over c = unshared _ _ c.requires.over_of c.if-not-over.true

pub loop-i-init : goal.loop-i-init
loop-i-init c = seek_on c.next_alike-i.ensures c.requires.over_of.measure.hash sought_start

pub is_node-requires : goal.is_node-requires
is_node-requires c = record { known = known _ c.args.store.valid _ c.loop-i-test.true; node_sought = node_sought _ _ c.requires.over_of c.if-not-over.false c.requires.valid }

pub returns-then-is_node : goal.returns-then-is_node
returns-then-is_node c = sought_hit c.loop-i.invariant (known _ c.args.store.valid _ c.loop-i-test.true).within _ c.is_node.ensures c.if-is_node.true ∙ node_reused _ _ c.requires.over_of c.if-not-over.false

pub overflow_add-i : goal.overflow_add-i
overflow_add-i c = omega (arith, number_bound _ _ (known _ c.args.store.valid _ c.loop-i-test.true))

pub loop-i-smaller : goal.loop-i-smaller
loop-i-smaller c = omega (arith, c.next_alike-i-in-loop-i.ensures.none.after, c.loop-i-test.true)

pub loop-i-preserved : goal.loop-i-preserved
loop-i-preserved c = seek_on c.next_alike-i-in-loop-i.ensures c.requires.over_of.measure.hash (sought_next c.loop-i.invariant (known _ c.args.store.valid _ c.loop-i-test.true).within _ c.is_node.ensures c.if-is_node.false)

pub returns : goal.returns
returns c = sought_end c.loop-i.invariant (omega (arith, count_records _ c.args.store.valid, c.loop-i-test.false)) ∙ node_reused _ _ c.requires.over_of c.if-not-over.false
