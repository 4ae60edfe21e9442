-- `node` meets its contract.
use native.Mathlib.Omega.{arith}
use mathlib.Core.Bool.{true}
use Rattle.definitions.specs.Entry.{node_entry}
use mathlib.Core.Path.{ap, ◌∙◌}
use lib.ListN.{length}
use Rattle.green_new.specs.Ready.{has_room}
use Rattle.node_cache.proofs.Events.{event_found}
use Rattle.node_cache.proofs.NodeEvents.{events_below, node_many, node_large, node_full, node_ready, node_made}
use Rattle.node_cache.proofs.node.Goals as goal

pub returns-then-count-gt-MAX_CHILDREN-clause-does : goal.returns-then-count-gt-MAX_CHILDREN-clause-does
returns-then-count-gt-MAX_CHILDREN-clause-does c = node_many c.requires.0 _ _ c.if-count-gt-MAX_CHILDREN.true

pub over_children-over-requires : goal.over_children-over-requires
over_children-over-requires c = rw c.read-lent.ensures (events_below _ _ c.requires.1, omega (arith, c.if-count-gt-MAX_CHILDREN.false))

pub returns-in-Some-clause-does : goal.returns-in-Some-clause-does
returns-in-Some-clause-does c = event_found c.requires.0 (node_entry true _ c.args.kind.0 c.args.numbers.now) _ (rw c.read-lent.ensures at c.find_node-found.ensures) c.in-Some.is

pub returns-then-not-is_within-clause-does : goal.returns-then-not-is_within-clause-does
returns-then-not-is_within-clause-does c = node_large c.requires.0 _ _ _ (rw c.read-lent.ensures at c.find_node-found.ensures) c.in_default.is (omega (arith, c.if-count-gt-MAX_CHILDREN.false)) (rw c.read-lent.ensures at c.over_children-over.ensures.measure) c.is_within.ensures c.if-not-is_within.true-raw

pub returns-then-not-has_event_room-clause-does : goal.returns-then-not-has_event_room-clause-does
returns-then-not-has_event_room-clause-does c = node_full c.requires.0 _ _ _ (rw c.read-lent.ensures at c.find_node-found.ensures) c.in_default.is (omega (arith, c.if-count-gt-MAX_CHILDREN.false)) (rw c.read-lent.ensures at c.over_children-over.ensures.measure) c.is_within.ensures c.if-not-is_within.false-raw (c.has_event_room.ensures ∙ ap (λ s. has_room s 1 (length c.args.numbers.now) 0) c.read-lent.ensures) c.if-not-has_event_room.true-raw

pub push_node-requires : goal.push_node-requires
push_node-requires c = node_ready c.requires.0 _ _ _ (rw c.read-lent.ensures at c.find_node-found.ensures) c.in_default.is (omega (arith, c.if-count-gt-MAX_CHILDREN.false)) (rw c.read-lent.ensures at c.over_children-over.ensures.measure) c.is_within.ensures c.if-not-is_within.false-raw (c.has_event_room.ensures ∙ ap (λ s. has_room s 1 (length c.args.numbers.now) 0) c.read-lent.ensures) c.if-not-has_event_room.false-raw c.requires.1

pub returns-clause-does : goal.returns-clause-does
returns-clause-does c = node_made c.requires.0 _ _ _ (rw c.read-lent.ensures at c.find_node-found.ensures) c.in_default.is (omega (arith, c.if-count-gt-MAX_CHILDREN.false)) (rw c.read-lent.ensures at c.over_children-over.ensures.measure) c.is_within.ensures c.if-not-is_within.false-raw (c.has_event_room.ensures ∙ ap (λ s. has_room s 1 (length c.args.numbers.now) 0) c.read-lent.ensures) c.if-not-has_event_room.false-raw c.push_node.ensures.pushes
