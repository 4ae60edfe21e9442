-- `judge` meets its contract.
use native.Mathlib.Omega.{arith}
use Rattle.replace_with.proofs.Judging.{too_deep, root_absent, root_token, no_replacement, leads_nowhere, other_kind, as_climbed, last_at}
use Rattle.replace_with.proofs.decide.judge.Goals as goal

pub returns-then-path-gt-MOST_INDEXES-clause-result_value : goal.returns-then-path-gt-MOST_INDEXES-clause-result_value
returns-then-path-gt-MOST_INDEXES-clause-result_value c = too_deep c.args.store.valid _ _ _ _ c.if-path-gt-MOST_INDEXES.true

pub returns-then-store-path-clause-result_value : goal.returns-then-store-path-clause-result_value
returns-then-store-path-clause-result_value c = root_absent c.args.store.valid _ c.args.path.depth c.args.path.indexes.now c.args.m c.if-path-gt-MOST_INDEXES.false c.if-store-path.true

pub returns-then-not-is_node-clause-result_value : goal.returns-then-not-is_node-clause-result_value
returns-then-not-is_node-clause-result_value c = root_token c.args.store.valid _ _ c.args.path.indexes.now c.args.m c.if-path-gt-MOST_INDEXES.false c.if-store-path.false c.is_node.ensures c.if-not-is_node.true

pub returns-then-store-m-clause-result_value : goal.returns-then-store-m-clause-result_value
returns-then-store-m-clause-result_value c = no_replacement c.args.store.valid _ _ c.args.path.indexes.now _ c.if-path-gt-MOST_INDEXES.false c.if-store-path.false c.is_node.ensures c.if-not-is_node.false c.if-store-m.true

pub returns-then-not-descend-clause-result_value : goal.returns-then-not-descend-clause-result_value
returns-then-not-descend-clause-result_value c = leads_nowhere c.args.store.valid _ _ c.args.path.indexes.now _ c.if-path-gt-MOST_INDEXES.false c.if-store-path.false c.is_node.ensures c.if-not-is_node.false c.if-store-m.false (c.descend.ensures.nowhere c.if-not-descend.true)

pub returns-then-is_other_kind-clause-result_value : goal.returns-then-is_other_kind-clause-result_value
returns-then-is_other_kind-clause-result_value c = let z = last_at c.args.path.depth c.args.path.indexes.now c.descend.new.ancestors (omega (arith, c.args.path.has_room, c.if-path-gt-MOST_INDEXES.false)) (c.descend.ensures.there c.if-not-descend.false) in other_kind c.args.store.valid _ _ c.args.path.indexes.now _ c.if-path-gt-MOST_INDEXES.false c.if-store-path.false c.is_node.ensures c.if-not-is_node.false c.if-store-m.false z.0 c.is_other_kind.ensures c.if-is_other_kind.true

pub returns-clause-result_value : goal.returns-clause-result_value
returns-clause-result_value c = let z = last_at c.args.path.depth c.args.path.indexes.now c.descend.new.ancestors (omega (arith, c.args.path.has_room, c.if-path-gt-MOST_INDEXES.false)) (c.descend.ensures.there c.if-not-descend.false) in as_climbed c.args.store.valid _ _ c.args.path.indexes.now _ c.if-path-gt-MOST_INDEXES.false c.if-store-path.false c.is_node.ensures c.if-not-is_node.false c.if-store-m.false z.0 c.is_other_kind.ensures c.if-is_other_kind.false c.climb.ensures.result_value
