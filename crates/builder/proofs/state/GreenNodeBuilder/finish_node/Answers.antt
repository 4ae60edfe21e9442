-- `finish_node` meets its contract.
use mathlib.Core.Path.{refl, ap, ◌∙◌}
use mathlib.Core.List.{[], ◌∷◌, ◌++◌}
use native.Mathlib.Omega.{arith}
use Rattle.builder.proofs.Events.{finish_none, finish_many, finish_fits, finish_events, finish_small, finish_refused, finish_waits}
use Rattle.builder.proofs.state.GreenNodeBuilder.finish_node.Goals as goal

pub returns-then-open-eq0-clause-does : goal.returns-then-open-eq0-clause-does
returns-then-open-eq0-clause-does c = finish_none c.requires c.as_slice-parents.ensures.value c.if-open-eq0.true

pub returns-then-first-ge-MAX_WAITING-clause-does : goal.returns-then-first-ge-MAX_WAITING-clause-does
returns-then-first-ge-MAX_WAITING-clause-does c = finish_many c.requires c.as_slice-parents.ensures.value c.if-open-eq0.false _ refl c.if-first-ge-MAX_WAITING.true

pub slice_bounds-node-count : goal.slice_bounds-node-count
slice_bounds-node-count c = finish_fits c.requires c.as_slice-parents.ensures.value c.if-open-eq0.false _ refl c.as_slice-children.ensures.value

pub slice_bounds-node-start : goal.slice_bounds-node-start
slice_bounds-node-start c = finish_fits c.requires c.as_slice-parents.ensures.value c.if-open-eq0.false _ refl c.as_slice-children.ensures.value

pub node-made-requires : goal.node-made-requires
node-made-requires c = (c.requires.valid, finish_events c.requires c.as_slice-parents.ensures.value c.if-open-eq0.false _ refl c.as_slice-children.ensures.value)

pub overflow_cast-n : goal.overflow_cast-n
overflow_cast-n c = omega (arith, finish_small c.requires c.as_slice-parents.ensures.value c.if-open-eq0.false _ refl c.as_slice-children.ensures.value c.node-made.ensures.does c.in-Ok.is)

pub returns-in-Err-clause-does : goal.returns-in-Err-clause-does
returns-in-Err-clause-does c = finish_refused c.requires c.as_slice-parents.ensures.value c.if-open-eq0.false _ refl c.as_slice-children.ensures.value c.node-made.ensures.does c.if-first-ge-MAX_WAITING.false c.in-Err.is

pub returns-in-Ok-clause-does : goal.returns-in-Ok-clause-does
returns-in-Ok-clause-does c = finish_waits c.requires c.as_slice-parents.ensures.value c.if-open-eq0.false _ refl c.as_slice-children.ensures.value c.node-made.ensures.does c.if-first-ge-MAX_WAITING.false c.in-Ok.is c.truncate.ensures.items (c.push.ensures.items ∙ ap (λ ns. ns ++ (c.in-Ok.n ∷ [])) c.truncate-in-Ok.ensures.items)
