-- `find_token` meets its contract.
use native.Mathlib.Omega.{arith}
use mathlib.Core.Path.{◌∙◌}
use Rattle.definitions.proofs.Sharing.{sought_start, sought_hit, sought_next, sought_end}
use Rattle.green.proofs.Known.{number_bound, known, count_records}
use Rattle.node_cache.proofs.Seeking.{seek_token}
use Rattle.node_cache.proofs.TokenEvents.{token_reused}
use Rattle.node_cache.proofs.search.find_token.Goals as goal

pub loop-i-init : goal.loop-i-init
loop-i-init c = seek_token c.next_alike-i.ensures c.requires sought_start

pub is_token-requires : goal.is_token-requires
is_token-requires c = (known _ c.args.store.valid _ c.loop-i-test.true, c.requires)

pub returns-then-is_token : goal.returns-then-is_token
returns-then-is_token c = sought_hit c.loop-i.invariant (known _ c.args.store.valid _ c.loop-i-test.true).within _ c.is_token.ensures c.if-is_token.true ∙ token_reused _ _ _

pub overflow_add-i : goal.overflow_add-i
overflow_add-i c = omega (arith, number_bound _ _ (known _ c.args.store.valid _ c.loop-i-test.true))

pub loop-i-smaller : goal.loop-i-smaller
loop-i-smaller c = omega (arith, c.next_alike-i-in-loop-i.ensures.none.after, c.loop-i-test.true)

pub loop-i-preserved : goal.loop-i-preserved
loop-i-preserved c = seek_token c.next_alike-i-in-loop-i.ensures c.requires (sought_next c.loop-i.invariant (known _ c.args.store.valid _ c.loop-i-test.true).within _ c.is_token.ensures c.if-is_token.false)

pub returns : goal.returns
returns c = sought_end c.loop-i.invariant (omega (arith, count_records _ c.args.store.valid, c.loop-i-test.false)) ∙ token_reused _ _ _
