-- `token` meets its contract.
use native.Mathlib.Omega.{arith}
use Rattle.builder.proofs.Events.{token_many, token_small, token_refused, token_waits}
use Rattle.builder.proofs.Steps.{full, not_full}
use Rattle.builder.proofs.state.GreenNodeBuilder.token.Goals as goal

pub returns-then-is_full-clause-does : goal.returns-then-is_full-clause-does
returns-then-is_full-clause-does c = token_many c.requires c.args.kind.0 c.args.src.now (full c.is_full.ensures.value c.if-is_full.true)

pub overflow_cast-n : goal.overflow_cast-n
overflow_cast-n c = omega (arith, token_small c.requires c.args.kind.0 c.args.src.now c.token-made.ensures.does c.in-Ok.is)

pub returns-in-Err-clause-does : goal.returns-in-Err-clause-does
returns-in-Err-clause-does c = token_refused c.requires c.args.kind.0 c.args.src.now c.token-made.ensures.does (not_full c.is_full.ensures.value c.is_full.ensures.fits c.if-is_full.false) c.in-Err.is

pub returns-in-Ok-clause-does : goal.returns-in-Ok-clause-does
returns-in-Ok-clause-does c = token_waits c.requires c.args.kind.0 c.args.src.now c.token-made.ensures.does (not_full c.is_full.ensures.value c.is_full.ensures.fits c.if-is_full.false) c.in-Ok.is c.push.ensures.items
