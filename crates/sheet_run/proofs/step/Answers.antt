-- `step` meets its contract.
use Rattle.std.proofs.Common.{rules}
use Rattle.definitions.specs.Sheet.{event_count}
use Rattle.sheet_run.proofs.Stepping.{step_done}
use Rattle.sheet_run.proofs.step.Goals as goal

pub u32_at-operand-requires : goal.u32_at-operand-requires
unfolding event_count
u32_at-operand-requires c = search rules

pub returns-clause-done : goal.returns-clause-done
returns-clause-done c = step_done c.args.sheet.now c.args.source.now c.u32_at-n.ensures c.u32_at-word.ensures c.u32_at-operand.ensures c.event-answer.ensures.does c.taken-taken.ensures
