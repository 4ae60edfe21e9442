-- `end_run` meets its contract.
use Rattle.sheet_run.proofs.Ending.{left_over_lem, to_root, to_refusal}
use Rattle.sheet_run.proofs.end_run.Goals as goal

pub returns-then-left-gt0 : goal.returns-then-left-gt0
returns-then-left-gt0 c = left_over_lem _ c.args.n c.args.left.now c.if-left-gt0.true

pub returns-in-Ok : goal.returns-in-Ok
returns-in-Ok c = to_root _ c.args.n c.args.left.now c.if-left-gt0.false _ c.finish-made.ensures c.in-Ok.is

pub returns-in-Err : goal.returns-in-Err
returns-in-Err c = to_refusal _ c.args.n c.args.left.now c.if-left-gt0.false _ c.finish-made.ensures c.in-Err.is
