use Rattle.std.proofs.Common.{length, ◌-◌, ◌≤◌}
use Rattle.files.proofs.read_part.Given as goal

abbrev pub invariant-loop-count : goal.invariant-loop-count
invariant-loop-count l = l.count ≤ length l.buf

abbrev pub decreases-loop-count : goal.decreases-loop-count
decreases-loop-count l = length l.initial.buf - l.count
