use Rattle.std.proofs.Common.{◌-◌}
use Rattle.replay.proofs.stores.Given as goal

abbrev pub decreases-loop-next : goal.decreases-loop-next
decreases-loop-next l = 1000000 - l.turns.next.byte
