use Rattle.std.proofs.Common.{◌≡◌, ◌+◌, ◌*◌, length, take, drop, ◌-◌, ◌++◌}
use Rattle.script.specs.Words.{words}
use Rattle.script.proofs.call.Call.fill.Given as goal

abbrev pub invariant-loop-i : goal.invariant-loop-i
invariant-loop-i l =
    (take l.i l.into ++ words (length l.initial.into - l.i) l.self.rest.now ≡ words (length l.initial.into) l.initial.self.rest.now)
    × (l.self.rest.now ≡ drop (4 * l.i) l.initial.self.rest.now)
    × (l.self.left + l.i ≡ l.initial.self.left)
