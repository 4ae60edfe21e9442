-- Child places copied within the lent ones.
use Rattle.std.specs.Prelude.{ℕ, ◌+◌, ◌-◌, ◌*◌, ◌/◌, ◌%◌, ◌^◌, ◌≤◌, ◌<◌, List, length, get_or}

-- a child place, its offset moved from one to another
abbrev pub moved : ℕ → ℕ → ℕ → ℕ
moved back forth w = w % 2 ^ 32 + 2 ^ 32 * (w / 2 ^ 32 - back + forth)

-- a child place whose offset may be moved so
pub record MovablePlace (w back forth : ℕ) : Type 0 where
  pub behind : back ≤ w / 2 ^ 32
  pub small : w / 2 ^ 32 - back + forth < 2 ^ 32

-- so many places that may be moved, from a source that lies before the target
pub record Movable (ws : List ℕ) (source target count back forth : ℕ) : Type 0 where
  pub before : source + count ≤ target
  pub room : target + count ≤ length ws
  pub each : (k : ℕ) → k < count → MovablePlace (get_or ws (source + k) 0) back forth
