-- A node whose children are exchanged for others, in part: its measure, without those that stay.
use Rattle.std.specs.Prelude.{ℕ, ◌+◌, ◌*◌, ◌≤◌, ◌<◌}
use Rattle.definitions.specs.Tree.{Forest, node, count}
use Rattle.green.specs.Measure.{MeasureOf}
use Rattle.green.specs.declared.record.Measure.{Measure}
use Rattle.green_new.specs.Over.{join}

-- The measures of a node as it was, and of nodes over the children that go and over those that come: what is subtracted was added before, and the highest child
-- is known, as one that comes is as high as any was, or none that goes was the highest.
pub record Exchangeable (own gone come : Measure) : Type 0 where
  pub len : gone.len ≤ own.len
  pub size : gone.size ≤ own.size
  pub own_len : own.len ≤ 4294967295
  pub own_size : own.size ≤ 1048576
  pub come_len : come.len ≤ 4096 * 4294967295
  pub come_size : come.size ≤ 1 + 4096 * 1048576
  pub highest : come.height < own.height → gone.height < own.height

-- THE LAW of an exchange: r is the measure of the node with h in the place of g, if that leaves it more than three children
pub record AfterExchange (own gone come r : Measure) : Type 0 where
  pub exchanged : (k : ℕ) (front g h back : Forest) → 3 < count (join front (join h back)) → MeasureOf (node k (join front (join g back))) own → MeasureOf (node k g) gone → MeasureOf (node k h) come
      → MeasureOf (node k (join front (join h back))) r
