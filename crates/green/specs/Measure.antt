-- What every record keeps of its element, for the node above it. A fact that is to be kept of every element is one field more.
use Rattle.std.specs.Prelude.{◌≤◌, ◌≡◌}
use Rattle.definitions.specs.Tree.{Tree, text_len, size, height}
use Rattle.definitions.specs.Hash.{hash}
use Rattle.green.specs.declared.record.Measure.{Measure}

-- THE LAW of what is stored: the measure is the tree's
pub record MeasureOf (t : Tree) (x : Measure) : Type 0 where
  pub len : x.len ≡ text_len t
  pub size : x.size ≡ size t
  pub height : x.height ≡ height t
  pub hash : x.hash ≡ hash t

-- within the limits of 14, so that 4,096 of them can be added up
pub record Summable (x : Measure) : Type 0 where
  pub len : x.len ≤ 4294967295
  pub size : x.size ≤ 1048576
  pub height : x.height ≤ 64
