-- The measure of an element that is there, and that it is small enough to be added up. Assumes nothing.
use Prim.Native.Nat.{ℕ}
use native.Mathlib.Omega.{arith}
use mathlib.Core.Path.{◌≡◌}
use Rattle.definitions.specs.Tree.{text_len, size, height}
use Rattle.definitions.specs.Hash.{hash}
use Rattle.definitions.specs.Entry.{tree_at}
use Rattle.definitions.proofs.Limits.{Small, small}
use Rattle.green.specs.Store.{Store, entries}
use Rattle.green.specs.Valid.{Known}
use Rattle.green.specs.Measure.{MeasureOf, Summable}
use Rattle.green.specs.declared.record.Measure.{Measure}

pub known_small : {s : Store} {n : ℕ} → Known s n → Small (tree_at (entries s) n)
known_small {s} {n} k = small (tree_at (entries s) n) (k.valid.formed n k.within).small

pub measured : {s : Store} {n : ℕ} → Known s n → {x : Measure} → x.len ≡ text_len (tree_at (entries s) n) → x.size ≡ size (tree_at (entries s) n)
    → x.height ≡ height (tree_at (entries s) n) → x.hash ≡ hash (tree_at (entries s) n) → MeasureOf (tree_at (entries s) n) x × Summable x
measured k a b c d =
    let z = known_small k in
    (record { len = a; size = b; height = c; hash = d }, record { len = omega arith; size = omega arith; height = omega arith })
