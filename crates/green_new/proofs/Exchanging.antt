-- The measure of a node after an exchange of its children. Assumes nothing.
use Prim.Native.Nat.{ℕ, max, ◌+◌, ◌-◌, ◌≤◌, ◌<◌}
use native.Mathlib.Omega.{arith}
use native.Mathlib.Decide.{dec_lt}
use mathlib.Core.Path.{◌≡◌, refl, ◌∙◌}
use mathlib.Core.Bool.{true, ◌||◌}
use lib.ListN.{length}
use lib.Dec.{leb, ltb}
use borrow.Author.Tests.{lt-leb, ltb-true}
use Rattle.definitions.specs.Tree.{Forest, node, count, text_len, size, height, heights}
use Rattle.definitions.specs.Hash.{sharable_over, node_hash, hash, hashes}
use Rattle.definitions.proofs.Laws.{hashes_length}
use Rattle.green.specs.Measure.{MeasureOf}
use Rattle.green.specs.declared.record.Measure.{Measure}
use Rattle.green_new.specs.Over.{join}
use Rattle.green_new.specs.Exchange.{Exchangeable, AfterExchange}
use Rattle.green_new.proofs.Adding.{join_len, join_size, join_height}

-- exchanged
module _ {own gone come : Measure} (p : Exchangeable own gone come) {r : Measure} (l : r.len ≡ own.len - gone.len + come.len) (z : r.size ≡ own.size - gone.size + come.size)
    (g : r.height ≡ max own.height come.height) (h : r.hash ≡ 0) where
  module _ (k : ℕ) (front old new back : Forest) (many : 3 < count (join front (join new back))) (o : MeasureOf (node k (join front (join old back))) own) (u : MeasureOf (node k old) gone)
      (v : MeasureOf (node k new) come) where
    new_len : r.len ≡ text_len (node k (join front (join new back)))
    unfolding text_len
    new_len = omega (arith, l, p.len, o.len, u.len, v.len, join_len front (join old back), join_len old back, join_len front (join new back), join_len new back)

    new_size : r.size ≡ size (node k (join front (join new back)))
    unfolding size
    new_size = omega (arith, z, p.size, o.size, u.size, v.size, join_size front (join old back), join_size old back, join_size front (join new back), join_size new back)

    highest : (a b c d x y : ℕ) → x ≡ max a (max b c) → y ≡ max a (max d c) → (d < x → b < x) → y ≡ max x d
    highest a b c d x y e f q = go (dec_lt d x)
      where
        go : Dec (d < x) → y ≡ max x d
        go (yes w) = let i = q w in omega arith
        go (no w) = omega arith

    new_height : r.height ≡ height (node k (join front (join new back)))
    unfolding height
    new_height =
        let e : heights (join front (join old back)) ≡ max (heights front) (max (heights old) (heights back)) = omega (arith, join_height front (join old back), join_height old back) in
        let f : heights (join front (join new back)) ≡ max (heights front) (max (heights new) (heights back)) = omega (arith, join_height front (join new back), join_height new back) in
        let q = highest (heights front) (heights old) (heights back) (heights new) _ _ e f (λ w. let i = p.highest (omega (arith, o.height, v.height)) in omega (arith, o.height, u.height)) in
        omega (arith, g, o.height, v.height, q)

    no_hash : r.hash ≡ hash (node k (join front (join new back)))
    unfolding hash node_hash sharable_over
    no_hash = h ∙ rw (lt-leb (length (hashes (join front (join new back)))) 3 (omega (arith, hashes_length (join front (join new back))))) refl

  pub exchange : AfterExchange own gone come r
  exchange = record {
    exchanged = λ k front old new back many o u v. record {
      len = new_len k front old new back many o u v;
      size = new_size k front old new back many o u v;
      height = new_height k front old new back many o u v;
      hash = no_hash k front old new back many o u v;
    };
  }

-- what goes is a part of what was there
module _ {k : ℕ} (front old back : Forest) {own gone : Measure} (o : MeasureOf (node k (join front (join old back))) own) (u : MeasureOf (node k old) gone) where
  pub part_len : gone.len ≤ own.len
  unfolding text_len
  part_len = omega (arith, o.len, u.len, join_len front (join old back), join_len old back)

  pub part_size : gone.size ≤ own.size
  unfolding size
  part_size = omega (arith, o.size, u.size, join_size front (join old back), join_size old back)

-- is_height_known
pub height_known : (a b c : ℕ) → (leb a b || ltb c a) ≡ true → b < a → c < a
height_known a b c e l = ltb-true c a (rw (lt-leb a b l) at e)
