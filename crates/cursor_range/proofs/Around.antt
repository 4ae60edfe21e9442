-- Which children of a node hold an offset, by how many start before it and how many start no later. Assumes nothing.
use Prim.Native.Nat.{ℕ, suc, ◌+◌, ◌-◌, ◌≤◌, ◌<◌}
use native.Mathlib.Omega.{arith}
use native.Mathlib.Nat.{eq-or-lt_of_le}
use mathlib.Core.Path.{◌≡◌, sym, ap}
use mathlib.Core.Logic.{⊎_elim}
use mathlib.Core.List.{List}
use Rattle.definitions.specs.Tree.{text_len}
use Rattle.definitions.specs.Entry.{Entry, tree_at}
use Rattle.green.specs.Store.{Store, entries}
use Rattle.cursor.specs.declared.position.Cursor.{Cursor}
use Rattle.cursor.specs.Position.{Inner, child_count, ChildAt}
use Rattle.cursor_range.specs.Search.{start_of, Partition}
use Rattle.cursor_range.specs.Offset.{InClosedRange, Misses, ChildInRange, OnlyChildInRange, ChildrenMeeting}
use Rattle.cursor_range.proofs.Starts.{first_start, last_start, child_end}

-- b children start before x, and t children at or before it
module _ {s : Store} {c : Cursor} (i : Inner s c) {x b t : ℕ} (h : InClosedRange (entries s) c x) (p : Partition (entries s) c x b) (q : Partition (entries s) c (x + 1) t) where
  abbrev es : List Entry
  es = entries s

  starts_at_lem : (j : ℕ) → b ≤ j → j < t → start_of es c j ≡ x
  starts_at_lem j l m = omega (arith, p.after j l (omega (arith, q.most)), q.before j m)

  -- child b starts at x or later; if there is none, the node ends there
  next_from : x ≤ start_of es c b
  next_from =
      ⊎_elim (λ l. omega (arith, ap (start_of es c) l, last_start i, h.high)) (λ l. p.after b (omega arith) l) (eq-or-lt_of_le p.most)

  -- no child starts at x, or the last that does is empty
  pub none_right : t ≤ b → Misses x (start_of es c b) (start_of es c (child_count es c))
  none_right n u v w =
      ⊎_elim (λ l. omega (arith, ap (start_of es c) l)) (λ l. omega (arith, q.after b n l)) (eq-or-lt_of_le p.most)

  module _ (o : b < t) {r : Cursor} (a : ChildAt s c (t - 1) r) {n : ℕ} (e : n ≡ text_len (tree_at es r.number)) where
    last_at : start_of es c (t - 1) ≡ x
    last_at = starts_at_lem (t - 1) (omega arith) (omega arith)

    last_end : start_of es c (suc (t - 1)) ≡ x + n
    last_end = omega (arith, child_end i a (omega (arith, q.most)), a.start, last_at)

    pub empty_right : n ≤ 0 → Misses x (start_of es c b) (start_of es c (child_count es c))
    empty_right z u v w =
        let y : suc (t - 1) ≡ t = omega arith in
        let d = rw y at last_end in
        ⊎_elim (λ l. omega (arith, ap (start_of es c) l, d, next_from)) (λ l. omega (arith, q.after t (omega arith) l, d)) (eq-or-lt_of_le q.most)

    module _ (some : 0 < n) where
      pub both_sides : 0 < b → ChildrenMeeting es c x (b - 1) (t - 1)
      both_sides l =
          let y : suc (b - 1) ≡ b = omega arith in
          record {
            order = omega arith;
            within = omega (arith, q.most);
            left = p.before (b - 1) (omega arith);
            ends = rw y (starts_at_lem b (omega arith) o);
            starts = last_at;
            right = omega (arith, last_end);
          }

      pub right_only : b ≤ 0 → OnlyChildInRange es c x (t - 1)
      right_only l = record {
        holds = record { within = omega (arith, q.most); some = omega (arith, last_at, last_end); low = omega (arith, last_at); high = omega (arith, last_end) };
        before = λ u v w. omega (arith, last_at, starts_at_lem 0 l (omega arith));
        after = λ u v w. omega (arith, last_end);
      }

  module _ (m : Misses x (start_of es c b) (start_of es c (child_count es c))) where
    pub left_only : 0 < b → OnlyChildInRange es c x (b - 1)
    left_only l =
        let y : suc (b - 1) ≡ b = omega arith in
        let f = p.before (b - 1) (omega arith) in
        record {
          holds = record { within = omega (arith, p.most); some = rw y (omega (arith, next_from)); low = omega arith; high = rw y next_from };
          before = λ u v w. omega arith;
          after = rw y m;
        }

    pub no_side : b ≤ 0 → text_len (tree_at es c.number) ≡ 0
    no_side l =
        let y : b ≡ 0 = omega arith in
        let m' = rw y at m in
        ⊎_elim
        sym
        (λ g. absurd (m' (omega (arith, first_start es c, last_start i)) (omega (arith, first_start es c, h.low)) (omega (arith, last_start i, h.high))))
        (eq-or-lt_of_le {n = 0} {m = text_len (tree_at es c.number)} (omega arith))

-- of two children that meet at x, each holds it
module _ {es : List Entry} {c : Cursor} {x k m : ℕ} (g : ChildrenMeeting es c x k m) where
  pub left_holds : ChildInRange es c x k
  left_holds = record {
    within = omega (arith, g.order, g.within);
    some = omega (arith, g.left, g.ends);
    low = omega (arith, g.left);
    high = omega (arith, g.ends);
  }

  pub right_holds : ChildInRange es c x m
  right_holds = record {
    within = g.within;
    some = omega (arith, g.starts, g.right);
    low = omega (arith, g.starts);
    high = omega (arith, g.right);
  }
