-- The measure of a node whose children from..to are exchanged: child by child, or from what it was. Assumes nothing.
use Prim.Native.Nat.{ℕ, ◌+◌, ◌-◌, ◌≤◌, ◌<◌}
use native.Mathlib.Omega.{arith}
use mathlib.Core.Path.{◌≡◌, refl, sym, ap, ◌∙◌}
use mathlib.Core.List.{List, ◌++◌, append_assoc}
use mathlib.Core.Bool.{true, ◌||◌}
use lib.ListN.{length, take, drop, take-append-drop}
use lib.Dec.{leb, ltb}
use lib.Seq.{slice, take-take, take-length}
use Rattle.definitions.specs.Tree.{Tree, Forest, nil, token, node, kind, is_node, children_of, count}
use Rattle.definitions.specs.Entry.{entry_at, tree_at, trees_at}
use Rattle.definitions.proofs.Laws.{false≢true}
use Rattle.definitions.proofs.Entries.{trees_at_count}
use Rattle.green.specs.Store.{Store, entries}
use Rattle.green.specs.Measure.{MeasureOf, Summable}
use Rattle.green.specs.declared.record.Measure.{Measure}
use Rattle.green_new.specs.Over.{join, OverOf, Adds, Addable, RoomFor, Range}
use Rattle.green_new.specs.Exchange.{Exchangeable, AfterExchange}
use Rattle.green_new.specs.declared.measure.Over.{Over}
use Rattle.green_new.proofs.Adding.{trees_join, adds_both, room_for, over_all}
use Rattle.green_new.proofs.Exchanging.{part_len, part_size, height_known}
use Rattle.edits.specs.Splice.{spliced, spliced_tree}
use Rattle.edits.proofs.Lists.{splice_length}
use Rattle.edits.proofs.Counting.{children_few}

pub node_of_lem : (t : Tree) → is_node t ≡ true → t ≡ node (kind t) (children_of t)
unfolding is_node kind children_of
node_of_lem (token k b) e = absurd (false≢true e)
node_of_lem (node k f) e = refl

pub of_kind : {j k : ℕ} {f : Forest} {a : Over} → j ≡ k → OverOf j f a → OverOf k f a
of_kind e o = rw e at o

module _ {s : Store} {n from to : ℕ} (g : Range s n from to) (ms : List ℕ) where
  abbrev ns : List ℕ
  ns = (entry_at (entries s) n).children

  abbrev front : Forest
  front = trees_at (entries s) (slice 0 from ns)

  abbrev middle : Forest
  middle = trees_at (entries s) (slice from to ns)

  abbrev back : Forest
  back = trees_at (entries s) (slice to (length ns) ns)

  abbrev new : Forest
  new = trees_at (entries s) ms

  last : slice to (length ns) ns ≡ drop to ns
  last = ap (drop to) (take-length ns)

  parts : slice 0 from ns ++ (slice from to ns ++ slice to (length ns) ns) ≡ ns
  parts =
      sym (append_assoc (take from ns) (slice from to ns) (slice to (length ns) ns))
      ∙ ap (λ l. (l ++ slice from to ns) ++ slice to (length ns) ns) (sym (take-take from to ns g.order))
      ∙ ap (λ l. l ++ slice to (length ns) ns) (take-append-drop from (take to ns))
      ∙ ap (λ l. take to ns ++ l) last
      ∙ take-append-drop to ns

  -- the node as it is, and with the range exchanged
  pub own_tree : tree_at (entries s) n ≡ node (kind (tree_at (entries s) n)) (join front (join middle back))
  own_tree =
      node_of_lem (tree_at (entries s) n) g.a_node
      ∙ ap (node (kind (tree_at (entries s) n)))
      ((g.known.valid.formed n g.known.within).over
      ∙ ap (trees_at (entries s)) (sym parts)
      ∙ trees_join (entries s) (slice 0 from ns) (slice from to ns ++ slice to (length ns) ns)
      ∙ ap (join front) (trees_join (entries s) (slice from to ns) (slice to (length ns) ns)))

  pub new_forest : trees_at (entries s) (spliced (entries s) n from to ms) ≡ join front (join new back)
  new_forest =
      ap (λ l. trees_at (entries s) (take from ns ++ (ms ++ l))) (sym last)
      ∙ trees_join (entries s) (slice 0 from ns) (ms ++ slice to (length ns) ns)
      ∙ ap (join front) (trees_join (entries s) ms (slice to (length ns) ns))

  pub new_few : length ms ≤ length (spliced (entries s) n from to ms)
  new_few = omega (arith, splice_length ns ms from to g.order g.within)

  -- over_spliced: in front of the range, what comes, and behind the range
  module _ (few : length (spliced (entries s) n from to ms) ≤ 4096) {a₀ : Over} (o : Addable a₀ 0) where
    pub front_range : Range s n 0 from × RoomFor a₀ (from - 0)
    front_range = (
      record { known = g.known; a_node = g.a_node; order = omega arith; within = omega (arith, g.order, g.within) },
      room_for o (from - 0) (omega (arith, splice_length ns ms from to g.order g.within)),
    )

    module _ {a : Over} (p : Addable a (a₀.count + (from - 0))) where
      pub new_room : RoomFor a (length ms)
      new_room = room_for p (length ms) (omega (arith, splice_length ns ms from to g.order g.within, o.count))

      pub back_range : {c : ℕ} → c ≡ length ns → {b : Over} → Addable b (a.count + length ms) → Range s n to c × RoomFor b (c - to)
      back_range {c} e q = (
        record { known = g.known; a_node = g.a_node; order = omega (arith, e, g.within); within = omega (arith, e) },
        room_for q (c - to) (omega (arith, splice_length ns ms from to g.order g.within, o.count, p.count, e)),
      )

  pub over_parts : {c : ℕ} → c ≡ length ns → {k : ℕ} {a₀ a b r : Over} → OverOf k nil a₀ → Adds a₀ front a → Adds a new b → Adds b (trees_at (entries s) (slice to c ns)) r
      → OverOf k (trees_at (entries s) (spliced (entries s) n from to ms)) r
  over_parts e {k} o p q u =
      let w = rw e at u in
      rw new_forest (over_all o (adds_both p (adds_both q w)))

  -- measure_spliced
  pub goes_room : {a : Over} → Addable a 0 → RoomFor a (to - from)
  goes_room o = room_for o (to - from) (omega (arith, g.order, g.within, children_few g.known))

  pub comes_room : {a : Over} → Addable a 0 → length (spliced (entries s) n from to ms) ≤ 4096 → RoomFor a (length ms)
  comes_room o few = room_for o (length ms) (omega (arith, new_few))

  module _ {none goes comes : Over} {own : Measure} (o : MeasureOf (tree_at (entries s) n) own) (start : OverOf (kind (tree_at (entries s) n)) nil none) (p : Adds none middle goes) (q : Adds none new comes) where
    own_measure : MeasureOf (node (kind (tree_at (entries s) n)) (join front (join middle back))) own
    own_measure = rw own_tree at o

    pub exchangeable : Summable own → Addable none 0 → length (spliced (entries s) n from to ms) ≤ 4096 → Addable comes (none.count + length ms)
        → (leb own.height comes.measure.height || ltb goes.measure.height own.height) ≡ true → Exchangeable own goes.measure comes.measure
    exchangeable f z few r h = record {
      len = part_len front middle back own_measure (over_all start p).measure;
      size = part_size front middle back own_measure (over_all start p).measure;
      own_len = f.len;
      own_size = f.size;
      come_len = omega (arith, r.len, z.count, new_few);
      come_size = omega (arith, r.size, z.count, new_few);
      highest = height_known own.height comes.measure.height goes.measure.height h;
    }

    pub exchange_spliced : 3 < length (spliced (entries s) n from to ms) → {x : Measure} → AfterExchange own goes.measure comes.measure x → MeasureOf (spliced_tree (entries s) n from to ms) x
    exchange_spliced many e =
        let l : 3 < count (join front (join new back)) = omega (arith, many, sym (ap count new_forest) ∙ trees_at_count (entries s) (spliced (entries s) n from to ms)) in
        rw new_forest (e.exchanged (kind (tree_at (entries s) n)) front middle new back l own_measure (over_all start p).measure (over_all start q).measure)
