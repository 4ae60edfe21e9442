-- What a finish-node event has done, by what `hash_node` and `find_node` answered. Assumes nothing.
use Prim.Native.Nat.{ℕ, ◌≤◌, ◌<◌}
use native.Mathlib.Omega.{arith}
use mathlib.Core.Path.{◌≡◌, refl, sym, ap, ◌∙◌}
use mathlib.Core.List.{List, [], ◌∷◌}
use mathlib.Core.Bool.{Bool, true, false, not, not-not}
use mathlib.Core.Option.{none}
use lib.ListN.{length, get_or}
use borrow.Author.Tests.{lt-ltb, not-true, not-false}
use Rattle.definitions.specs.Tree.{node, children_of}
use Rattle.definitions.specs.Hash.{sharable}
use Rattle.definitions.specs.Entry.{Entry, node_entry, trees_at, own_bytes}
use Rattle.definitions.specs.Refusal.{exceeds_limits, is_too_large}
use Rattle.definitions.specs.NodeCache.{find_from, reuse, share}
use Rattle.definitions.proofs.Entries.{trees_at_count}
use Rattle.definitions.proofs.Hashing.{many_unshared}
use Rattle.definitions.proofs.Sharing.{event_there}
use Rattle.utility_types.specs.declared.Refusal.TheVariants.{TooLarge, NoRoom}
use Rattle.green.specs.Store.{Store, entries, limits}
use Rattle.green.specs.Valid.{AllBelow, AllEvents, Valid}
use Rattle.green_new.specs.Ready.{within_limits, has_room, NodeReady, Pushed}
use Rattle.green_new.specs.Done.{Done}
use Rattle.green_new.specs.Over.{OverOf}
use Rattle.green_new.specs.declared.measure.Over.{Over}
use Rattle.green.specs.Measure.{MeasureOf}
use Rattle.green.specs.declared.record.Measure.{Measure}
use Rattle.green_new.proofs.Making.{node_limits}
use Rattle.node_cache.specs.Search.{found, NodeSought}
use Rattle.node_cache.proofs.Events.{event_missing, event_large, event_full, event_room, event_made}
use Rattle.std.specs.Prelude.{Ok, Err, None, Option as Optional}

pub events_below : (es : List Entry) (ns : List ℕ) → AllEvents es ns → AllBelow (length es) ns
unfolding AllEvents AllBelow
events_below es [] h = tt
events_below es (n ∷ ns) h = (event_there es n h.0, events_below es ns h.1)

-- find_node, by whether the node is shared
module _ (es : List Entry) {k : ℕ} (ns : List ℕ) {x : Over} (h : OverOf k (trees_at es ns) x) where
  pub unshared : not x.is_sharable ≡ true → none ≡ reuse es (node k (trees_at es ns))
  unfolding reuse
  unshared q = rw (sym h.sharable ∙ not-true _ q)

  module _ (q : not x.is_sharable ≡ false) where
    is_shared : sharable (node k (trees_at es ns)) ≡ true
    is_shared = sym h.sharable ∙ not-false _ q

    pub node_sought : AllEvents es ns → NodeSought es k ns x.measure.hash
    node_sought made = record { sharable = is_shared; events = made; hash = h.measure.hash }

    pub node_reused : find_from (node k (trees_at es ns)) es 0 ≡ reuse es (node k (trees_at es ns))
    unfolding reuse
    node_reused = rw is_shared

-- a node over too many children is not looked for
pub node_many : {s : Store} → Valid s → (k : ℕ) (ns : List ℕ) → 4096 < length ns → Done s s (share (limits s) (entries s) (node_entry true (entries s) k ns)) (Err TooLarge)
unfolding is_too_large exceeds_limits children_of reuse
node_many {s} v k ns l =
    event_large v (node_entry true (entries s) k ns) None (rw (sym (many_unshared (entries s) k ns (omega arith)).0)) refl
    (rw (trees_at_count (entries s) ns, lt-ltb 4096 (length ns) l))

module _ {s : Store} (v : Valid s) (k : ℕ) (ns : List ℕ) (r : Optional ℕ) (f : found r ≡ reuse (entries s) (node k (trees_at (entries s) ns))) (p : r ≡ None) where
  abbrev e : Entry
  e = node_entry true (entries s) k ns

  module _ (few : length ns ≤ 4096) {x : Measure} (m : MeasureOf (node k (trees_at (entries s) ns)) x) {w : Bool} (within : (c : ℕ) → c ≤ 4096 → w ≡ within_limits c x) where
    too_large : not w ≡ is_too_large e.tree
    too_large = ap not (within (length ns) few) ∙ not-not _ ∙ sym (node_limits k m (sym (trees_at_count (entries s) ns)))

    pub node_large : not w ≡ true → Done s s (share (limits s) (entries s) e) (Err TooLarge)
    node_large q = event_large v e r f p (sym too_large ∙ q)

    module _ (fits : not w ≡ false) {b : Bool} (room : b ≡ has_room s 1 (length ns) 0) where
      small : is_too_large e.tree ≡ false
      small = sym too_large ∙ fits

      own : 0 ≡ own_bytes e.tree
      unfolding own_bytes
      own = refl

      pub node_full : not b ≡ true → Done s s (share (limits s) (entries s) e) (Err NoRoom)
      node_full q = event_full v e r f p small refl own room q

      module _ (q : not b ≡ false) where
        pub node_ready : AllEvents (entries s) ns → NodeReady s true k ns x
        node_ready made = record {
          new = record { valid = v; below = events_below (entries s) ns made; fresh = λ _. event_missing v e r f p; events = λ _. made; measure = m };
          small = small;
          room = event_room v e r f p small refl own room q;
        }

        pub node_made : {s' : Store} → Pushed s s' e → Done s s' (share (limits s) (entries s) e) (Ok (get_or s.used 0 0))
        node_made u = event_made v e r f p small refl own room q u
