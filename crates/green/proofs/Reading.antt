-- What the words at a record's places say of its entry; and that a store spells the entries that it holds. Assumes nothing.
use Prim.Native.Nat.{ℕ, zero, suc, ◌+◌, ◌*◌, ◌/◌, ◌%◌, ◌^◌, ◌≤◌, ◌<◌}
use native.Mathlib.Omega.{arith}
use mathlib.Core.Path.{◌≡◌, refl, sym, ap, ◌∙◌}
use mathlib.Core.List.{List, [], ◌∷◌, ◌++◌, flat_map}
use mathlib.Core.Bool.{Bool, true, false}
use lib.ListN.{length, take, drop, get_or, take-append-drop}
use lib.Seq.{slice, split_at, length-take-le, take-suc, take-length}
use Rattle.definitions.specs.Tree.{Tree, token, node, kind, is_node, children_of}
use Rattle.definitions.specs.Entry.{Entry, absent, entry_at, tree_at, trees_at, child_places, text_bytes, own_bytes}
use Rattle.definitions.proofs.Limits.{entries_room}
use Rattle.green.specs.Layout.{tag, own_count, own_first, record_words, words_of, child_words, own_text, all_records, all_children, all_text}
use Rattle.green.specs.Store.{Store, lent, words_at, numbers, tagged, entry_in, entries_to, entries}
use Rattle.green.specs.Valid.{Encodes}
use Rattle.green.proofs.Lists.{slice_mid}
use Rattle.green.proofs.Written.{all_records_append, all_children_append, all_text_append, all_records_length, all_children_length, all_text_length, own_text_length, child_words_length, child_words_numbers}
use Rattle.definitions.proofs.Kept.{trees_at_append}

-- the words of a record are decoded to the entry that they were written for
module _ (es : List Entry) (first : ℕ) (cs tx : List ℕ) where
  decoded : (t : Tree) (ev : Bool) (ns : List ℕ) → let e : Entry = record { tree = t; event = ev; children = ns } in
      kind t < 2 ^ 16 → (is_node t ≡ false → ev ≡ true) → children_of t ≡ trees_at es ns
      → (is_node t ≡ true → numbers (slice first (first + length ns) cs) ≡ ns) → (is_node t ≡ false → slice first (first + own_bytes t) tx ≡ own_text t)
      → entry_in es (record_words first e) cs tx ≡ e
  unfolding tag own_count tagged kind is_node children_of own_bytes own_text trees_at
  decoded (token k b) ev [] hk he hc hn ht =
      let q : (k + 0) / 65536 ≡ 0 = omega arith in
      let r : (k + 0) % 65536 ≡ k = omega arith in
      rw (q, r) (cc (ht refl, he refl))
  decoded (token k b) ev (n ∷ ns) hk he hc hn ht = absurd (let z : ◌≡◌ {A = ℕ} 0 1 = cc in omega arith)
  decoded (node k f) true ns hk he hc hn ht =
      let q : (k + 65536) / 65536 ≡ 1 = omega arith in
      let r : (k + 65536) % 65536 ≡ k = omega arith in
      rw (q, r) (cc (hn refl, hc))
  decoded (node k f) false ns hk he hc hn ht =
      let q : (k + 131072) / 65536 ≡ 2 = omega arith in
      let r : (k + 131072) % 65536 ≡ k = omega arith in
      rw (q, r) (cc (hn refl, hc))

-- the places of record i, and what the entries before it use
module _ (s : Store) (es : List Entry) (h : Encodes s es) (i : ℕ) (l : i < length es) where
  parts : es ≡ take i es ++ (entry_at es i ∷ drop (suc i) es)
  parts = split_at es i absent l

  pub words_at_lem : words_at s.records i ≡ words_of es i
  unfolding all_records
  words_at_lem =
      let n : length (all_records 0 0 (take i es)) ≡ i * 8 = all_records_length 0 0 (take i es) ∙ ap (λ k. k * 8) (length-take-le i es (omega arith)) in
      let c : 0 + child_places (take i es) ≡ child_places (take i es) = omega arith in
      let t : 0 + text_bytes (take i es) ≡ text_bytes (take i es) = omega arith in
      rw (n, c, t) at (slice_mid s.records (all_records 0 0 (take i es)) (record_words _ (entry_at es i)) _ (length es * 8)
      (h.records ∙ ap (all_records 0 0) parts ∙ all_records_append 0 0 (take i es) (entry_at es i ∷ drop (suc i) es)))

  pub children_at :
      let e = entry_at es i in
      slice (child_places (take i es)) (child_places (take i es) + length e.children) s.children ≡ child_words e.children (children_of e.tree) 0
  unfolding all_children flat_map
  children_at =
      let e = entry_at es i in
      rw (all_children_length (take i es), child_words_length e.children (children_of e.tree) 0) at
      (slice_mid s.children (all_children (take i es)) (child_words e.children (children_of e.tree) 0) (all_children (drop (suc i) es)) (child_places es)
      (h.children ∙ ap all_children parts ∙ all_children_append (take i es) (e ∷ drop (suc i) es)))

  pub text_at_lem : let t = tree_at es i in slice (text_bytes (take i es)) (text_bytes (take i es) + own_bytes t) s.text ≡ own_text t
  unfolding all_text flat_map
  text_at_lem =
      let t = tree_at es i in
      rw (all_text_length (take i es), own_text_length t) at
      (slice_mid s.text (all_text (take i es)) (own_text t) (all_text (drop (suc i) es)) (text_bytes es)
      (h.text ∙ ap all_text parts ∙ all_text_append (take i es) (entry_at es i ∷ drop (suc i) es)))

pub own_first_node : (c t : ℕ) (e : Entry) → is_node e.tree ≡ true → own_first c t e ≡ c
unfolding own_first
own_first_node c t e h = rw h

pub own_first_token : (c t : ℕ) (e : Entry) → is_node e.tree ≡ false → own_first c t e ≡ t
unfolding own_first
own_first_token c t e h = rw h

-- the words of record n spell the entry that is held there
spells : (s : Store) (es : List Entry) → Encodes s es → (n : ℕ) → n < length es
    → entry_in (take n es) (words_at s.records n) s.children s.text ≡ entry_at es n
spells s es h n l =
    let e = entry_at es n in
    let f = h.formed n l in
    let few : n ≤ 2 ^ 32 = omega (arith, entries_room (lent s) es h.room) in
    let k : length (take n es) ≡ n = length-take-le n es (omega arith) in
    let keeps : trees_at es e.children ≡ trees_at (take n es) e.children =
    ap (λ x. trees_at x e.children) (sym (take-append-drop n es)) ∙ trees_at_append (take n es) (drop n es) e.children (rw k f.below) in
    rw (words_at_lem s es h n l)
    (decoded (take n es) (own_first (child_places (take n es)) (text_bytes (take n es)) e) s.children s.text e.tree e.event e.children
    f.kind f.token (f.over ∙ keeps)
    (λ q. rw (own_first_node (child_places (take n es)) (text_bytes (take n es)) e q, children_at s es h n l)
    (child_words_numbers n e.children (children_of e.tree) 0 few f.below))
    (λ q. rw (own_first_token (child_places (take n es)) (text_bytes (take n es)) e q) (text_at_lem s es h n l)))

spells_to : (s : Store) (es : List Entry) → Encodes s es → (n : ℕ) → n ≤ length es → entries_to s n ≡ take n es
unfolding entries_to
spells_to s es h zero l = refl
spells_to s es h (suc n) l =
    let p : n < length es = omega arith in
    let ih : entries_to s n ≡ take n es = spells_to s es h n (omega arith) in
    rw (ih, spells s es h n p) (sym (take-suc es n absent p))

-- a store spells what it holds
pub denotes : (s : Store) (es : List Entry) → Encodes s es → entries s ≡ es
unfolding entries
denotes s es h =
    let c : get_or s.used 0 0 ≡ length es = ap (λ u. get_or u 0 0) h.counts in
    rw c (spells_to s es h (length es) (omega arith) ∙ take-length es)
