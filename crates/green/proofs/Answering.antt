-- What the reading functions answer, return by return. Assumes nothing.
use Prim.Native.Nat.{ℕ, zero, suc, ◌+◌, ◌-◌, ◌*◌, ◌/◌, ◌%◌, ◌^◌, ◌≤◌, ◌<◌}
use native.Mathlib.Omega.{arith}
use mathlib.Core.Path.{◌≡◌, refl, sym, ap, ◌∙◌}
use mathlib.Core.List.{List, [], ◌∷◌}
use mathlib.Core.Bool.{Bool, true, false, cond, not}
use lib.Dec.{ltb}
use lib.ListN.{length, get_or, take, drop}
use lib.Seq.{split_at}
use borrow.Author.Tests.{ltb-true, lt-ltb, le-ltb}
use Rattle.definitions.specs.Prelude.{Result, ok, refused}
use Rattle.definitions.specs.Tree.{Tree, token, node, kind, is_node, text, children_of, count, text_len, size, height}
use Rattle.definitions.specs.Hash.{hash}
use Rattle.definitions.specs.Entry.{absent as absentEntry, entry_at, tree_at, child_places, text_bytes, own_bytes}
use Rattle.definitions.specs.Refusal.{is_absent, is_no_node, is_range_outside}
use Rattle.definitions.proofs.Limits.{absent, present}
use Rattle.definitions.proofs.Entries.{trees_at_count, text_bytes_append}
use Rattle.definitions.proofs.Results.{ok≢refused, refused_injective}
use Rattle.definitions.proofs.Laws.{false≢true}
use Rattle.utility_types.specs.Numbers.{refusal_number}
use Rattle.utility_types.specs.declared.Refusal.{Refusal}
use Rattle.utility_types.specs.declared.NodeOrToken.{NodeOrToken}
use Rattle.utility_types.specs.declared.NodeOrToken.TheVariants.{Node, Token}
use Rattle.green.specs.Layout.{own_count, first_of, own_text}
use Rattle.green.specs.Store.{Store, entries}
use Rattle.green.specs.Valid.{AllBelow, Valid, Known}
use Rattle.green.specs.Answers.{Named, looked_up, element_of, fields_of, Place, place_of, child_of}
use Rattle.green.proofs.Lists.{slice_at, part_slice}
use Rattle.green.proofs.Written.{child_words_at}
use Rattle.green.proofs.Reading.{own_first_node, own_first_token, children_at, text_at_lem}
use Rattle.green.proofs.Known.{count_records, number_bound, children_bound, text_bound}
use Rattle.std.specs.Prelude.{Ok, Err}
use Rattle.utility_types.specs.Numbers.{OrRefusal}

-- element
pub no_element : (s : Store) → Valid s → (n : ℕ) → get_or s.used 0 0 ≤ n → refused 4 ≡ element_of (entries s) n
no_element s v n h = rw (absent (entries s) n (omega (arith, count_records s v)))

pub an_element : (s : Store) (n : ℕ) → Known s n → (b : Bool) → is_node (tree_at (entries s) n) ≡ b → ok (record { number = n; is_node = b }) ≡ element_of (entries s) n
an_element s n k b e = rw (present (entries s) n k.within, e)

-- a list of numbers, each below a bound
pub below_at : (i : ℕ) (ns : List ℕ) (k : ℕ) → AllBelow i ns → k < length ns → get_or ns k 0 < i
unfolding AllBelow
below_at i [] k b h = absurd (omega arith)
below_at i (n ∷ ns) zero b h = b.0
below_at i (n ∷ ns) (suc k) b h = below_at i ns k b.1 (omega arith)

pub child_known : {s : Store} (ns : List ℕ) {i n : ℕ} → Valid s → AllBelow (length (entries s)) ns → i < length ns → n ≡ get_or ns i 0 → Known s n
child_known {s} ns {i} v b lt e = record { valid = v; within = rw e (below_at (length (entries s)) ns i b lt) }

-- nth_child
same_place : (a b c d : ℕ) → a ≡ b → c ≡ d → ◌≡◌ {A = Place} (record { number = a; offset = c }) (record { number = b; offset = d })
same_place a b c d p q = rw (p, q)

module _ (s : Store) (n : ℕ) (h : Known s n) (k : ℕ) (d : is_node (tree_at (entries s) n) ≡ true) (l : k < length (entry_at (entries s) n).children) where
  first : first_of (entries s) n ≡ child_places (take n (entries s))
  first = own_first_node (child_places (take n (entries s))) (text_bytes (take n (entries s))) (entry_at (entries s) n) d

  pub child_bound : first_of (entries s) n + k < length s.children
  child_bound = omega (arith, first, children_bound s n h)

  child_word : get_or s.children (first_of (entries s) n + k) 0 ≡ (place_of (entries s) n k).number + 2 ^ 32 * (0 + (place_of (entries s) n k).offset)
  child_word =
      let e = entry_at (entries s) n in
      let c = child_places (take n (entries s)) in
      rw first
      (sym (slice_at s.children c (c + length e.children) k 0 (omega arith))
      ∙ ap (λ ws. get_or ws k 0) (children_at s (entries s) h.valid n h.within)
      ∙ child_words_at e.children (children_of e.tree) 0 k l)

  child_below : (place_of (entries s) n k).number < n
  child_below = below_at n (entry_at (entries s) n).children k (h.valid.formed n h.within).below l

  pub child_place : (f : ℕ) → f ≡ first_of (entries s) n → let w = get_or s.children (f + k) 0 in
      (record { number = w % 4294967296; offset = w / 4294967296 } ≡ place_of (entries s) n k) × (w % 4294967296 < n)
  child_place f e =
      let p = place_of (entries s) n k in
      let w = get_or s.children (f + k) 0 in
      let z : w ≡ p.number + 2 ^ 32 * (0 + p.offset) = rw e child_word in
      let q : w % 4294967296 ≡ p.number = omega (arith, child_below, number_bound s n h) in
      let r : w / 4294967296 ≡ p.offset = omega (arith, child_below, number_bound s n h) in
      (same_place _ _ _ _ q r, omega (arith, child_below))

-- what an answer of `element` tells
found : (b d : Bool) (n m : ℕ) (i : Bool)
    → ◌≡◌ {A = Result Named} (cond (not b) (refused 4) (ok (record { number = n; is_node = d }))) (ok (record { number = m; is_node = i }))
    → (b ≡ true) × (m ≡ n) × (d ≡ i)
found true d n m i e =
    let z : ◌≡◌ {A = Named} (record { number = n; is_node = d }) (record { number = m; is_node = i }) = cc in
    (refl, sym (ap (λ x. x.number) z), ap (λ x. x.is_node) z)
found false d n m i e = absurd (ok≢refused (sym e))

not_found : (b d : Bool) (n r : ℕ) → ◌≡◌ {A = Result Named} (cond (not b) (refused 4) (ok (record { number = n; is_node = d }))) (refused r) → b ≡ false
not_found false d n r e = refl
not_found true d n r e = absurd (ok≢refused e)

module _ (s : Store) (n : ℕ) where
  pub refused_no_node : (r : ℕ) → refused r ≡ element_of (entries s) n → is_no_node (entries s) n ≡ true
  unfolding is_no_node is_absent
  refused_no_node r e = rw (not_found (ltb n (length (entries s))) (is_node (tree_at (entries s) n)) n r (sym e))

  refused_by_4 : (r : ℕ) → refused r ≡ element_of (entries s) n → r ≡ 4
  refused_by_4 r e = go (is_absent (entries s) n) _ e
    where
      go : (b : Bool) (x : Named) → refused r ≡ cond b (refused 4) (ok x) → r ≡ 4
      go true x e = refused_injective e
      go false x e = absurd (ok≢refused (sym e))

  pub token_no_node : (m : ℕ) → ok (record { number = m; is_node = false }) ≡ element_of (entries s) n → is_no_node (entries s) n ≡ true
  unfolding is_no_node is_absent
  token_no_node m e =
      let f = found (ltb n (length (entries s))) (is_node (tree_at (entries s) n)) n m false (sym e) in
      rw (f.0, f.2)

  pub is_a_node : Valid s → (m : ℕ) → ok (record { number = m; is_node = true }) ≡ element_of (entries s) n
      → (m ≡ n) × Known s n × (is_node (tree_at (entries s) n) ≡ true)
  unfolding is_absent
  is_a_node v m e =
      let f = found (ltb n (length (entries s))) (is_node (tree_at (entries s) n)) n m true (sym e) in
      (f.1, record { valid = v; within = ltb-true n (length (entries s)) f.0 }, f.2)

-- child_at
pub count_node : {s : Store} {n : ℕ} → Known s n → is_node (tree_at (entries s) n) ≡ true → own_count (entry_at (entries s) n) ≡ length (entry_at (entries s) n).children
unfolding own_count
count_node k d = rw d

module _ (s : Store) (n k : ℕ) (h : Known s n) (d : is_node (tree_at (entries s) n) ≡ true) where
  node_here : is_no_node (entries s) n ≡ false
  unfolding is_no_node
  node_here = rw (lt-ltb n (length (entries s)) h.within, d)

  pub child_outside : own_count (entry_at (entries s) n) ≤ k → refused 5 ≡ child_of (entries s) n k
  unfolding is_range_outside
  child_outside l =
      rw (node_here, le-ltb (suc k) k (omega arith), le-ltb k 0 (omega arith), lt-ltb (length (entry_at (entries s) n).children) (suc k) (omega (arith, count_node h d)))

  pub child_within : k < own_count (entry_at (entries s) n) → (p : Place) → p ≡ place_of (entries s) n k → ok p ≡ child_of (entries s) n k
  unfolding is_range_outside
  child_within l p e =
      rw (node_here, le-ltb (suc k) k (omega arith), le-ltb k 0 (omega arith), le-ltb (length (entry_at (entries s) n).children) (suc k) (omega (arith, count_node h d))) (ap ok e)

-- text_of
token_text_lem : (t : Tree) → is_node t ≡ false → own_text t ≡ text t
unfolding is_node own_text text
token_text_lem (token k b) e = refl
token_text_lem (node k f) e = absurd (false≢true (sym e))

module _ (s : Store) (n : ℕ) (h : Known s n) (d : is_node (tree_at (entries s) n) ≡ false) where
  token_first : first_of (entries s) n ≡ text_bytes (take n (entries s))
  token_first = own_first_token (child_places (take n (entries s))) (text_bytes (take n (entries s))) (entry_at (entries s) n) d

  token_count : own_count (entry_at (entries s) n) ≡ own_bytes (tree_at (entries s) n)
  unfolding own_count
  token_count = rw d

  pub token_bound : first_of (entries s) n + own_count (entry_at (entries s) n) ≤ length s.text
  token_bound = omega (arith, token_first, token_count, text_bound s n h)

  -- and among the bytes that are in use
  pub token_used : first_of (entries s) n + own_count (entry_at (entries s) n) ≤ text_bytes (entries s)
  unfolding text_bytes
  token_used =
      let parts : text_bytes (entries s) ≡ text_bytes (take n (entries s)) + text_bytes (entry_at (entries s) n ∷ drop (suc n) (entries s)) =
      ap text_bytes (split_at (entries s) n absentEntry h.within) ∙ text_bytes_append (take n (entries s)) (entry_at (entries s) n ∷ drop (suc n) (entries s)) in
      omega (arith, token_first, token_count, parts)

  pub token_part : (f c : ℕ) → f ≡ first_of (entries s) n → c ≡ own_count (entry_at (entries s) n) → take (f + c - f) (drop f s.text) ≡ text (tree_at (entries s) n)
  token_part f c p q =
      rw (p ∙ token_first, q ∙ token_count)
      (part_slice s.text (text_bytes (take n (entries s))) (text_bytes (take n (entries s)) + own_bytes (tree_at (entries s) n)) (omega arith) (omega (arith, text_bound s n h))
      ∙ text_at_lem s (entries s) h.valid n h.within ∙ token_text_lem (tree_at (entries s) n) d)

-- child_at, by what `element` answered
module _ {s : Store} (v : Valid s) (n : ℕ) {l : OrRefusal NodeOrToken} (told : looked_up l ≡ element_of (entries s) n) where
  pub no_child : (k : ℕ) {r : Refusal} → l ≡ Err r → refused (refusal_number r) ≡ child_of (entries s) n k
  no_child k {r} e =
      let f = sym (ap looked_up e) ∙ told in
      rw (refused_by_4 s n (refusal_number r) f, refused_no_node s n (refusal_number r) f) refl

  module _ {x : NodeOrToken} {m : ℕ} (e : l ≡ Ok x) where
    pub token_no_child : (k : ℕ) → x ≡ Token m → refused 4 ≡ child_of (entries s) n k
    token_no_child k t = rw (token_no_node s n m (sym (ap looked_up (e ∙ ap Ok t)) ∙ told))

    module _ (t : x ≡ Node m) where
      same_number : m ≡ n
      same_number = (is_a_node s n v m (sym (ap looked_up (e ∙ ap Ok t)) ∙ told)).0

      pub node_known : Known s m × (is_node (tree_at (entries s) m) ≡ true)
      node_known = let a = is_a_node s n v m (sym (ap looked_up (e ∙ ap Ok t)) ∙ told) in rw same_number (a.1, a.2)

      module _ (k : ℕ) {c : ℕ} (many : c ≡ own_count (entry_at (entries s) m)) where
        pub child_past : c ≤ k → refused 5 ≡ child_of (entries s) n k
        child_past h = child_outside s m k node_known.0 node_known.1 (omega arith) ∙ ap (λ y. child_of (entries s) y k) same_number

        pub child_index : k < c → k < length (entry_at (entries s) m).children
        child_index h = omega (arith, count_node node_known.0 node_known.1)

        pub child_here : k < c → {p : Place} → p ≡ place_of (entries s) m k → ok p ≡ child_of (entries s) n k
        child_here h {p} q = child_within s m k node_known.0 node_known.1 (omega arith) p q ∙ ap (λ y. child_of (entries s) y k) same_number

token_childless : (t : Tree) → is_node t ≡ false → 0 ≡ count (children_of t)
unfolding is_node children_of count
token_childless (token k b) e = refl
token_childless (node k f) e = absurd (false≢true (sym e))

pub no_summary : (s : Store) → Valid s → (n : ℕ) → get_or s.used 0 0 ≤ n → refused 4 ≡ fields_of (entries s) n
no_summary s v n h = rw (absent (entries s) n (omega (arith, count_records s v)))

module _ (s : Store) (n : ℕ) (h : Known s n) where
  abbrev it : Tree
  it = tree_at (entries s) n

  pub node_children : {b : Bool} {c : ℕ} → b ≡ is_node it → c ≡ own_count (entry_at (entries s) n) → b ≡ true → c ≡ count (children_of it)
  node_children p q d =
      q ∙ count_node h (sym p ∙ d)
      ∙ sym (ap count (h.valid.formed n h.within).over ∙ trees_at_count (entries s) (entry_at (entries s) n).children)

  pub token_children : {b : Bool} → b ≡ is_node it → b ≡ false → 0 ≡ count (children_of it)
  token_children p d = token_childless it (sym p ∙ d)

  pub a_summary : {b : Bool} {k l z y w c : ℕ} → b ≡ is_node it → k ≡ kind it → l ≡ text_len it → z ≡ size it → y ≡ height it → w ≡ hash it → c ≡ count (children_of it)
      → ok (record { is_node = b; kind = k; len = l; size = z; height = y; hash = w; children = c }) ≡ fields_of (entries s) n
  a_summary p q r t u v x = rw (present (entries s) n h.within, p, q, r, t, u, v, x)
