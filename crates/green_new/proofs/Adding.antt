-- A node's measure child by child: one child more, and all of them. Assumes nothing.
use Prim.Native.Nat.{ℕ, max, ◌+◌, ◌-◌, ◌≤◌, ◌<◌}
use native.Mathlib.Omega.{arith}
use native.Mathlib.Numerals.{add-one}
use native.Mathlib.Decide.{dec_lt}
use mathlib.Core.Path.{◌≡◌, refl, sym, ap, ◌∙◌}
use mathlib.Core.List.{List, [], ◌∷◌, ◌++◌}
use mathlib.Core.Bool.{Bool, true, false, cond, not, ◌&&◌}
use lib.ListN.{length, get_or, take, length-append}
use lib.Seq.{slice, take-suc, take_all, length-slice}
use lib.Dec.{leb, ltb, eqb}
use borrow.Author.Tests.{le-leb, lt-leb, lt-ltb, le-ltb, not-true, not-false}
use Rattle.definitions.specs.Prelude.{all}
use Rattle.definitions.specs.Tree.{Tree, Forest, nil, cons, token, node, count, text_len, text_lens, size, sizes, height, heights}
use Rattle.definitions.specs.Hash.{add_word, add_words, sharable_over, node_hash, hash, hashes, sharable}
use Rattle.definitions.specs.Entry.{Entry, entry_at, tree_at, trees_at}
use Rattle.definitions.proofs.Laws.{hashes_length}
use Rattle.green.specs.Store.{Store, entries}
use Rattle.green.specs.Measure.{MeasureOf, Summable}
use Rattle.green.specs.declared.record.Measure.{Measure}
use Rattle.green_new.specs.Over.{join, OverOf, Adds, AddsOne, Addable, RoomFor, Range}
use Rattle.green_new.specs.declared.measure.Over.{Over}
use Rattle.green.proofs.Lists.{slice_at}

-- two forests as one
join_nil : (f : Forest) → join f nil ≡ f
unfolding join
join_nil nil = refl
join_nil (cons t f) = ap (cons t) (join_nil f)

pub join_assoc : (f g h : Forest) → join (join f g) h ≡ join f (join g h)
unfolding join
join_assoc nil g h = refl
join_assoc (cons t f) g h = ap (cons t) (join_assoc f g h)

pub join_count : (f g : Forest) → count (join f g) ≡ count f + count g
unfolding join count
join_count nil g = omega arith
join_count (cons t f) g = omega (arith, join_count f g)

pub join_len : (f g : Forest) → text_lens (join f g) ≡ text_lens f + text_lens g
unfolding join text_lens
join_len nil g = omega arith
join_len (cons t f) g = omega (arith, join_len f g)

pub join_size : (f g : Forest) → sizes (join f g) ≡ sizes f + sizes g
unfolding join sizes
join_size nil g = omega arith
join_size (cons t f) g = omega (arith, join_size f g)

pub join_height : (f g : Forest) → heights (join f g) ≡ max (heights f) (heights g)
unfolding join heights
join_height nil g = omega arith
join_height (cons t f) g = omega (arith, join_height f g)

join_hashes : (f g : Forest) → hashes (join f g) ≡ hashes f ++ hashes g
unfolding join hashes
join_hashes nil g = refl
join_hashes (cons t f) g = ap (λ hs. hash t ∷ hs) (join_hashes f g)

-- the elements of two lists of numbers
pub trees_join : (es : List Entry) (ns ms : List ℕ) → trees_at es (ns ++ ms) ≡ join (trees_at es ns) (trees_at es ms)
unfolding join trees_at
trees_join es [] ms = refl
trees_join es (n ∷ ns) ms = ap (cons (tree_at es n)) (trees_join es ns ms)

-- one hash more
words_more : (h : ℕ) (ws : List ℕ) (w : ℕ) → add_words h (ws ++ (w ∷ [])) ≡ add_word (add_words h ws) w
unfolding add_words
words_more h [] w = refl
words_more h (v ∷ ws) w = words_more (add_word h v) ws w

and_assoc : (a b c : Bool) → ((a && b) && c) ≡ (a && (b && c))
and_assoc true b c = refl
and_assoc false b c = refl

and_true : (a : Bool) → (a && true) ≡ a
and_true true = refl
and_true false = refl

and_false : (a : Bool) → (a && false) ≡ false
and_false true = refl
and_false false = refl

all_more : (p : ℕ → Bool) (ws : List ℕ) (w : ℕ) → all p (ws ++ (w ∷ [])) ≡ (all p ws && p w)
unfolding all
all_more p [] w = and_true (p w)
all_more p (v ∷ ws) w = ap (λ b. p v && b) (all_more p ws w) ∙ sym (and_assoc (p v) (all p ws) (p w))

sharable_more : (ws : List ℕ) (w : ℕ) → sharable_over (ws ++ (w ∷ [])) ≡ (sharable_over ws && (ltb (length ws) 3 && not (eqb w 0)))
unfolding sharable_over
sharable_more ws w = go (dec_lt (length ws) 3)
  where
    go : Dec (length ws < 3) → (leb (length (ws ++ (w ∷ []))) 3 && all (λ h. not (eqb h 0)) (ws ++ (w ∷ []))) ≡ ((leb (length ws) 3 && all (λ h. not (eqb h 0)) ws) && (ltb (length ws) 3 && not (eqb w 0)))
    go (yes p) =
        let a = le-leb (length (ws ++ (w ∷ []))) 3 (omega (arith, length-append ws (w ∷ []))) in
        let b = le-leb (length ws) 3 (omega arith) in
        rw (a, b, lt-ltb (length ws) 3 p) (all_more (λ h. not (eqb h 0)) ws w)
    go (no p) =
        let a = lt-leb (length (ws ++ (w ∷ []))) 3 (omega (arith, length-append ws (w ∷ []))) in
        rw (a, le-ltb (length ws) 3 (omega arith)) (sym (and_false (leb (length ws) 3 && all (λ h. not (eqb h 0)) ws)))

hash_more : (k : ℕ) (ws : List ℕ) (w : ℕ) → node_hash k (ws ++ (w ∷ [])) ≡ cond (sharable_over (ws ++ (w ∷ []))) (add_word (node_hash k ws) w) 0
unfolding node_hash
hash_more k ws w = rw (sharable_more ws w, words_more (add_word 0 k) ws w) (go (sharable_over ws) (ltb (length ws) 3 && not (eqb w 0)))
  where
    go : (a b : Bool) → cond (a && b) (add_word (add_words (add_word 0 k) ws) w) 0 ≡ cond (a && b) (add_word (cond a (add_words (add_word 0 k) ws) 0) w) 0
    go true b = refl
    go false b = refl

-- stays_sharable
pub unsharable_stays : (a b : Bool) → not a ≡ true → false ≡ (a && b)
unsharable_stays a b q = rw (not-true a q)

pub many_stay : (a b : Bool) (c : ℕ) → 3 ≤ c → false ≡ (a && (ltb c 3 && b))
many_stay a b c l = rw (le-ltb c 3 l) (sym (and_false a))

pub stay : (a b : Bool) (c : ℕ) → not a ≡ false → c < 3 → b ≡ (a && (ltb c 3 && b))
stay a b c q l = rw (not-false a q, lt-ltb c 3 l)

-- of_token, childless
pub token_measure : (k : ℕ) (b : List ℕ) {x : Measure} → x.len ≡ length b → x.size ≡ 1 → x.height ≡ 0 → x.hash ≡ hash (token k b) → MeasureOf (token k b) x
unfolding text_len size height
token_measure k b p q r h = record { len = p; size = q; height = r; hash = h }

pub over_none : {k h : ℕ} → h ≡ add_word 0 k
    → OverOf k nil (record { count = 0; is_sharable = true; measure = record { len = 0; size = 1; height = 1; hash = h } })
unfolding count sharable sharable_over hash hashes node_hash add_words all text_len text_lens size sizes height heights
over_none e = record { count = refl; sharable = refl; measure = record { len = refl; size = refl; height = refl; hash = e } }

-- plus
module _ {a : Over} {x : Measure} {r : Over} (c : r.count ≡ a.count + 1) (s : r.is_sharable ≡ (a.is_sharable && (ltb a.count 3 && not (eqb x.hash 0))))
    (h : r.measure.hash ≡ cond r.is_sharable (add_word a.measure.hash x.hash) 0) (g : r.measure.height ≡ max a.measure.height (x.height + 1))
    (l : r.measure.len ≡ a.measure.len + x.len) (z : r.measure.size ≡ a.measure.size + x.size) where
  module _ (t : Tree) (m : MeasureOf t x) (k : ℕ) (f : Forest) (o : OverOf k f a) where
    all_hashes : hashes (join f (cons t nil)) ≡ hashes f ++ (hash t ∷ [])
    unfolding hashes
    all_hashes = join_hashes f (cons t nil)

    shared : r.is_sharable ≡ sharable (node k (join f (cons t nil)))
    unfolding sharable
    shared = s ∙ rw (o.sharable, o.count, m.hash, all_hashes, sharable_more (hashes f) (hash t), hashes_length f)

    lens : r.measure.len ≡ text_len (node k (join f (cons t nil)))
    unfolding text_len text_lens
    lens = omega (arith, l, o.measure.len, m.len, join_len f (cons t nil))

    sized : r.measure.size ≡ size (node k (join f (cons t nil)))
    unfolding size sizes
    sized = omega (arith, z, o.measure.size, m.size, join_size f (cons t nil))

    high : r.measure.height ≡ height (node k (join f (cons t nil)))
    unfolding height heights
    high = omega (arith, g, o.measure.height, m.height, join_height f (cons t nil))

    hashed : r.measure.hash ≡ hash (node k (join f (cons t nil)))
    unfolding hash sharable
    hashed = h ∙ rw (shared, o.measure.hash, m.hash, all_hashes) (sym (hash_more k (hashes f) (hash t)))

    counted : r.count ≡ count (join f (cons t nil))
    unfolding count
    counted = omega (arith, c, o.count, join_count f (cons t nil))

    grown : OverOf k (join f (cons t nil)) r
    grown = record { count = counted; sharable = shared; measure = record { len = lens; size = sized; height = high; hash = hashed } }

  pub added : AddsOne a x r
  added = record { adds = λ t m. record { adds = λ k f o. grown t m k f o } }

pub addable_none : {h : ℕ} → Addable (record { count = 0; is_sharable = true; measure = record { len = 0; size = 1; height = 1; hash = h } }) 0
addable_none = record { count = refl; len = omega arith; size = omega arith; height = omega arith }

pub addable_more : {a : Over} {x : Measure} {r : Over} {n : ℕ} → Addable a n → Summable x → r.count ≡ a.count + 1 → r.measure.height ≡ max a.measure.height (x.height + 1)
    → r.measure.len ≡ a.measure.len + x.len → r.measure.size ≡ a.measure.size + x.size → Addable r (n + 1)
addable_more p q c g l z = record {
  count = omega (arith, c, p.count);
  len = omega (arith, l, p.len, q.len);
  size = omega (arith, z, p.size, q.size);
  height = omega (arith, g, p.height, q.height);
}

-- none more, and some more twice
pub adds_none : (a : Over) → Adds a nil a
adds_none a = record { adds = λ k f o. rw (join_nil f) o }

pub adds_both : {a b r : Over} {g h : Forest} → Adds a g b → Adds b h r → Adds a (join g h) r
adds_both {g = g} {h = h} p q = record { adds = λ k f o. rw (← join_assoc f g h) (q.adds k (join f g) (p.adds k f o)) }

-- so many more may be added to what has few
pub room_for : {a : Over} {n : ℕ} → Addable a n → (more : ℕ) → n + more ≤ 4096 → RoomFor a more
room_for p more few = record {
  so_far = record { count = refl; len = omega (arith, p.len, p.count); size = omega (arith, p.size, p.count); height = p.height };
  few = omega (arith, p.count);
}

-- the loops: after i of the elements that numbers name
pub record Adding (a₀ : Over) (es : List Entry) (ns : List ℕ) (a : Over) (i : ℕ) : Type 0 where
  pub within : i ≤ length ns
  pub room : Addable a (a₀.count + i)
  pub adds : Adds a₀ (trees_at es (take i ns)) a

pub adding_none : {a : Over} {es : List Entry} {ns : List ℕ} {more : ℕ} → RoomFor a more → Adding a es ns a 0
unfolding trees_at
adding_none {a} r = let z : a.count + 0 ≡ a.count = omega arith in record { within = omega arith; room = rw z r.so_far; adds = adds_none a }

module _ {a₀ : Over} {es : List Entry} {ns : List ℕ} {a : Over} {i : ℕ} (g : Adding a₀ es ns a i) where
  pub adding_room : RoomFor a₀ (length ns) → i < length ns → {x : Measure} → Summable x → RoomFor a 1 × Summable x
  adding_room r l q = (room_for g.room 1 (omega (arith, r.few)), q)

  module _ (l : i < length ns) {n : ℕ} (e : n ≡ get_or ns i 0) where
    next : take (i + 1) ns ≡ take i ns ++ (n ∷ [])
    next = rw (add-one, e) (take-suc ns i 0 l)

    next_tree : trees_at es (take (i + 1) ns) ≡ join (trees_at es (take i ns)) (cons (tree_at es n) nil)
    unfolding trees_at
    next_tree = ap (trees_at es) next ∙ trees_join es (take i ns) (n ∷ [])

    pub adding_more : {x : Measure} → MeasureOf (tree_at es n) x → {b : Over} → Addable b (a.count + 1) → AddsOne a x b → Adding a₀ es ns b (i + 1)
    adding_more m {b} r p =
        let z : a.count + 1 ≡ a₀.count + (i + 1) = omega (arith, g.room.count) in
        record {
          within = omega arith;
          room = rw z at r;
          adds = rw next_tree (adds_both g.adds (p.adds (tree_at es n) m));
        }

  pub adding_all : length ns ≤ i → Addable a (a₀.count + length ns) × Adds a₀ (trees_at es ns) a
  adding_all l =
      let z : i ≡ length ns = omega (arith, g.within) in
      (rw (← z) g.room, rw (take_all i ns l) at g.adds)

-- the same of a range of a node's children, up to child i
module _ {s : Store} {n from to : ℕ} (g : Range s n from to) where
  abbrev ns : List ℕ
  ns = slice from to (entry_at (entries s) n).children

  long : length ns ≡ to - from
  long = length-slice from to (entry_at (entries s) n).children g.within

  pub range_none : {a : Over} → RoomFor a (to - from) → Adding a (entries s) ns a (from - from)
  range_none r = let z : from - from ≡ 0 = omega arith in rw z (adding_none r)

  module _ {a₀ a : Over} {i : ℕ} (p : Adding a₀ (entries s) ns a (i - from)) where
    pub range_room : RoomFor a₀ (to - from) → from ≤ i → i < to → {x : Measure} → Summable x → RoomFor a 1 × Summable x
    range_room r f l q = adding_room p (rw long r) (omega (arith, long)) q

    pub range_more : from ≤ i → i < to → {c : ℕ} → c ≡ get_or (entry_at (entries s) n).children i 0 → {x : Measure} → MeasureOf (tree_at (entries s) c) x
        → {b : Over} → Addable b (a.count + 1) → AddsOne a x b → Adding a₀ (entries s) ns b (i + 1 - from)
    range_more f l e m r q =
        let cs = (entry_at (entries s) n).children in
        let z : from + (i - from) ≡ i = omega arith in
        let y : i + 1 - from ≡ i - from + 1 = omega arith in
        rw y (adding_more p (omega (arith, long)) (e ∙ sym (slice_at cs from to (i - from) 0 (omega arith) ∙ ap (λ k. get_or cs k 0) z)) m r q)

    pub range_all : to ≤ i → Addable a (a₀.count + (to - from)) × Adds a₀ (trees_at (entries s) ns) a
    range_all l = rw long at (adding_all p (omega (arith, long)))

-- over_children: all are added to a childless node
pub over_all : {k : ℕ} {a r : Over} {f : Forest} → OverOf k nil a → Adds a f r → OverOf k f r
unfolding join
over_all {k} o p = p.adds k nil o
