-- Among what events made, a sharable node is told by the numbers of its children. Assumes nothing.
use Prim.Native.Nat.{ℕ, ◌+◌, ◌<◌}
use native.Mathlib.Omega.{arith}
use mathlib.Core.Path.{◌≡◌, refl, sym, ap, ap₂, ◌∙◌}
use mathlib.Core.List.{List, [], ◌∷◌}
use mathlib.Core.Bool.{Bool, true, false, cond, not}
use lib.ListN.{length, get_or}
use lib.Dec.{eqb, leb}
use Rattle.definitions.specs.Prelude.{all}
use Rattle.definitions.specs.Tree.{Tree, token, node, Forest, kind, is_node, children_of, same_numbers}
use Rattle.definitions.specs.Hash.{hash, hashes, sharable, sharable_over, node_hash}
use Rattle.definitions.specs.Entry.{Entry, entry_at, tree_at, trees_at}
use Rattle.definitions.specs.NodeCache.{matches}
use Rattle.definitions.proofs.Laws.{false≢true, and_left, and_right, and_both, same_numbers_refl, same_numbers_eq, same_refl, same_eq}
use Rattle.definitions.proofs.Sharing.{event_there}
use Rattle.definitions.proofs.Comparing.{is_false, unequal_lengths, Compared, compared_start, compared_differ, compared_next}
use Rattle.green.specs.Layout.{tag, own_count}
use Rattle.green.specs.Store.{Store, entries}
use Rattle.green.specs.Valid.{AllEvents, Shared, Known}
use Rattle.node_cache.specs.Search.{NodeSought}

bool_ext : (a b : Bool) → (a ≡ true → b ≡ true) → (b ≡ true → a ≡ true) → a ≡ b
bool_ext true b f g = sym (f refl)
bool_ext false true f g = g refl
bool_ext false false f g = refl

-- a hash that is not 0 is a sharable element's
hash_sharable : (t : Tree) → not (eqb (hash t) 0) ≡ true → sharable t ≡ true
unfolding hash sharable node_hash
hash_sharable (token k b) h = refl
hash_sharable (node k f) h = go (sharable_over (hashes f)) refl
  where
    go : (b : Bool) → sharable_over (hashes f) ≡ b → sharable_over (hashes f) ≡ true
    go true e = e
    go false e = absurd (false≢true (rw e at h))

-- children that events made, none of hash 0, are the same numbers where they are spelled alike
numbers : (es : List Entry) → Shared es → (ns ms : List ℕ) → AllEvents es ns → AllEvents es ms
    → all (λ h. not (eqb h 0)) (hashes (trees_at es ns)) ≡ true → trees_at es ns ≡ trees_at es ms → ns ≡ ms
unfolding trees_at hashes all AllEvents
numbers es sh [] [] a b z e = refl
numbers es sh [] (m ∷ ms) a b z e = absurd (let y : ◌≡◌ {A = ℕ} 0 1 = cc in omega arith)
numbers es sh (n ∷ ns) [] a b z e = absurd (let y : ◌≡◌ {A = ℕ} 0 1 = cc in omega arith)
numbers es sh (n ∷ ns) (m ∷ ms) a b z e =
    let t : tree_at es n ≡ tree_at es m = cc in
    let r : trees_at es ns ≡ trees_at es ms = cc in
    let h = hash_sharable (tree_at es n) (and_left _ _ z) in
    ap₂ ◌∷◌ (sh.distinct n m (event_there es n a.0) (event_there es m b.0) a.0 b.0 h t)
    (numbers es sh ns ms a.1 b.1 (and_right (not (eqb (hash (tree_at es n)) 0)) _ z) r)

no_zero : (k : ℕ) (f : Forest) → sharable (node k f) ≡ true → all (λ h. not (eqb h 0)) (hashes f) ≡ true
unfolding sharable sharable_over
no_zero k f h = and_right (leb (length (hashes f)) 3) _ h

node_parts : (t : Tree) → is_node t ≡ true → t ≡ node (kind t) (children_of t)
unfolding is_node kind children_of
node_parts (token k b) h = absurd (false≢true h)
node_parts (node k f) h = refl

tag_one : (e : Entry) → tag e ≡ 1 → (e.event ≡ true) × (is_node e.tree ≡ true)
unfolding tag
tag_one e h = go (is_node e.tree) e.event h
  where
    go : (n b : Bool) → ◌≡◌ {A = ℕ} (cond n (cond b 1 2) 0) 1 → (b ≡ true) × (n ≡ true)
    go true true h = (refl, refl)
    go true false h = absurd (omega arith)
    go false b h = absurd (omega arith)

module _ (t : Tree) (e : Entry) (p : matches t e ≡ true) where
  made_event : e.event ≡ true
  unfolding matches
  made_event = and_left _ _ p

  made_tree : t ≡ e.tree
  unfolding matches
  made_tree = same_eq t e.tree (and_right e.event _ p)

made_alike : (t : Tree) (e : Entry) → e.event ≡ true → t ≡ e.tree → matches t e ≡ true
unfolding matches
made_alike t e p q = and_both _ _ p (rw q (same_refl e.tree))

node_tag : (k : ℕ) (f : Forest) (e : Entry) → e.event ≡ true → node k f ≡ e.tree → tag e ≡ 1
unfolding tag is_node
node_tag k f e p q = rw (p, ← q)

-- record i against the node that is looked for, test by test
module _ {s : Store} {i k h : ℕ} {ns : List ℕ} (known : Known s i) (q : NodeSought (entries s) k ns h) where
  abbrev es : List Entry
  es = entries s

  abbrev t : Tree
  t = node k (trees_at es ns)

  abbrev e : Entry
  e = entry_at es i

  pub other_hash : {x : ℕ} → x ≡ hash e.tree → (x ≡ h → ⊥) → false ≡ matches t e
  other_hash x n = is_false _ (λ p. n (x ∙ ap hash (sym (made_tree t e p)) ∙ sym q.hash))

  pub other_tag : {x : ℕ} → x ≡ tag e → (x ≡ 1 → ⊥) → false ≡ matches t e
  other_tag x n = is_false _ (λ p. n (x ∙ node_tag k (trees_at es ns) e (made_event t e p) (made_tree t e p)))

  pub other_kind : {x : ℕ} → x ≡ kind e.tree → (x ≡ k → ⊥) → false ≡ matches t e
  unfolding kind
  other_kind x n = is_false _ (λ p. n (x ∙ ap kind (sym (made_tree t e p))))

  module _ {x : ℕ} (a : x ≡ tag e) (one : x ≡ 1) where
    pub a_node : Known s i × (is_node e.tree ≡ true)
    a_node = (known, (tag_one e (sym a ∙ one)).1)

    made : e.event ≡ true
    made = (tag_one e (sym a ∙ one)).0

    module _ {y : ℕ} (b : y ≡ kind e.tree) (same : y ≡ k) where
      spelled : e.tree ≡ node k (trees_at es e.children)
      spelled = node_parts e.tree a_node.1 ∙ ap₂ node (sym b ∙ same) (known.valid.formed i known.within).over

      same_numbers_lem : matches t e ≡ true → ns ≡ e.children
      same_numbers_lem p =
          let u : node k (trees_at es ns) ≡ node k (trees_at es e.children) = made_tree t e p ∙ spelled in
          let f : trees_at es ns ≡ trees_at es e.children = cc in
          numbers es known.valid.shared ns e.children q.events (known.valid.shared.events i known.within made) (no_zero k (trees_at es ns) q.sharable) f

      pub by_children : {r : Bool} → r ≡ same_numbers ns e.children → r ≡ matches t e
      by_children c =
          c ∙ bool_ext (same_numbers ns e.children) (matches t e)
          (λ u. made_alike t e made (ap (λ l. node k (trees_at es l)) (same_numbers_eq ns e.children u) ∙ sym spelled))
          (λ p. rw (← same_numbers_lem p) (same_numbers_refl ns))

-- the children of a node against the numbers, child by child
module _ (e : Entry) (ns : List ℕ) where
  module _ (d : is_node e.tree ≡ true) {c : ℕ} (q : c ≡ own_count e) where
    own_count_lem : c ≡ length e.children
    unfolding own_count
    own_count_lem = q ∙ rw d

    pub other_count : (c ≡ length ns → ⊥) → false ≡ same_numbers ns e.children
    other_count h = unequal_lengths ns e.children (λ p. h (own_count_lem ∙ sym p))

    pub same_count : c ≡ length ns → Compared ns e.children 0
    same_count p = compared_start (sym p ∙ own_count_lem)

-- child k: its number m, and the other list's n
module _ {cs ns : List ℕ} {k : ℕ} (f : Compared ns cs k) (l : k < length ns) {m n : ℕ} (p : m ≡ get_or cs k 0) (q : n ≡ get_or ns k 0) where
  pub child_differs : (m ≡ n → ⊥) → false ≡ same_numbers ns cs
  child_differs h = compared_differ f l (λ e. h (p ∙ sym e ∙ sym q))

  pub child_same : m ≡ n → Compared ns cs (k + 1)
  child_same h = compared_next f l (sym q ∙ sym h ∙ p)
