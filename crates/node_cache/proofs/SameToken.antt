-- What the hash, the kind and the bytes of a record say of whether it is a given token. Assumes nothing.
use Prim.Native.Nat.{ℕ}
use mathlib.Core.Path.{◌≡◌, sym, ap, ◌∙◌}
use mathlib.Core.List.{List}
use mathlib.Core.Bool.{Bool, true, false}
use borrow.Author.Tests.{eq-eqb}
use Rattle.definitions.specs.Tree.{Tree, token, node, kind, is_node, text, same_numbers, same}
use Rattle.definitions.specs.Hash.{token_hash, hash}
use Rattle.definitions.specs.Entry.{Entry, entry_at}
use Rattle.definitions.specs.NodeCache.{matches}
use Rattle.definitions.proofs.Laws.{false≢true, and_right, same_eq}
use Rattle.definitions.proofs.Comparing.{is_false}
use Rattle.green.specs.Store.{Store, entries}
use Rattle.green.specs.Valid.{Known}

-- an entry that differs in anything from t does not match it
pub differs : {A : Type 0} (f : Tree → A) (t : Tree) (e : Entry) → (f e.tree ≡ f t → ⊥) → false ≡ matches t e
unfolding matches
differs f t e h = is_false _ (λ m. h (sym (ap f (same_eq t e.tree (and_right e.event _ m)))))

same_token : (k : ℕ) (b : List ℕ) (t : Tree) → is_node t ≡ false → kind t ≡ k → same (token k b) t ≡ same_numbers b (text t)
unfolding same is_node kind text
same_token k b (token k' b') h q = rw (eq-eqb k k' (sym q))
same_token k b (node k' f) h q = absurd (false≢true (sym h))

module _ {s : Store} {i : ℕ} (known : Known s i) (k : ℕ) (b : List ℕ) where
  abbrev e : Entry
  e = entry_at (entries s) i

  pub other_hash : {x h : ℕ} → x ≡ hash e.tree → h ≡ token_hash k b → (x ≡ h → ⊥) → false ≡ matches (token k b) e
  unfolding hash
  other_hash p q n = differs hash (token k b) e (λ m. n (p ∙ m ∙ sym q))

  pub a_node : {x : Bool} → x ≡ is_node e.tree → x ≡ true → false ≡ matches (token k b) e
  unfolding is_node
  a_node p q = differs is_node (token k b) e (λ m. false≢true (sym m ∙ sym p ∙ q))

  pub other_kind : {x : ℕ} → x ≡ kind e.tree → (x ≡ k → ⊥) → false ≡ matches (token k b) e
  unfolding kind
  other_kind p n = differs kind (token k b) e (λ m. n (p ∙ m))

  pub by_bytes : is_node e.tree ≡ false → {x : ℕ} → x ≡ kind e.tree → x ≡ k → {its : List ℕ} → its ≡ text e.tree
      → {r : Bool} → r ≡ same_numbers b its → r ≡ matches (token k b) e
  unfolding matches
  by_bytes h p q t a = rw ((known.valid.formed i known.within).token h, same_token k b e.tree h (sym p ∙ q), ← t) a
