-- The tokens of a tree at an offset. Assumes nothing.
use Prim.Native.Nat.{ℕ, ◌+◌, ◌≤◌, ◌<◌}
use native.Mathlib.Omega.{arith}
use native.Mathlib.Nat.{eq-or-lt_of_le}
use mathlib.Core.Path.{◌≡◌, refl, sym}
use mathlib.Core.Logic.{⊎_elim, inl, inr, ◌⊎◌}
use mathlib.Core.List.{List, [], ◌∷◌, ◌++◌}
use mathlib.Core.Bool.{Bool, true, false, ◌&&◌}
use lib.Dec.{leb, ltb}
use borrow.Author.Tests.{lt-ltb, le-leb, ltb-true, leb-true}
use Rattle.definitions.specs.Prelude.{filter}
use Rattle.definitions.specs.Tree.{Tree, token, node, Forest, nil, cons, is_node, children_of, text_len, text_lens}
use Rattle.definitions.specs.Element.{Element, end}
use Rattle.definitions.specs.Cursor.{tokens_in, tokens_of}
use Rattle.definitions.proofs.Laws.{false≢true, filter_append}

-- document 01's test of a token
abbrev pub is_at : ℕ → Element → Bool
is_at x e = ltb e.start (end e) && (leb e.start x && leb x (end e))

is_at_lem : (x : ℕ) (e : Element) → e.start < end e → e.start ≤ x → x ≤ end e → is_at x e ≡ true
is_at_lem x e s l h = rw (lt-ltb _ _ s, le-leb _ _ l, le-leb _ _ h)

not_at : (x : ℕ) (e : Element) → (e.start < end e → e.start ≤ x → x ≤ end e → ⊥) → is_at x e ≡ false
not_at x e m = go (ltb e.start (end e)) (leb e.start x) (leb x (end e)) refl refl refl
  where
    go : (a b c : Bool) → ltb e.start (end e) ≡ a → leb e.start x ≡ b → leb x (end e) ≡ c → (a && (b && c)) ≡ false
    go true true true p q r = absurd (m (ltb-true _ _ p) (leb-true _ _ q) (leb-true _ _ r))
    go true true false p q r = refl
    go true false c p q r = refl
    go false b c p q r = refl

mutual
  unfolding tokens_in tokens_of filter text_len text_lens

  -- where x misses a tree, no token of it is at x
  pub tree_none : (t : Tree) (x o : ℕ) (p : List ℕ) → (o < o + text_len t → o ≤ x → x ≤ o + text_len t → ⊥) → filter (is_at x) (tokens_in t p o) ≡ []
  tree_none (token k b) x o p m = rw (not_at x (record { path = p; start = o; tree = token k b }) m)
  tree_none (node k f) x o p m = forest_none f x o p 0 m

  forest_none : (f : Forest) (x o : ℕ) (p : List ℕ) (i : ℕ) → (o < o + text_lens f → o ≤ x → x ≤ o + text_lens f → ⊥) → filter (is_at x) (tokens_of f p i o) ≡ []
  forest_none nil x o p i m = refl
  forest_none (cons t f) x o p i m =
      rw (
        filter_append (is_at x) (tokens_in t (p ++ (i ∷ [])) o) (tokens_of f p (i + 1) (o + text_len t)),
        tree_none t x o (p ++ (i ∷ [])) (λ s l h. m (omega arith) l (omega arith)),
        forest_none f x (o + text_len t) p (i + 1) (λ s l h. m (omega arith) (omega arith) (omega arith)),
      )

-- exactly one element
abbrev pub One : List Element → Type 0
One es = (e : Element) × (es ≡ e ∷ [])

one_in : {a b : List Element} → (One a × (b ≡ [])) ⊎ ((a ≡ []) × One b) → One (a ++ b)
one_in {a} {b} o = ⊎_elim (λ l. (l.0.0, rw (l.0.1, l.1))) (λ r. (r.1.0, rw (r.0, r.1.1))) o

-- a token that holds x is the one at x
pub token_here : (t : Tree) → is_node t ≡ false → (x o : ℕ) (p : List ℕ) → 0 < text_len t → o ≤ x → x ≤ o + text_len t
    → filter (is_at x) (tokens_in t p o) ≡ record { path = p; start = o; tree = t } ∷ []
unfolding is_node tokens_in filter text_len
token_here (token k b) e x o p s l h = rw (is_at_lem x (record { path = p; start = o; tree = token k b }) (omega arith) l h)
token_here (node k f) e x o p s l h = absurd (false≢true (sym e))

mutual
  unfolding is_node tokens_in tokens_of filter text_len text_lens

  -- at the end of what is not empty there is one token
  pub tree_last : (t : Tree) (x o : ℕ) (p : List ℕ) → 0 < text_len t → x ≡ o + text_len t → One (filter (is_at x) (tokens_in t p o))
  tree_last (token k b) x o p s e = (record { path = p; start = o; tree = token k b }, token_here (token k b) refl x o p s (omega arith) (omega arith))
  tree_last (node k f) x o p s e = forest_last f x o p 0 s e

  forest_last : (f : Forest) (x o : ℕ) (p : List ℕ) (i : ℕ) → 0 < text_lens f → x ≡ o + text_lens f → One (filter (is_at x) (tokens_of f p i o))
  forest_last nil x o p i s e = absurd (omega arith)
  forest_last (cons t f) x o p i s e =
      rw (filter_append (is_at x) (tokens_in t (p ++ (i ∷ [])) o) (tokens_of f p (i + 1) (o + text_len t)))
      (one_in (⊎_elim
      (λ z. inl (tree_last t x o (p ++ (i ∷ [])) (omega arith) (omega arith), forest_none f x (o + text_len t) p (i + 1) (λ a b c. omega arith)))
      (λ z. inr (tree_none t x o (p ++ (i ∷ [])) (λ a b c. omega arith), forest_last f x (o + text_len t) p (i + 1) z (omega arith)))
      (eq-or-lt_of_le {n = 0} {m = text_lens f} (omega arith))))

mutual
  unfolding is_node tokens_in tokens_of filter text_len text_lens

  -- and at its start
  pub tree_first : (t : Tree) (x o : ℕ) (p : List ℕ) → 0 < text_len t → x ≡ o → One (filter (is_at x) (tokens_in t p o))
  tree_first (token k b) x o p s e = (record { path = p; start = o; tree = token k b }, token_here (token k b) refl x o p s (omega arith) (omega arith))
  tree_first (node k f) x o p s e = forest_first f x o p 0 s e

  forest_first : (f : Forest) (x o : ℕ) (p : List ℕ) (i : ℕ) → 0 < text_lens f → x ≡ o → One (filter (is_at x) (tokens_of f p i o))
  forest_first nil x o p i s e = absurd (omega arith)
  forest_first (cons t f) x o p i s e =
      rw (filter_append (is_at x) (tokens_in t (p ++ (i ∷ [])) o) (tokens_of f p (i + 1) (o + text_len t)))
      (one_in (⊎_elim
      (λ z. inr (tree_none t x o (p ++ (i ∷ [])) (λ a b c. omega arith), forest_first f x (o + text_len t) p (i + 1) (omega arith) (omega arith)))
      (λ z. inl (tree_first t x o (p ++ (i ∷ [])) z e, forest_none f x (o + text_len t) p (i + 1) (λ a b c. omega arith)))
      (eq-or-lt_of_le {n = 0} {m = text_len t} (omega arith))))

pub node_tokens : (t : Tree) → is_node t ≡ true → (p : List ℕ) (o : ℕ) → tokens_in t p o ≡ tokens_of (children_of t) p 0 o
unfolding is_node tokens_in children_of
node_tokens (token k b) e p o = absurd (false≢true e)
node_tokens (node k f) e p o = refl
