-- What the two functions of the cycle find, return by return. Assumes nothing.
use Prim.Native.Nat.{ℕ, ◌+◌, ◌≤◌, ◌<◌}
use native.Mathlib.Omega.{arith}
use mathlib.Core.Path.{◌≡◌, refl, sym, ◌∙◌}
use mathlib.Core.List.{List, [], ◌∷◌, ◌++◌, append-nil}
use mathlib.Core.Bool.{false}
use lib.ListN.{length, set}
use lib.Seq.{slice_empty}
use Rattle.definitions.specs.Tree.{is_node, text_len}
use Rattle.definitions.specs.Entry.{Entry, tree_at}
use Rattle.definitions.specs.Element.{Element}
use Rattle.definitions.specs.Cursor.{tokens, token_at_offset}
use Rattle.definitions.proofs.TokensAt.{token_here, tree_none, One}
use Rattle.green.specs.Store.{Store, entries}
use Rattle.cursor.specs.declared.position.Cursor.{Cursor}
use Rattle.cursor.specs.Position.{Inner, ChildAt}
use Rattle.cursor_range.specs.declared.tokens.Touching.{Touching}
use Rattle.cursor_range.specs.declared.tokens.Touching.TheVariants.{NoChild, Child, Children}
use Rattle.cursor_range.specs.declared.tokens.Hits.{Hits}
use Rattle.cursor_range.specs.declared.tokens.Hits.TheVariants.{Nothing, Single, Between}
use Rattle.cursor_range.specs.Offset.{InClosedRange, ChildInRange, OnlyChildInRange, ChildrenMeeting, Touched, Finds, TokensFound, ChildTokensFound, left_put, right_put, both_of}
use Rattle.cursor.proofs.Reaching.{reached_here, reached_put, path_put}
use Rattle.cursor_range.proofs.Starts.{child_end}
use Rattle.cursor_range.proofs.TokensAt.{one_child, two_children, left_one, right_one}

-- what is found below a child is found below its node, once the child's index is put before
child_put : {s : Store} {d : ℕ} (k : ℕ) {tokens : List ℕ → List Element} {l l' r r' : List ℕ} (h : Hits) → 64 ≤ length l' → 64 ≤ length r'
    → Finds s (d + 1) tokens l l' r r' h → Finds s d (λ p. tokens (p ++ (k ∷ []))) l (left_put h d k l') r (right_put h d k r') h
child_put k Nothing a b f = record { found = λ p. f.found (p ++ (k ∷ [])); written = f.written }
child_put {d = d} k (Single x) a b f =
    let w = f.written.0 in
    record { found = λ p. rw (path_put d k w a p) (f.found (p ++ (k ∷ []))); written = (reached_put d k w a, f.written.1) }
child_put {d = d} k (Between x y) a b f =
    let w = f.written.0 in
    let z = f.written.1 in
    record { found = λ p. rw (path_put d k w a p, path_put d k z b p) (f.found (p ++ (k ∷ []))); written = (reached_put d k w a, reached_put d k z b) }

pub child_found : (x : ℕ) {s : Store} {c r : Cursor} {k : ℕ} → ChildAt s c k r → {l l' l'' q q' q'' : List ℕ} {h : Hits} → 64 ≤ length l' → 64 ≤ length q'
    → TokensFound s r x l l' q q' h → l'' ≡ left_put h c.depth k l' → q'' ≡ right_put h c.depth k q' → ChildTokensFound s c k x l l'' q q'' h
child_found x {k = k} a {h = h} m n f u v = rw (u, v, ← a.start, ← a.number) (child_put k h m n (rw a.depth at f))

module _ {l : List Element} (o : One l) where
  not_none : [] ≡ l → ⊥
  not_none e = let z : ◌≡◌ {A = List Element} [] (o.0 ∷ []) = e ∙ o.1 in let y : ◌≡◌ {A = ℕ} 0 1 = cc in omega arith

  not_two : {a b : Element} → a ∷ b ∷ [] ≡ l → ⊥
  not_two {a} {b} e = let z : a ∷ b ∷ [] ≡ o.0 ∷ [] = e ∙ o.1 in let y : ◌≡◌ {A = ℕ} 0 1 = cc in omega arith

-- the one token of each of two children, the second found with the lent places exchanged
both_found : {s : Store} {d : ℕ} {before after : List ℕ → List Element} {l l' l'' r r' r'' : List ℕ} (g h : Hits)
    → Finds s d before l l' r r' g → Finds s d after r' r'' l' l'' h → ((p : List ℕ) → One (before p)) → ((p : List ℕ) → One (after p))
    → Finds s d (λ p. before p ++ after p) l l'' r r'' (both_of g h)
both_found Nothing h f e a b = absurd (not_none (a []) (f.found []))
both_found (Between x y) h f e a b = absurd (not_two (a []) (f.found []))
both_found (Single x) Nothing f e a b = absurd (not_none (b []) (e.found []))
both_found (Single x) (Between y z) f e a b = absurd (not_two (b []) (e.found []))
both_found (Single x) (Single y) f e a b = record {
  found = λ p. rw (← f.found p, ← e.found p, e.written.1);
  written = (rw e.written.1 f.written.0, rw f.written.1 at e.written.0);
}

-- an element of a node
module _ {s : Store} {c r : Cursor} {x k : ℕ} (i : Inner s c) (h : ChildInRange (entries s) c x k) (a : ChildAt s c k r) where
  pub child_holds : InClosedRange (entries s) r x
  child_holds = record { low = omega (arith, a.start, h.low); high = omega (arith, child_end i a h.within, h.high) }

  pub token_found : {l q : List ℕ} → 64 ≤ length l → 64 ≤ length q → is_node (tree_at (entries s) r.number) ≡ false
      → ChildTokensFound s c k x l (set l c.depth k) q q (Single r)
  unfolding token_at_offset tokens
  token_found {l} u v e =
      let n : 0 < text_len (tree_at (entries s) r.number) = omega (arith, a.start, child_end i a h.within, h.some) in
      child_found x a u v
      (record {
        found = λ p.
            rw (slice_empty r.depth l, append-nil p) (sym (token_here (tree_at (entries s) r.number) e x r.start p n child_holds.low child_holds.high));
        written = (reached_here a.placed, refl);
      })
      refl
      refl

-- by which children of a node hold x
pub only_child_in_range : {es : List Entry} {c : Cursor} {x k : ℕ} {t : Touching} → t ≡ Child k → Touched es c x t → OnlyChildInRange es c x k
only_child_in_range e h = rw e at h

pub meeting : {es : List Entry} {c : Cursor} {x k m : ℕ} {t : Touching} → t ≡ Children k m → Touched es c x t → ChildrenMeeting es c x k m
meeting e h = rw e at h

pub none_found : {s : Store} (c : Cursor) (x : ℕ) {t : Touching} → t ≡ NoChild → Touched (entries s) c x t → {l r : List ℕ} → TokensFound s c x l l r r Nothing
unfolding token_at_offset tokens
none_found {s} c x e h =
    let z : text_len (tree_at (entries s) c.number) ≡ 0 = rw e at h in
    record { found = λ p. sym (tree_none (tree_at (entries s) c.number) x c.start p (λ a b d. omega arith)); written = (refl, refl) }

module _ {s : Store} {c : Cursor} (i : Inner s c) {x k : ℕ} {l l' r r' : List ℕ} where
  pub one_found : OnlyChildInRange (entries s) c x k → {h : Hits} → ChildTokensFound s c k x l l' r r' h → TokensFound s c x l l' r r' h
  one_found a f = record { found = λ p. f.found p ∙ sym (one_child i x p a); written = f.written }

  pub two_found : {m : ℕ} → ChildrenMeeting (entries s) c x k m → {l'' r'' : List ℕ} {g h j : Hits} → ChildTokensFound s c k x l l' r r' g → ChildTokensFound s c m x r' r'' l' l'' h → j ≡ both_of g h
      → TokensFound s c x l l'' r r'' j
  two_found {m} q {g = g} {h} f e o =
      let b = both_found g h f e (λ p. left_one i x p q) (λ p. right_one i x p q) in
      rw o (record { found = λ p. b.found p ∙ sym (two_children i x p q); written = b.written })
