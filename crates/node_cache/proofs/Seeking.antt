-- Records passed over in a search, as their hash is another. Assumes nothing.
use Prim.Native.Nat.{ℕ, max, zero, suc, ◌+◌, ◌-◌, ◌≤◌, ◌<◌}
use native.Mathlib.Omega.{arith}
use native.Mathlib.Decide.{dec_lt}
use mathlib.Core.Path.{◌≡◌, refl, sym, ap, subst, ◌∙◌}
use mathlib.Core.List.{List}
use mathlib.Core.Bool.{false}
use lib.ListN.{length}
use Rattle.definitions.specs.Tree.{Tree, token}
use Rattle.definitions.specs.Hash.{hash, token_hash}
use Rattle.definitions.specs.Entry.{Entry, entry_at, tree_at}
use Rattle.definitions.proofs.Sharing.{Sought, sought_next}
use Rattle.node_cache.specs.Search.{NoneAlike, FirstAlike}
use Rattle.node_cache.proofs.SameToken.{differs}

-- next_alike
module _ {es : List Entry} {h from : ℕ} where
  pub none_passed : NoneAlike es h from from
  none_passed = record { after = omega arith; others = λ j a b. absurd (omega arith) }

  module _ {i : ℕ} (m : NoneAlike es h from i) (l : i < length es) {x : ℕ} (e : x ≡ hash (tree_at es i)) where
    pub other_passed : (x ≡ h → ⊥) → NoneAlike es h from (i + 1)
    other_passed n = record {
      after = omega (arith, m.after);
      others = λ j a b. go j a (dec_lt j i) b;
    }
      where
        go : (j : ℕ) → from ≤ j → Dec (j < i) → j < i + 1 → (j < length es) × (hash (tree_at es j) ≡ h → ⊥)
        go j a (yes z) b = m.others j a z
        go j a (no z) b = let q : j ≡ i = omega arith in (omega arith, λ w. n (e ∙ ap (λ k. hash (tree_at es k)) (sym q) ∙ w))

    pub stop_alike : x ≡ h → FirstAlike es h from i
    stop_alike q = record { none = m; alike = λ _. sym e ∙ q }

  pub stop_end : {i n : ℕ} → NoneAlike es h from i → n ≡ length es → n ≤ i → {r : ℕ} → r ≡ max from n → FirstAlike es h from r
  stop_end m e l q = record { none = record { after = omega (arith, q); others = λ j a b. m.others j a (omega (arith, q, m.after)) }; alike = λ b. absurd (omega (arith, e, q)) }

-- what is sought from `from` on is sought from there on
seek_over : {es : List Entry} {h : ℕ} {t : Tree} → h ≡ hash t → (n from : ℕ) → ((j : ℕ) → from ≤ j → j < from + n → (j < length es) × (hash (tree_at es j) ≡ h → ⊥))
    → Sought t es from → Sought t es (from + n)
seek_over {es} {h} {t} q zero from o f = let z : from ≡ from + 0 = omega arith in subst (Sought t es) z f
seek_over {es} {h} {t} q (suc n) from o f =
    let here = o from (omega arith) (omega arith) in
    let next = sought_next f here.0 false (differs hash t (entry_at es from) (λ w. here.1 (w ∙ sym q))) refl in
    let z : from + 1 + n ≡ from + suc n = omega arith in
    subst (Sought t es) z (seek_over q n (from + 1) (λ j a b. o j (omega arith) (omega arith)) next)

module _ {es : List Entry} {h from i : ℕ} (m : FirstAlike es h from i) where
  pub seek_on : {t : Tree} → h ≡ hash t → Sought t es from → Sought t es i
  seek_on {t} q f =
      let z : from + (i - from) ≡ i = omega (arith, m.none.after) in
      subst (Sought t es) z (seek_over q (i - from) from (λ j a b. m.none.others j a (omega arith)) f)

  pub seek_token : {k : ℕ} {b : List ℕ} → h ≡ token_hash k b → Sought (token k b) es from → Sought (token k b) es i
  unfolding hash
  seek_token q f = seek_on q f
