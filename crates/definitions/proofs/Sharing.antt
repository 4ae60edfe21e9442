-- The search for an element that an event made, and what is reused. Assumes nothing.
use Prim.Native.Nat.{◌≤◌, ℕ, zero, suc, ◌+◌, ◌<◌}
use native.Mathlib.Numerals.{add-one}
use native.Mathlib.Omega.{arith}
use native.Mathlib.Decide.{dec_lt}
use mathlib.Core.Path.{◌≡◌, refl, sym, ap, ◌∙◌}
use mathlib.Core.List.{List, [], ◌∷◌}
use mathlib.Core.Bool.{Bool, true, false, cond}
use mathlib.Core.Option.{Option, none, some}
use lib.Seq.{drop-cons}
use lib.ListN.{drop, drop_of_length-le, length, get_or-eq_default}
use Rattle.definitions.specs.Tree.{Tree}
use Rattle.definitions.specs.Hash.{sharable}
use Rattle.definitions.specs.Entry.{Entry, absent, entry_at, tree_at}
use Rattle.definitions.specs.NodeCache.{matches, find_from, reuse}
use Rattle.definitions.proofs.Laws.{false≢true, and_both, same_refl, and_left, and_right, same_eq}

-- no entry before i matches: what is left of the entries gives the answer
pub record Sought (t : Tree) (es : List Entry) (i : ℕ) : Type 0 where
  pub rest : find_from t (drop i es) i ≡ find_from t es 0

pub sought_start : {t : Tree} {es : List Entry} → Sought t es 0
sought_start = record { rest = refl }

module _ {t : Tree} {es : List Entry} {i : ℕ} (f : Sought t es i) where
  -- b: whether entry i matches
  module _ (l : i < length es) (b : Bool) (e : b ≡ matches t (entry_at es i)) where
    pub sought_hit : b ≡ true → some i ≡ find_from t es 0
    unfolding find_from
    sought_hit q = rw (← f.rest, drop-cons es i absent l, ← e, q)

    pub sought_next : b ≡ false → Sought t es (i + 1)
    unfolding find_from
    sought_next q = record { rest = sym (rw (add-one, drop-cons es i absent l, ← e, q)) ∙ f.rest }

  pub sought_end : length es ≤ i → none ≡ find_from t es 0
  unfolding find_from
  sought_end l = rw (← f.rest, drop_of_length-le es l)

cond_none : (b : Bool) (i : ℕ) (o : Option ℕ) → cond b (some i) o ≡ none → (b ≡ false) × (o ≡ none)
cond_none true i o e = absurd (let z : ◌≡◌ {A = ℕ} 0 1 = cc in omega arith)
cond_none false i o e = (refl, e)

-- where the search finds none, no entry matches
none_alike : (t : Tree) (es : List Entry) (i : ℕ) → find_from t es i ≡ none → (j : ℕ) → j < length es → matches t (entry_at es j) ≡ false
unfolding find_from
none_alike t [] i h j l = absurd (omega arith)
none_alike t (e ∷ es) i h zero l = (cond_none (matches t e) i _ h).0
none_alike t (e ∷ es) i h (suc j) l = none_alike t es (suc i) (cond_none (matches t e) i _ h).1 j (omega arith)

pub none_reused : (t : Tree) (es : List Entry) → reuse es t ≡ none → sharable t ≡ true → (j : ℕ) → j < length es → (entry_at es j).event ≡ true → t ≡ tree_at es j → ⊥
unfolding reuse matches
none_reused t es h q j l p e = false≢true (sym (none_alike t es 0 (rw q at h) j l) ∙ and_both _ _ p (rw e (same_refl (tree_at es j))))

-- what an event made is there
pub event_there : (es : List Entry) (n : ℕ) → (entry_at es n).event ≡ true → n < length es
event_there es n h = go (dec_lt n (length es))
  where
    go : Dec (n < length es) → n < length es
    go (yes p) = p
    go (no p) = absurd (false≢true (ap (λ x. x.event) (sym (get_or-eq_default es absent {n = n} (omega arith))) ∙ h))

-- what a search hits, it matches
found_matches : (t : Tree) (es : List Entry) (i n : ℕ) → find_from t es i ≡ some n → (j : ℕ) × (n ≡ i + j) × (matches t (entry_at es j) ≡ true)
unfolding find_from
found_matches t [] i n h = absurd (let z : ◌≡◌ {A = ℕ} 0 1 = cc in omega arith)
found_matches t (e ∷ es) i n h = go (matches t e) refl h (λ q. found_matches t es (suc i) n q)
  where
    go : (b : Bool) → matches t e ≡ b → cond b (some i) (find_from t es (suc i)) ≡ some n → (find_from t es (suc i) ≡ some n → (j : ℕ) × (n ≡ suc i + j) × (matches t (entry_at es j) ≡ true))
        → (j : ℕ) × (n ≡ i + j) × (matches t (entry_at (e ∷ es) j) ≡ true)
    go true p q rest = (0, (let z : i ≡ n = cc in omega arith), p)
    go false p q rest = let r = rest q in (suc r.0, omega (arith, r.1), r.2)

-- the record that is reused: an event made it of the tree, which is sharable
pub reused : (t : Tree) (es : List Entry) (n : ℕ) → reuse es t ≡ some n → ((entry_at es n).event ≡ true) × (tree_at es n ≡ t) × (sharable t ≡ true)
unfolding reuse matches
reused t es n h = go (sharable t) refl h
  where
    go : (b : Bool) → sharable t ≡ b → cond b (find_from t es 0) none ≡ some n → ((entry_at es n).event ≡ true) × (tree_at es n ≡ t) × (sharable t ≡ true)
    go true p q =
        let r = found_matches t es 0 n q in
        let z : n ≡ r.0 = omega (arith, r.1) in
        let m : matches t (entry_at es n) ≡ true = rw z r.2 in
        (and_left _ _ m, sym (same_eq t (tree_at es n) (and_right (entry_at es n).event _ m)), p)
    go false p q = absurd (let z : ◌≡◌ {A = ℕ} 0 1 = cc in omega arith)
