-- LAWS of lines: a node's newlines are the sum over its children's, and the line of an offset and the start of a line fit each other. Assumes nothing.
use Prim.Native.Nat.{ℕ, zero, suc, ◌+◌, ◌-◌, ◌≤◌, ◌<◌}
use native.Mathlib.Omega.{arith}
use native.Mathlib.Decide.{dec_le}
use native.Mathlib.Numerals.{add-one}
use mathlib.Core.Path.{◌≡◌, refl, sym, ap, ◌∙◌}
use mathlib.Core.List.{List, [], ◌∷◌, ◌++◌}
use mathlib.Core.Bool.{Bool, true, false, cond}
use lib.ListN.{length, get_or, take}
use lib.Seq.{take-suc, take-length}
use lib.Dec.{eqb}
use borrow.Author.Tests.{ne_eqb, le-ltb, ltb-false}
use Rattle.definitions.specs.Prelude.{ok}
use Rattle.definitions.specs.Tree.{Tree, Forest, token, node, nil, cons, text, texts}
use Rattle.definitions.proofs.Laws.{false≢true}
use Rattle.definitions.proofs.Limits.{or_false, false_or}
use Rattle.definitions.proofs.Results.{ok_injective, test_passed, cond_ok}
use Rattle.definitions.specs.Lines.{newlines_in, newlines, newlines_of, line_at, after_newline, start_at, is_past_text, is_no_line, line_of, line_start}

pub newlines_append : (a b : List ℕ) → newlines_in (a ++ b) ≡ newlines_in a + newlines_in b
unfolding newlines_in
newlines_append [] b = omega arith
newlines_append (x ∷ a) b = omega (arith, newlines_append a b)

-- THE LAW of what records keep: a token counts its bytes, a node the sum over its children
pub token_newlines : (k : ℕ) (b : List ℕ) → newlines (token k b) ≡ newlines_in b
unfolding newlines text
token_newlines k b = refl

pub node_newlines : (k : ℕ) (f : Forest) → newlines (node k f) ≡ newlines_of f
unfolding newlines newlines_of text
node_newlines k f = refl

pub no_newlines : newlines_of nil ≡ 0
unfolding newlines_of texts newlines_in
no_newlines = refl

pub child_newlines : (t : Tree) (f : Forest) → newlines_of (cons t f) ≡ newlines t + newlines_of f
unfolding newlines_of newlines texts
child_newlines t f = newlines_append (text t) (texts f)

one_most : (c : Bool) → cond c 1 0 ≤ 1
one_most true = omega arith
one_most false = omega arith

-- no more newlines than bytes, so that the count fits where the length does
pub newlines_few : (b : List ℕ) → newlines_in b ≤ length b
unfolding newlines_in
newlines_few [] = omega arith
newlines_few (x ∷ b) = omega (arith, newlines_few b, one_most (eqb x 10))

-- some bytes counted one by one: after i of them
pub record Counted (b : List ℕ) (count n i : ℕ) : Type 0 where
  pub within : i ≤ count
  pub so_far : n ≡ newlines_in (take i b)
  pub few : n ≤ i

pub counted_none : {b : List ℕ} {count : ℕ} → Counted b count 0 0
unfolding newlines_in
counted_none = record { within = omega arith; so_far = refl; few = omega arith }

module _ {b : List ℕ} {count n i : ℕ} (fits : count ≤ length b) (g : Counted b count n i) where
  module _ (l : i < count) where
    one_more : newlines_in (take (i + 1) b) ≡ newlines_in (take i b) + cond (eqb (get_or b i 0) 10) 1 0
    unfolding newlines_in
    one_more = rw (add-one, take-suc b i 0 (omega arith)) (newlines_append (take i b) (get_or b i 0 ∷ []) ∙ omega arith)

    pub counted_more : {x : ℕ} → x ≡ cond (eqb (get_or b i 0) 10) 1 0 → x ≤ 1 → Counted b count (n + x) (i + 1)
    counted_more e h = record { within = omega arith; so_far = omega (arith, g.so_far, e, one_more); few = omega (arith, g.few) }

  pub counted_all : count ≤ i → (n ≡ newlines_in (take count b)) × (n ≤ count)
  counted_all h = let e : i ≡ count = omega (arith, g.within) in (rw e at g.so_far, omega (arith, g.few))

pub counted_whole : {b : List ℕ} {n i : ℕ} → Counted b (length b) n i → length b ≤ i → n ≡ newlines_in b
counted_whole {b} g h = (counted_all (omega arith) g h).0 ∙ ap newlines_in (take-length b)

-- what an offset and the newlines after it have to do with each other, newline by newline
pub record After (b : List ℕ) (j : ℕ) : Type 0 where
  pub within : after_newline b j ≤ length b
  pub some_bytes : 1 ≤ after_newline b j
  pub before : newlines_in (take (after_newline b j) b) ≡ suc j

-- a byte more in front
lines_cons : (x : ℕ) (b : List ℕ) (n : ℕ) → newlines_in (take (suc n) (x ∷ b)) ≡ cond (eqb x 10) 1 0 + newlines_in (take n b)
unfolding newlines_in
lines_cons x b n = refl

module _ (x : ℕ) (b : List ℕ) where
  pub first_newline : eqb x 10 ≡ true → after_newline (x ∷ b) zero ≡ suc zero
  unfolding after_newline
  first_newline e = rw e

  pub next_newline : eqb x 10 ≡ true → (j : ℕ) → after_newline (x ∷ b) (suc j) ≡ suc (after_newline b j)
  unfolding after_newline
  next_newline e j = rw e

  first_other : eqb x 10 ≡ false → after_newline (x ∷ b) zero ≡ suc (after_newline b zero)
  unfolding after_newline
  first_other e = rw e

  next_other : eqb x 10 ≡ false → (j : ℕ) → after_newline (x ∷ b) (suc j) ≡ suc (after_newline b (suc j))
  unfolding after_newline
  next_other e j = rw e

  pub other_byte : eqb x 10 ≡ false → (j : ℕ) → after_newline (x ∷ b) j ≡ suc (after_newline b j)
  other_byte e zero = first_other e
  other_byte e (suc j) = next_other e j

  after_first : eqb x 10 ≡ true → After (x ∷ b) zero
  unfolding newlines_in
  after_first e = record { within = rw (first_newline e) (omega arith); some_bytes = rw (first_newline e) (omega arith); before = rw (first_newline e) (lines_cons x b zero ∙ rw e) }

  after_next : eqb x 10 ≡ true → (j : ℕ) → After b j → After (x ∷ b) (suc j)
  after_next e j r = record {
    within = rw (next_newline e j) (omega (arith, r.within));
    some_bytes = rw (next_newline e j) (omega arith);
    before = rw (next_newline e j) (lines_cons x b (after_newline b j) ∙ rw e (omega (arith, r.before)));
  }

  after_other : eqb x 10 ≡ false → (j : ℕ) → after_newline (x ∷ b) j ≡ suc (after_newline b j) → After b j → After (x ∷ b) j
  after_other e j q r = record {
    within = rw q (omega (arith, r.within));
    some_bytes = rw q (omega arith);
    before = rw q (lines_cons x b (after_newline b j) ∙ rw e (omega (arith, r.before)));
  }

-- the newline j + 1 is there
pub after_newline_lem : (b : List ℕ) (j : ℕ) → j < newlines_in b → After b j
unfolding newlines_in
after_newline_lem [] j l = absurd (omega arith)
after_newline_lem (x ∷ b) zero l = go (eqb x 10) refl l (after_newline_lem b zero)
  where
    go : (c : Bool) → eqb x 10 ≡ c → 0 < cond c 1 0 + newlines_in b → (0 < newlines_in b → After b zero) → After (x ∷ b) zero
    go true e h r = after_first x b e
    go false e h r = after_other x b e zero (first_other x b e) (r (omega arith))
after_newline_lem (x ∷ b) (suc j) l = go (eqb x 10) refl l (after_newline_lem b j) (after_newline_lem b (suc j))
  where
    go : (c : Bool) → eqb x 10 ≡ c → suc j < cond c 1 0 + newlines_in b → (j < newlines_in b → After b j) → (suc j < newlines_in b → After b (suc j)) → After (x ∷ b) (suc j)
    go true e h r q = after_next x b e j (r (omega arith))
    go false e h r q = after_other x b e (suc j) (next_other x b e j) (q (omega arith))

-- the offset behind a newline, of bytes in two parts: it lies in the second part if the first has too few
pub after_past : (a b : List ℕ) (j : ℕ) → newlines_in a ≤ j → after_newline (a ++ b) j ≡ length a + after_newline b (j - newlines_in a)
unfolding newlines_in
after_past [] b j l = let e : j - 0 ≡ j = omega arith in rw e (omega arith)
after_past (x ∷ a) b zero l = go (eqb x 10) refl l (after_past a b zero)
  where
    go : (c : Bool) → eqb x 10 ≡ c → cond c 1 0 + newlines_in a ≤ 0 → (newlines_in a ≤ 0 → after_newline (a ++ b) zero ≡ length a + after_newline b (0 - newlines_in a))
        → after_newline (x ∷ (a ++ b)) zero ≡ suc (length a) + after_newline b (0 - (cond (eqb x 10) 1 0 + newlines_in a))
    go true e h r = absurd (omega arith)
    go false e h r =
        let q : 0 - (0 + newlines_in a) ≡ 0 - newlines_in a = omega arith in
        rw (e, q) (first_other x (a ++ b) e ∙ omega (arith, r (omega arith)))
after_past (x ∷ a) b (suc j) l = go (eqb x 10) refl l (after_past a b j) (after_past a b (suc j))
  where
    go : (c : Bool) → eqb x 10 ≡ c → cond c 1 0 + newlines_in a ≤ suc j → (newlines_in a ≤ j → after_newline (a ++ b) j ≡ length a + after_newline b (j - newlines_in a))
        → (newlines_in a ≤ suc j → after_newline (a ++ b) (suc j) ≡ length a + after_newline b (suc j - newlines_in a))
        → after_newline (x ∷ (a ++ b)) (suc j) ≡ suc (length a) + after_newline b (suc j - (cond (eqb x 10) 1 0 + newlines_in a))
    go true e h r q =
        let z : suc j - (1 + newlines_in a) ≡ j - newlines_in a = omega arith in
        rw (e, z) (next_newline x (a ++ b) e j ∙ omega (arith, r (omega arith)))
    go false e h r q =
        let z : suc j - (0 + newlines_in a) ≡ suc j - newlines_in a = omega arith in
        rw (e, z) (next_other x (a ++ b) e j ∙ omega (arith, q (omega arith)))

pub after_within : (a b : List ℕ) (j : ℕ) → j < newlines_in a → after_newline (a ++ b) j ≡ after_newline a j
unfolding newlines_in
after_within [] b j l = absurd (omega arith)
after_within (x ∷ a) b zero l = go (eqb x 10) refl l (after_within a b zero)
  where
    go : (c : Bool) → eqb x 10 ≡ c → 0 < cond c 1 0 + newlines_in a → (0 < newlines_in a → after_newline (a ++ b) zero ≡ after_newline a zero) → after_newline (x ∷ (a ++ b)) zero ≡ after_newline (x ∷ a) zero
    go true e h r = first_newline x (a ++ b) e ∙ sym (first_newline x a e)
    go false e h r = first_other x (a ++ b) e ∙ ap suc (r (omega arith)) ∙ sym (first_other x a e)
after_within (x ∷ a) b (suc j) l = go (eqb x 10) refl l (after_within a b j) (after_within a b (suc j))
  where
    go : (c : Bool) → eqb x 10 ≡ c → suc j < cond c 1 0 + newlines_in a → (j < newlines_in a → after_newline (a ++ b) j ≡ after_newline a j) → (suc j < newlines_in a → after_newline (a ++ b) (suc j) ≡ after_newline a (suc j))
        → after_newline (x ∷ (a ++ b)) (suc j) ≡ after_newline (x ∷ a) (suc j)
    go true e h r q = next_newline x (a ++ b) e j ∙ ap suc (r (omega arith)) ∙ sym (next_newline x a e j)
    go false e h r q = next_other x (a ++ b) e j ∙ ap suc (q (omega arith)) ∙ sym (next_other x a e j)

-- what comes before an offset: no newline more before an earlier one
take_fewer : (b : List ℕ) (x y : ℕ) → x ≤ y → newlines_in (take x b) ≤ newlines_in (take y b)
unfolding newlines_in
take_fewer [] zero y l = omega arith
take_fewer [] (suc x) zero l = omega arith
take_fewer [] (suc x) (suc y) l = omega arith
take_fewer (c ∷ b) zero y l = omega arith
take_fewer (c ∷ b) (suc x) zero l = absurd (omega arith)
take_fewer (c ∷ b) (suc x) (suc y) l = omega (arith, take_fewer b x y (omega arith))

-- an offset before the offset after newline j + 1 has at most j newlines before it
before_newline : (b : List ℕ) (j x : ℕ) → j < newlines_in b → x < after_newline b j → newlines_in (take x b) ≤ j
unfolding newlines_in
before_newline [] j x l h = absurd (omega arith)
before_newline (c ∷ b) j zero l h = omega arith
before_newline (c ∷ b) zero (suc x) l h = go (eqb c 10) refl l (before_newline b zero x)
  where
    go : (d : Bool) → eqb c 10 ≡ d → 0 < cond d 1 0 + newlines_in b → (0 < newlines_in b → x < after_newline b zero → newlines_in (take x b) ≤ 0) → cond (eqb c 10) 1 0 + newlines_in (take x b) ≤ 0
    go true e k r = absurd (omega (arith, first_newline c b e))
    go false e k r = rw e (omega (arith, r (omega arith) (omega (arith, first_other c b e))))
before_newline (c ∷ b) (suc j) (suc x) l h = go (eqb c 10) refl l (before_newline b j x) (before_newline b (suc j) x)
  where
    go : (d : Bool) → eqb c 10 ≡ d → suc j < cond d 1 0 + newlines_in b → (j < newlines_in b → x < after_newline b j → newlines_in (take x b) ≤ j)
        → (suc j < newlines_in b → x < after_newline b (suc j) → newlines_in (take x b) ≤ suc j) → cond (eqb c 10) 1 0 + newlines_in (take x b) ≤ suc j
    go true e k r q = rw e (omega (arith, r (omega arith) (omega (arith, next_newline c b e j))))
    go false e k r q = rw e (omega (arith, q (omega arith) (omega (arith, next_other c b e j))))

-- LAW: the line of a line's start is that line, and the start lies in the text
pub record StartFits (b : List ℕ) (k : ℕ) : Type 0 where
  pub within : start_at b k ≤ length b
  pub line : line_at b (start_at b k) ≡ k

pub line_of_start : (b : List ℕ) (k : ℕ) → 1 ≤ k → k ≤ 1 + newlines_in b → StartFits b k
unfolding start_at line_at
line_of_start b zero l m = absurd (omega arith)
line_of_start b (suc zero) l m = record { within = omega arith; line = unfold newlines_in in refl }
line_of_start b (suc (suc j)) l m =
    let r = after_newline_lem b j (omega arith) in
    record { within = r.within; line = omega (arith, r.before) }

-- LAW: an offset lies at or after its line's start, and before the next line's, if there is one
newlines_take : (b : List ℕ) (x : ℕ) → newlines_in (take x b) ≤ newlines_in b
unfolding newlines_in
newlines_take [] zero = omega arith
newlines_take [] (suc x) = omega arith
newlines_take (c ∷ b) zero = omega arith
newlines_take (c ∷ b) (suc x) = omega (arith, newlines_take b x)

pub start_before : (b : List ℕ) (x : ℕ) → start_at b (line_at b x) ≤ x
unfolding start_at line_at
start_before b x = go (newlines_in (take x b)) refl
  where
    go : (j : ℕ) → newlines_in (take x b) ≡ j → start_at b (suc j) ≤ x
    go zero e = omega arith
    go (suc j) e = at_most (dec_le (after_newline b j) x)
      where
        at_most : Dec (after_newline b j ≤ x) → after_newline b j ≤ x
        at_most (yes p) = p
        at_most (no p) = absurd (omega (arith, e, newlines_take b x, before_newline b j x (omega (arith, e, newlines_take b x)) (omega arith)))

pub next_after : (b : List ℕ) (x : ℕ) → line_at b x ≤ newlines_in b → x < start_at b (suc (line_at b x))
unfolding start_at line_at
next_after b x m = go (dec_le (after_newline b (newlines_in (take x b))) x)
  where
    go : Dec (after_newline b (newlines_in (take x b)) ≤ x) → x < after_newline b (newlines_in (take x b))
    go (yes p) =
        let r = after_newline_lem b (newlines_in (take x b)) (omega arith) in
        absurd (omega (arith, r.before, take_fewer b (after_newline b (newlines_in (take x b))) x p))
    go (no p) = omega arith

-- an offset that is accepted has a line that is accepted, and the other way round
pub line_accepted : (b : List ℕ) (x : ℕ) → (1 ≤ line_at b x) × (line_at b x ≤ 1 + newlines_in b)
unfolding line_at
line_accepted b x = (omega arith, omega (arith, newlines_take b x))

-- the two questions: an accepted line's start is accepted, and its line is that line; an accepted offset's line is accepted
within_text : (b : List ℕ) (x : ℕ) → x ≤ length b → is_past_text b x ≡ false
unfolding is_past_text
within_text b x l = le-ltb (length b) x l

some_line : (k : ℕ) → eqb k 0 ≡ false → 1 ≤ k
some_line zero e = absurd (false≢true (sym e))
some_line (suc k) e = omega arith

is_line : (b : List ℕ) (k : ℕ) → is_no_line b k ≡ false → (1 ≤ k) × (k ≤ 1 + newlines_in b)
unfolding is_no_line
is_line b k e = let p = or_false _ _ e in (some_line k p.0, ltb-false _ _ p.1)

no_zero : (k : ℕ) → 1 ≤ k → eqb k 0 ≡ false
no_zero k l = ne_eqb k 0 (λ e. omega (arith, e))

a_line : (b : List ℕ) (k : ℕ) → 1 ≤ k → k ≤ 1 + newlines_in b → is_no_line b k ≡ false
unfolding is_no_line
a_line b k l m = false_or _ _ (no_zero k l) (le-ltb (1 + newlines_in b) k m)

pub line_start_of : (t : Tree) (k x : ℕ) → line_start t k ≡ ok x → line_of t x ≡ ok k
unfolding line_start line_of
line_start_of t k x e =
    let p = is_line (text t) k (test_passed (is_no_line (text t) k) 5 (ok (start_at (text t) k)) x e) in
    let q : start_at (text t) k ≡ x = ok_injective (cond_ok (is_no_line (text t) k) 5 (ok (start_at (text t) k)) x e) in
    let f = line_of_start (text t) k p.0 p.1 in
    let l : line_at (text t) x ≡ k = ap (line_at (text t)) (sym q) ∙ f.line in
    let w : is_past_text (text t) x ≡ false = within_text (text t) x (omega (arith, q, f.within)) in
    rw (w, l) refl

pub line_has_start : (t : Tree) (x k : ℕ) → line_of t x ≡ ok k → (line_start t k ≡ ok (start_at (text t) k)) × (start_at (text t) k ≤ x)
unfolding line_start line_of
line_has_start t x k e =
    let q : line_at (text t) x ≡ k = ok_injective (cond_ok (is_past_text (text t) x) 5 (ok (line_at (text t) x)) k e) in
    let p = line_accepted (text t) x in
    let w : is_no_line (text t) k ≡ false = a_line (text t) k (omega (arith, q, p.0)) (omega (arith, q, p.1)) in
    (rw w refl, (rw q at (start_before (text t) x)))
