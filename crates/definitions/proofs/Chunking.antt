-- Where a text lies within its node, its chunks joined are its bytes, and the steps give them in order. Assumes nothing.
use Prim.Native.Nat.{ℕ, zero, suc, ◌+◌, max, min, ◌≤◌, ◌<◌}
use native.Mathlib.Omega.{arith}
use mathlib.Core.Path.{◌≡◌, refl, sym, ap, ap₂, ◌∙◌}
use mathlib.Core.List.{List, [], ◌∷◌, ◌++◌, map, flatten, append_assoc, append-nil}
use mathlib.Core.Bool.{Bool, true, false, cond, not}
use mathlib.Core.Option.{Option, none, some, none-ne-some}
use lib.Dec.{ltb}
use lib.ListN.{length, drop, get_elem?, replicate}
use borrow.Author.Tests.{ltb-true, ltb-false, leb-false}
use Rattle.definitions.specs.Prelude.{ok, option, filter}
use Rattle.definitions.specs.Tree.{Tree, Forest, token, node, nil, cons, is_node, text, texts, text_len, text_lens}
use Rattle.definitions.specs.Refusal.{is_range_outside}
use Rattle.definitions.specs.Element.{Element, end, root, along, element_at}
use Rattle.definitions.specs.Cursor.{tokens_in, tokens_of, tokens}
use Rattle.definitions.specs.SyntaxText.{SyntaxText, is_nowhere, is_astray, checked, of_text, part, bytes, meets, chunk, chunks, Chunks, stepped, next_chunk, chunk_answers}
use Rattle.definitions.proofs.Laws.{false≢true, text_length, texts_length}
use Rattle.definitions.proofs.Lists.{none_there, some_there}
use Rattle.definitions.proofs.Limits.{or_false}
use Rattle.definitions.proofs.Parts.{Inside, along_inside, part_inside, part_split, part_none}

-- what two neighbours have of a..b is what both together have of it
module _ (o : ℕ) (l m : List ℕ) (a b : ℕ) where
  abbrev mid : ℕ
  mid = o + length l

  left : Inside o (l ++ m) o l
  left = record { before = []; after = m; parts = refl; start = omega arith }

  right : Inside o (l ++ m) mid m
  right = record { before = l; after = []; parts = ap (λ z. l ++ z) (sym (append-nil m)); start = refl }

  -- a range within one of them, or empty
  within : {p : ℕ} {n : List ℕ} → Inside o (l ++ m) p n → (x y : ℕ) → p ≤ x → y ≤ p + length n → part p n x y ≡ part o (l ++ m) x y
  within {p} {n} i x y h k = go (ltb y x) refl
    where
      go : (t : Bool) → ltb y x ≡ t → part p n x y ≡ part o (l ++ m) x y
      go true e = let z : y < x = ltb-true y x e in part_none p n x y (omega arith) ∙ sym (part_none o (l ++ m) x y (omega arith))
      go false e = sym (part_inside i x y h (ltb-false _ _ e) k)

  pub neighbours : part o l (max a o) (min b mid) ++ part mid m (max a mid) (min b (mid + length m)) ≡ part o (l ++ m) (max a o) (min b (mid + length m))
  neighbours = go (ltb mid b) (ltb a mid) refl refl
    where
      go : (s t : Bool) → ltb mid b ≡ s → ltb a mid ≡ t
          → part o l (max a o) (min b mid) ++ part mid m (max a mid) (min b (mid + length m)) ≡ part o (l ++ m) (max a o) (min b (mid + length m))
      go false t e f =
          let h : b ≤ mid = ltb-false mid b e in
          let u : min b mid ≡ min b (mid + length m) = omega arith in
          ap (λ z. part o l (max a o) (min b mid) ++ z) (part_none mid m (max a mid) (min b (mid + length m)) (omega arith))
          ∙ append-nil (part o l (max a o) (min b mid))
          ∙ within left (max a o) (min b mid) (omega arith) (omega arith) ∙ ap (λ z. part o (l ++ m) (max a o) z) u
      go true false e f =
          let h : mid ≤ a = ltb-false a mid f in
          let u : max a mid ≡ max a o = omega arith in
          ap (λ z. z ++ part mid m (max a mid) (min b (mid + length m))) (part_none o l (max a o) (min b mid) (omega arith))
          ∙ within right (max a mid) (min b (mid + length m)) (omega arith) (omega arith) ∙ ap (λ z. part o (l ++ m) z (min b (mid + length m))) u
      go true true e f =
          let g : mid < b = ltb-true mid b e in
          let h : a < mid = ltb-true a mid f in
          let u : min b mid ≡ mid = omega arith in
          let v : max a mid ≡ mid = omega arith in
          rw (u, v) (ap₂ (λ y z. y ++ z) (within left (max a o) mid (omega arith) (omega arith)) (within right mid (min b (mid + length m)) (omega arith) (omega arith))
          ∙ sym (part_split o (l ++ m) (max a o) mid (min b (mid + length m)) (omega arith) (omega arith) (omega arith)))

module _ {A : Type 0} (f : A → List ℕ) where
  flatten_append : (l m : List A) → flatten (map f (l ++ m)) ≡ flatten (map f l) ++ flatten (map f m)
  unfolding flatten
  flatten_append [] m = refl
  flatten_append (x ∷ l) m = ap (λ z. f x ++ z) (flatten_append l m) ∙ sym (append_assoc (f x) (flatten (map f l)) (flatten (map f m)))

  -- what is filtered out has no byte
  flatten_filter : (q : A → Bool) → ((x : A) → q x ≡ false → f x ≡ []) → (l : List A) → flatten (map f (filter q l)) ≡ flatten (map f l)
  unfolding flatten filter
  flatten_filter q h [] = refl
  flatten_filter q h (x ∷ l) = go (flatten_filter q h l) (q x) refl
    where
      go : flatten (map f (filter q l)) ≡ flatten (map f l) → (t : Bool) → q x ≡ t → flatten (map f (cond t (x ∷ filter q l) (filter q l))) ≡ f x ++ flatten (map f l)
      go r true e = ap (λ z. f x ++ z) r
      go r false e = r ∙ ap (λ z. z ++ flatten (map f l)) (sym (h x e))

module _ (x : SyntaxText) where
  apart : (e : Element) → meets x e ≡ false → chunk x e ≡ []
  unfolding meets chunk
  apart e h = let z : min x.stop (end e) < max x.start e.start = leb-false (max x.start e.start) (min x.stop (end e)) h in part_none e.start (text e.tree) (max x.start e.start) (min x.stop (end e)) (omega arith)

  -- the tokens of an element have of a text what the element has of it
  mutual
    unfolding tokens_in tokens_of text texts text_len text_lens flatten chunk

    joined_in : (t : Tree) (p : List ℕ) (o : ℕ) → flatten (map (chunk x) (tokens_in t p o)) ≡ part o (text t) (max x.start o) (min x.stop (o + text_len t))
    joined_in (token k b) p o = append-nil (part o b (max x.start o) (min x.stop (o + length b)))
    joined_in (node k f) p o = joined_of f p 0 o

    joined_of : (f : Forest) (p : List ℕ) (i o : ℕ) → flatten (map (chunk x) (tokens_of f p i o)) ≡ part o (texts f) (max x.start o) (min x.stop (o + text_lens f))
    joined_of nil p i o = sym (part_none o [] (max x.start o) (min x.stop (o + 0)) (omega arith))
    joined_of (cons t f) p i o =
        let a : o + text_len t + text_lens f ≡ o + (text_len t + text_lens f) = omega arith in
        flatten_append (chunk x) (tokens_in t (p ++ (i ∷ [])) o) (tokens_of f p (i + 1) (o + text_len t))
        ∙ ap₂ (λ y z. y ++ z) (joined_in t (p ++ (i ∷ [])) o) (joined_of f p (i + 1) (o + text_len t))
        ∙ rw (← a, ← text_length t, ← texts_length f) (neighbours o (text t) (texts f) x.start x.stop)

-- the chunks of a text that fits
module _ (t : Tree) (x : SyntaxText) (n : is_nowhere t x ≡ false) (r : is_astray t x ≡ false) where
  chunks_of : {e : Element} → element_at t x.node ≡ some e → flatten (chunks t x) ≡ part e.start (text e.tree) (max x.start e.start) (min x.stop (end e))
  unfolding chunks option tokens
  chunks_of {e} h = rw h (flatten_filter (chunk x) (meets x) (apart x) (tokens_in e.tree e.path e.start) ∙ joined_in x e.tree e.path e.start)

  range_of : {e : Element} → element_at t x.node ≡ some e → is_range_outside e.start (end e) x.start x.stop ≡ false
  unfolding is_astray option
  range_of h = rw h at r

  within_of : {e : Element} → element_at t x.node ≡ some e → (e.start ≤ x.start) × (x.start ≤ x.stop) × (x.stop ≤ end e)
  unfolding is_range_outside
  within_of {e} h =
      let z = or_false (ltb x.stop x.start) _ (range_of h) in
      let y = or_false (ltb x.start e.start) _ z.1 in
      (ltb-false _ _ y.0, ltb-false _ _ z.0, ltb-false _ _ y.1)

  inside_of : {e : Element} → element_at t x.node ≡ some e → Inside 0 (text t) e.start (text e.tree)
  unfolding element_at
  inside_of {e} h = go (is_node t) h
    where
      go : (b : Bool) → cond b (along x.node (root t)) none ≡ some e → Inside 0 (text t) e.start (text e.tree)
      go true h = along_inside x.node (root t) h
      go false h = absurd (none-ne-some _ h)

  -- JOINED, they are its bytes
  pub chunks_joined : flatten (chunks t x) ≡ bytes t x
  unfolding is_nowhere option bytes
  chunks_joined = go (element_at t x.node) refl n
    where
      go : (o : Option Element) → element_at t x.node ≡ o → not (option false (λ e. is_node e.tree) o) ≡ false → flatten (chunks t x) ≡ part 0 (text t) x.start x.stop
      go none h z = absurd (false≢true (sym z))
      go (some e) h z =
          let w = within_of h in
          let a : max x.start e.start ≡ x.start = let w0 : e.start ≤ x.start = w.0 in omega arith in
          let b : min x.stop (end e) ≡ x.stop = let w2 : x.stop ≤ end e = w.2 in omega arith in
          chunks_of h ∙ rw (a, b) (sym (part_inside (inside_of h) x.start x.stop w.0 w.1 (rw (text_length e.tree) w.2)))

  -- a step, after k chunks
  abbrev given : ℕ → Chunks
  given k = record { text = x; given = k }

  step : (k : ℕ) → next_chunk t (given k) ≡ stepped (given k) (ok (get_elem? (chunks t x) k))
  unfolding next_chunk of_text checked
  step k = rw (n, r) refl

  pub steps_end : (k m : ℕ) → get_elem? (chunks t x) k ≡ none → chunk_answers t (given k) m ≡ replicate m (ok none)
  unfolding chunk_answers stepped
  steps_end k zero h = refl
  steps_end k (suc m) h = rw (step k, h) (ap (λ z. ok none ∷ z) (steps_end k m h))

  -- THE STEPS from a new state give them one after the other, and then say ended
  steps_from : (cs : List (List ℕ)) (k m : ℕ) → drop k (chunks t x) ≡ cs → chunk_answers t (given k) (length cs + m) ≡ map (λ b. ok (some b)) cs ++ replicate m (ok none)
  unfolding chunk_answers stepped
  steps_from [] k m h = let a : 0 + m ≡ m = omega arith in rw a (steps_end k m (none_there (chunks t x) k h))
  steps_from (c ∷ cs) k m h =
      let a : length (c ∷ cs) + m ≡ suc (length cs + m) = omega arith in
      rw (a, step k, (some_there (chunks t x) k h).0) (ap (λ z. ok (some c) ∷ z) (steps_from cs (suc k) m (some_there (chunks t x) k h).1))

  pub steps_give_chunks : (m : ℕ) → chunk_answers t (given 0) (length (chunks t x) + m) ≡ map (λ b. ok (some b)) (chunks t x) ++ replicate m (ok none)
  steps_give_chunks m = steps_from (chunks t x) 0 m refl
