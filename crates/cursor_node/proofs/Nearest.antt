-- The elements of a list that lie ahead in a direction, and the nearest of them. Assumes nothing.
use Prim.Native.Nat.{ℕ, zero, suc, ◌+◌, ◌-◌, ◌≤◌, ◌<◌}
use native.Mathlib.Omega.{arith}
use mathlib.Core.Path.{◌≡◌, refl, sym, ap, ◌∙◌}
use mathlib.Core.List.{List, [], ◌∷◌, ◌++◌, append-nil, head?, get_last?}
use mathlib.Core.Bool.{Bool, true, false, cond}
use mathlib.Core.Option.{none, some, none-ne-some}
use lib.ListN.{length, take, drop, get_elem?, drop_of_length-le}
use lib.Seq.{take_all}
use Rattle.definitions.specs.Prelude.{filter}
use Rattle.definitions.specs.Tree.{Tree, token, node, Forest, nil, cons, is_node, children_of, text_len, height, heights}
use Rattle.definitions.specs.Element.{Element, elements, children}
use Rattle.definitions.specs.Cursor.{offered}
use Rattle.utility_types.specs.declared.Direction.{Direction}
use Rattle.utility_types.specs.declared.Direction.TheVariants.{Next, Prev}
use Rattle.cursor_node.specs.Children.{ahead, nearest, nearest_index}

-- lists at an index
module _ {A : Type 0} where
  drop_some : (xs : List A) (i : ℕ) {x : A} → get_elem? xs i ≡ some x → drop i xs ≡ x ∷ drop (suc i) xs
  drop_some [] i {x} e = absurd (none-ne-some x e)
  drop_some (y ∷ ys) zero e = cc
  drop_some (y ∷ ys) (suc i) e = drop_some ys i e

  take_some : (xs : List A) (i : ℕ) {x : A} → get_elem? xs i ≡ some x → take (suc i) xs ≡ take i xs ++ (x ∷ [])
  take_some [] i {x} e = absurd (none-ne-some x e)
  take_some (y ∷ ys) zero e = cc
  take_some (y ∷ ys) (suc i) e = ap (λ l. y ∷ l) (take_some ys i e)

  pub head_drop : (xs : List A) (i : ℕ) → head? (drop i xs) ≡ get_elem? xs i
  head_drop [] zero = refl
  head_drop [] (suc i) = refl
  head_drop (x ∷ xs) zero = refl
  head_drop (x ∷ xs) (suc i) = head_drop xs i

  last_snoc : (xs : List A) (x : A) → get_last? (xs ++ (x ∷ [])) ≡ some x
  last_snoc [] x = refl
  last_snoc (y ∷ []) x = refl
  last_snoc (y ∷ z ∷ ys) x = last_snoc (z ∷ ys) x

  last_take : (xs : List A) (i : ℕ) → i < length xs → get_last? (take (suc i) xs) ≡ get_elem? xs i
  last_take [] i h = absurd (omega arith)
  last_take (x ∷ xs) zero h = refl
  last_take (x ∷ []) (suc i) h = absurd (omega arith)
  last_take (x ∷ y ∷ ys) (suc i) h = last_take (y ∷ ys) i (omega arith)

-- a token is passed over, and a node is offered
offered_token : (x : Element) (ys : List Element) → is_node x.tree ≡ false → offered false (x ∷ ys) ≡ offered false ys
unfolding offered filter
offered_token x ys t = rw t

offered_node : (x : Element) (ys : List Element) → is_node x.tree ≡ true → offered false (x ∷ ys) ≡ x ∷ offered false ys
unfolding offered filter
offered_node x ys t = rw t

offered_snoc : (ys : List Element) (x : Element) → offered false (ys ++ (x ∷ [])) ≡ offered false ys ++ offered false (x ∷ [])
unfolding offered filter
offered_snoc [] x = refl
offered_snoc (y ∷ ys) x = kept_or_not (is_node y.tree) (filter (λ e. is_node e.tree) ys) (filter (λ e. is_node e.tree) (x ∷ [])) (offered_snoc ys x)
  where
    kept_or_not : (b : Bool) {us : List Element} (vs ws : List Element) → us ≡ vs ++ ws → cond b (y ∷ us) us ≡ cond b (y ∷ vs) vs ++ ws
    kept_or_not true vs ws e = ap (λ l. y ∷ l) e
    kept_or_not false vs ws e = e

-- the nearest of k + 1 elements and the k beyond it
module _ (xs : List Element) {k i : ℕ} {x : Element} (h : k < length xs) (q : get_elem? xs i ≡ some x) where
  split_next : i ≡ length xs - suc k → ahead Next xs (suc k) ≡ x ∷ ahead Next xs k
  split_next e =
      let z : suc i ≡ length xs - k = omega arith in
      ap (λ j. drop j xs) (sym e) ∙ drop_some xs i q ∙ ap (λ j. x ∷ drop j xs) z

  split_prev : i ≡ suc k - 1 → ahead Prev xs (suc k) ≡ ahead Prev xs k ++ (x ∷ [])
  split_prev e = let z : i ≡ k = omega arith in take_some xs k (rw z at q)

  offered_prev : i ≡ suc k - 1 → offered false (ahead Prev xs (suc k)) ≡ offered false (ahead Prev xs k) ++ offered false (x ∷ [])
  offered_prev e = ap (offered false) (split_prev e) ∙ offered_snoc (take k xs) x

pub token_passed : (d : Direction) (xs : List Element) {k i : ℕ} {x : Element} → k < length xs → get_elem? xs i ≡ some x → i ≡ nearest_index d (length xs) (suc k)
    → is_node x.tree ≡ false → nearest d (offered false (ahead d xs (suc k))) ≡ nearest d (offered false (ahead d xs k))
unfolding offered filter
token_passed Next xs {k = k} {x = x} h q e t = ap (λ l. head? (offered false l)) (split_next xs h q e) ∙ ap head? (offered_token x (ahead Next xs k) t)
token_passed Prev xs {k = k} {x = x} h q e t =
    ap get_last? (offered_prev xs h q e ∙ ap (λ l. offered false (take k xs) ++ l) (offered_token x [] t) ∙ append-nil (offered false (take k xs)))

pub node_nearest : (d : Direction) (xs : List Element) {k i : ℕ} {x : Element} → k < length xs → get_elem? xs i ≡ some x → i ≡ nearest_index d (length xs) (suc k)
    → is_node x.tree ≡ true → nearest d (offered false (ahead d xs (suc k))) ≡ some x
unfolding offered filter
node_nearest Next xs {k = k} {x = x} h q e t = ap (λ l. head? (offered false l)) (split_next xs h q e) ∙ ap head? (offered_node x (ahead Next xs k) t)
node_nearest Prev xs {k = k} {x = x} h q e t =
    ap get_last? (offered_prev xs h q e ∙ ap (λ l. offered false (take k xs) ++ l) (offered_node x [] t)) ∙ last_snoc (offered false (take k xs)) x

pub nearest_at : (d : Direction) (xs : List Element) (k : ℕ) {i : ℕ} → 0 < k → k ≤ length xs → i ≡ nearest_index d (length xs) k → get_elem? xs i ≡ nearest d (ahead d xs k)
nearest_at Next xs k g h e = ap (get_elem? xs) e ∙ sym (head_drop xs (length xs - k))
nearest_at Prev xs zero g h e = absurd (omega arith)
nearest_at Prev xs (suc k) {i} g h e = let z : i ≡ k = omega arith in ap (get_elem? xs) z ∙ sym (last_take xs k (omega arith))

-- nothing ahead, or all
pub none_ahead : (d : Direction) (xs : List Element) → ahead d xs 0 ≡ []
none_ahead Next xs = let z : length xs ≤ length xs - 0 = omega arith in drop_of_length-le xs z
none_ahead Prev xs = refl

pub nearest_none : (d : Direction) → nearest d [] ≡ none
nearest_none Next = refl
nearest_none Prev = refl

pub all_ahead : (d : Direction) (xs : List Element) {n : ℕ} → n ≡ length xs → ahead d xs n ≡ xs
all_ahead Next xs {n} e = let z : length xs - n ≡ 0 = omega arith in ap (λ j. drop j xs) z
all_ahead Prev xs {n} e = take_all n xs (omega arith)

-- a node of height 1 has tokens only
token_height : (t : Tree) → height t ≡ 0 → is_node t ≡ false
unfolding height is_node
token_height (token k b) h = refl
token_height (node k f) h = absurd (omega arith)

no_node_in : (p : List ℕ) (i o : ℕ) (f : Forest) → heights f ≡ 0 → offered false (elements p i o f) ≡ []
unfolding offered filter elements heights
no_node_in p i o nil h = refl
no_node_in p i o (cons t f) h = rw (token_height t (omega arith)) (no_node_in p (i + 1) (o + text_len t) f (omega arith))

pub no_node_child : (e : Element) → height e.tree ≡ 1 → offered false (children e) ≡ []
unfolding children children_of height
no_node_child e h = go e.tree h
  where
    go : (t : Tree) → height t ≡ 1 → offered false (elements e.path 0 e.start (children_of t)) ≡ []
    go (token k b) h = absurd (omega arith)
    go (node k f) h = no_node_in e.path 0 e.start f (omega arith)

rest_none : (b : Bool) (x : Element) (ys : List Element) → cond b (x ∷ ys) ys ≡ [] → (b ≡ false) × (ys ≡ [])
rest_none true x ys e = absurd (let z = ap length e in omega arith)
rest_none false x ys e = (refl, e)

none_dropped : (k : ℕ) (xs : List Element) → offered false xs ≡ [] → offered false (drop k xs) ≡ []
unfolding offered filter
none_dropped zero xs e = e
none_dropped (suc k) [] e = refl
none_dropped (suc k) (x ∷ xs) e = none_dropped k xs (rest_none (is_node x.tree) x (filter (λ y. is_node y.tree) xs) e).1

none_taken : (k : ℕ) (xs : List Element) → offered false xs ≡ [] → offered false (take k xs) ≡ []
unfolding offered filter
none_taken zero xs e = refl
none_taken (suc k) [] e = refl
none_taken (suc k) (x ∷ xs) e = let z = rest_none (is_node x.tree) x (filter (λ y. is_node y.tree) xs) e in rw z.0 (none_taken k xs z.1)

pub no_node_ahead : (d : Direction) (xs : List Element) (k : ℕ) → offered false xs ≡ [] → offered false (ahead d xs k) ≡ []
no_node_ahead Next xs k e = none_dropped (length xs - k) xs e
no_node_ahead Prev xs k e = none_taken k xs e
