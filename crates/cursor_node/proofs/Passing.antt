-- A node's children passed over in a direction until one is offered. Assumes nothing.
use Prim.Native.Nat.{ℕ, suc, ◌-◌, ◌≤◌, ◌<◌}
use native.Mathlib.Omega.{arith}
use mathlib.Core.Path.{◌≡◌, refl, sym, ap, ◌∙◌}
use mathlib.Core.List.{List, head?}
use mathlib.Core.Bool.{Bool, true, false}
use lib.ListN.{length, take, drop, get_elem?}
use Rattle.definitions.specs.Prelude.{filter}
use Rattle.definitions.specs.Tree.{is_node, height}
use Rattle.definitions.specs.Entry.{tree_at}
use Rattle.definitions.specs.Element.{Element, children}
use Rattle.definitions.specs.Cursor.{offered}
use Rattle.definitions.specs.Query.{maybe}
use Rattle.green.specs.Store.{Store, entries}
use Rattle.utility_types.specs.declared.Direction.{Direction}
use Rattle.utility_types.specs.declared.Direction.TheVariants.{Next}
use Rattle.cursor.specs.declared.position.Cursor.{Cursor}
use Rattle.cursor.specs.Position.{at, Inner, child_count, ChildAt}
use Rattle.cursor.specs.Answers.{Tells}
use Rattle.cursor.proofs.Positions.{children_count}
use Rattle.cursor.proofs.Telling.{none_told, told_as}
use Rattle.cursor_node.specs.Children.{ahead, nearest, nearest_index, PassesTo, FirstFrom}
use Rattle.cursor_node.proofs.Nearest.{head_drop, token_passed, node_nearest, nearest_at, none_ahead, nearest_none, no_node_child, no_node_ahead}
use Rattle.std.specs.Prelude.{Ok, None, Option as Optional}
use Rattle.utility_types.specs.Numbers.{OrRefusal}
use Rattle.utility_types.specs.declared.SyntaxElement.{SyntaxElement}

-- of `left` children those before the last k are tokens
pub record Passed (s : Store) (c : Cursor) (d : Direction) (left k : ℕ) : Type 0 where
  pub within : k ≤ left
  pub same : (p : List ℕ) → nearest d (offered false (ahead d (children (at (entries s) p c)) left)) ≡ nearest d (offered false (ahead d (children (at (entries s) p c)) k))

pub none_passed : {s : Store} {c : Cursor} {d : Direction} {left : ℕ} → Passed s c d left left
none_passed = record { within = omega arith; same = λ p. refl }

-- with tokens the nearest one is offered
pub all_offered : {s : Store} {c : Cursor} {d : Direction} {tokens : Bool} {left : ℕ} → tokens ≡ true → PassesTo s c d tokens left left
unfolding offered
all_offered t = record { nearest = λ p. rw t refl }

-- among tokens only there is no node
pub only_tokens : {s : Store} {c : Cursor} {d : Direction} {tokens : Bool} {left n : ℕ} → tokens ≡ false → n ≡ height (tree_at (entries s) c.number) → n ≡ 1 → PassesTo s c d tokens left 0
only_tokens {s} {c} {d} {left = left} f e h = record {
  nearest = λ p.
      let xs = children (at (entries s) p c) in
      rw f (ap (nearest d) (no_node_ahead d xs left (no_node_child (at (entries s) p c) (sym e ∙ h)) ∙ sym (none_ahead d xs)));
}

module _ {s : Store} {c : Cursor} {d : Direction} {left k : ℕ} (m : Passed s c d left k) where
  module _ (n : Inner s c) (w : left ≤ child_count (entries s) c) (pos : 0 < k) {t i : ℕ} (et : t ≡ child_count (entries s) c) (ei : i ≡ nearest_index d t k) {r : Cursor} (a : ChildAt s c i r) where
    abbrev xs : List ℕ → List Element
    xs p = children (at (entries s) p c)

    one_more : k ≡ suc (k - 1)
    one_more = omega arith

    -- the child that is looked at is the nearest of those that are left
    is_nearest : (p : List ℕ) → i ≡ nearest_index d (length (xs p)) k
    is_nearest p = ei ∙ ap (λ v. nearest_index d v k) (et ∙ sym (children_count n p))

    is_nearest_of : (p : List ℕ) → i ≡ nearest_index d (length (xs p)) (suc (k - 1))
    is_nearest_of p = is_nearest p ∙ ap (nearest_index d (length (xs p))) one_more

    fewer : (p : List ℕ) → k - 1 < length (xs p)
    fewer p = omega (arith, children_count n p, m.within)

    on_to : (p : List ℕ) → nearest d (offered false (ahead d (xs p) left)) ≡ nearest d (offered false (ahead d (xs p) (suc (k - 1))))
    on_to p = m.same p ∙ ap (λ v. nearest d (offered false (ahead d (xs p) v))) one_more

    pub pass_token : is_node (tree_at (entries s) r.number) ≡ false → Passed s c d left (k - 1)
    pass_token z = record {
      within = omega (arith, m.within);
      same = λ p. on_to p ∙ token_passed d (xs p) (fewer p) (a.here p) (is_nearest_of p) z;
    }

    pub stop_node : {tokens : Bool} → tokens ≡ false → is_node (tree_at (entries s) r.number) ≡ true → PassesTo s c d tokens left k
    stop_node f z = record {
      nearest = λ p. rw f (on_to p ∙ node_nearest d (xs p) (fewer p) (a.here p) (is_nearest_of p) z ∙ sym (a.here p)
          ∙ nearest_at d (xs p) k pos (omega (arith, fewer p)) (is_nearest p));
    }

  pub stop_none : {tokens : Bool} → tokens ≡ false → k ≡ 0 → PassesTo s c d tokens left k
  unfolding offered filter
  stop_none f e = record { nearest = λ p. rw f (m.same p ∙ rw (e, none_ahead d (children (at (entries s) p c))) refl) }

-- next_child_from
pub first_of_all : {s : Store} {c : Cursor} → Inner s c → (from : ℕ) {tokens : Bool} → tokens ≡ true → FirstFrom (entries s) c tokens from from
unfolding offered
first_of_all {s} {c} i from t p = rw t (head_drop (children (at (entries s) p c)) from)

pub first_from : {s : Store} {c : Cursor} → Inner s c → {n from k : ℕ} (tokens : Bool) → n ≡ child_count (entries s) c → from ≤ n
    → PassesTo s c Next tokens (n - from) k × (k ≤ n - from) → FirstFrom (entries s) c tokens from (n - k)
first_from {s} {c} i {n} {from} {k} tokens e h g p =
    let xs = children (at (entries s) p c) in
    let z : from ≡ length xs - (n - from) = omega (arith, children_count i p) in
    let w : length xs - k ≡ n - k = omega (arith, children_count i p) in
    ap (λ j. head? (offered tokens (drop j xs))) z ∙ g.0.nearest p ∙ head_drop xs (length xs - k) ∙ ap (get_elem? xs) w

-- nearest_child
module _ {s : Store} {c : Cursor} {d : Direction} {tokens : Bool} {left k : ℕ} (l : List ℕ) (g : PassesTo s c d tokens left k) where
  abbrev kids : List Element
  kids = children (at (entries s) (take c.depth l) c)

  pub no_nearest : k ≡ 0 → Tells l l (maybe (nearest d (offered tokens (ahead d kids left)))) (Ok None)
  no_nearest e = none_told (g.nearest (take c.depth l) ∙ ap (λ v. nearest d (ahead d kids v)) e ∙ ap (nearest d) (none_ahead d kids) ∙ nearest_none d)

  pub nearest_told : Inner s c → (k ≡ 0 → ⊥) → k ≤ child_count (entries s) c → {n i : ℕ} → n ≡ child_count (entries s) c → i ≡ nearest_index d n k → {l' : List ℕ} {r : OrRefusal (Optional SyntaxElement)}
      → Tells l l' (maybe (get_elem? kids i)) r → Tells l l' (maybe (nearest d (offered tokens (ahead d kids left)))) r
  nearest_told n z h en ei t =
      let q = children_count n (take c.depth l) in
      let w : 0 < k = omega arith in
      let v : k ≤ length kids = omega arith in
      told_as t (ap maybe (nearest_at d kids k w v (ei ∙ ap (λ v. nearest_index d v k) (en ∙ sym q)) ∙ sym (g.nearest (take c.depth l))))
