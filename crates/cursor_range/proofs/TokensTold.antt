-- What `token_at_offset` answers with the two paths that were lent. Assumes nothing.
use Prim.Native.Nat.{ℕ, ◌+◌, ◌-◌, ◌≤◌}
use native.Mathlib.Omega.{arith}
use mathlib.Core.Path.{◌≡◌, refl, sym, ap, ◌∙◌}
use mathlib.Core.List.{List, [], ◌∷◌, ◌++◌, map}
use mathlib.Core.Bool.{Bool, true, false, cond, ◌||◌}
use lib.Dec.{ltb}
use lib.ListN.{length, take, drop}
use lib.Seq.{slice, length-take-le, take-add, take-append-add, drop-append-add, drop-drop, drop_at}
use borrow.Author.Tests.{ltb-false}
use Rattle.definitions.specs.Prelude.{Result, ok, refused}
use Rattle.definitions.specs.Tree.{text_len}
use Rattle.definitions.specs.Entry.{Entry, tree_at}
use Rattle.definitions.specs.Refusal.{is_outside}
use Rattle.definitions.specs.Element.{Element, shown}
use Rattle.definitions.specs.Cursor.{token_at_offset}
use Rattle.definitions.specs.Query as query
use Rattle.definitions.specs.Query.{Question, ask}
use Rattle.utility_types.specs.Elements.{shown_at}
use Rattle.utility_types.specs.declared.TokenAtOffset.{TokenAtOffset}
use Rattle.utility_types.specs.declared.Refusal.{Refusal}
use Rattle.utility_types.specs.declared.Refusal.TheVariants.{OutOfRange}
use Rattle.definitions.proofs.Laws.{false≢true}
use Rattle.green.specs.Store.{Store, entries}
use Rattle.cursor.specs.declared.position.Cursor.{Cursor}
use Rattle.cursor.specs.Position.{at, Reached}
use Rattle.cursor.specs.Path.{LeadsToNode}
use Rattle.cursor.specs.Answers.{answer_at_path}
use Rattle.cursor.proofs.Reaching.{path_joined}
use Rattle.cursor.proofs.AskingNodes.{of_node_token, no_node_4, no_node_asked, node_facts, node_asked}
use Rattle.cursor_range.specs.declared.tokens.Hits.{Hits}
use Rattle.cursor_range.specs.Offset.{InClosedRange, Finds, TokensFound}
use Rattle.cursor_range.specs.Answers.{Told, nothing, single, between, right_path, TellsTokens}
use Rattle.std.specs.Prelude.{Ok, Err}
use Rattle.utility_types.specs.Numbers.{OrRefusal}

-- the path to the right one of two tokens, once the one that was asked is copied before it
module _ {s : Store} {d : ℕ} {r r' : List ℕ} {b : Cursor} (w : Reached s d r r' b) (p : List ℕ) (e : length p ≡ d) (h : d ≤ length r') where
  rest : length p + (b.depth - d) ≡ b.depth
  rest = omega (arith, w.below)

  whole : d + (b.depth - d) ≡ b.depth
  whole = omega (arith, w.below)

  joined_right : take b.depth (p ++ drop d r') ≡ p ++ slice d b.depth r'
  joined_right =
      let n = b.depth - d in
      let t : slice d (d + n) r' ≡ take n (drop d r') = ap (drop d) (take-add d n r') ∙ drop_at (take d r') (take n (drop d r')) d (length-take-le d r' h) in
      let z = rw whole at t in
      (rw rest at (take-append-add p (drop d r') n)) ∙ ap (λ q. p ++ q) (sym z)

  kept_right : drop b.depth (p ++ drop d r') ≡ drop b.depth r
  kept_right =
      let n = b.depth - d in
      (rw rest at (drop-append-add p (drop d r') n)) ∙ (rw whole at (drop-drop n d r')) ∙ w.back

-- what is found is what the answer says
abbrev answers : List Element → Result query.Answer
answers es = ok (query.Answer.elements (map shown es))

found_told : {s : Store} {d : ℕ} {tokens : List ℕ → List Element} {l l' r r' r'' : List ℕ} {h : Hits} {t : TokenAtOffset} → d ≤ length l' → d ≤ length r'
    → Finds s d tokens l l' r r' h → Told (entries s) h t → r'' ≡ right_path h d l' r' → TellsTokens l l' r r'' (answers (tokens (take d l))) (Ok t)
found_told {d = d} {l = l} m n g nothing h = record { says = ap answers (g.found (take d l)); kept = (g.written.0, h ∙ g.written.1) }
found_told {s} {d} {l = l} {l'} m n g (single {a} u) h =
    let w = g.written.0 in
    record {
      says = ap (λ o. ok (query.Answer.elements (o ∷ []))) (u.0 l' ∙ ap (λ p. shown (at (entries s) p a)) (path_joined w)) ∙ ap answers (g.found (take d l));
      kept = ((omega (arith, u.1, w.placed.deep), rw u.1 w.back), h ∙ g.written.1);
    }
found_told {s} {d} {l = l} {l'} {r} {r'} {r''} m n g (between {a} {b} {f = f} u v) h =
    let w = g.written.0 in
    let z = g.written.1 in
    let p = joined_right z (take d l') (length-take-le d l' m) n in
    let q : take b.depth r'' ≡ take d l ++ slice d b.depth r' = rw (h, ← w.front) p in
    record {
      says =
          ap (λ o. ok (query.Answer.elements (o ∷ shown_at r'' f ∷ []))) (u.0 l' ∙ ap (λ o. shown (at (entries s) o a)) (path_joined w))
          ∙ ap (λ o. ok (query.Answer.elements (shown (at (entries s) (take d l ++ slice d a.depth l') a) ∷ o ∷ []))) (v.0 r'' ∙ ap (λ o. shown (at (entries s) o b)) q)
          ∙ ap answers (g.found (take d l));
      kept = (
        (omega (arith, u.1, w.placed.deep), rw u.1 w.back),
        (omega (arith, v.1, z.placed.deep), rw (v.1, h) (kept_right z (take d l') (length-take-le d l' m) n)),
      );
    }

within : (from to x : ℕ) → is_outside from to x ≡ false → (from ≤ x) × (x ≤ to)
unfolding is_outside
within from to x e = go (ltb x from) (ltb to x) refl refl e
  where
    go : (a b : Bool) → ltb x from ≡ a → ltb to x ≡ b → (a || b) ≡ false → (from ≤ x) × (x ≤ to)
    go false false p q e = (ltb-false x from p, ltb-false to x q)
    go false true p q e = absurd (false≢true (sym e))
    go true b p q e = absurd (false≢true (sym e))

-- a lent path has room for the node's indexes
pub depth_fits : {s : Store} {root depth : ℕ} {l : List ℕ} {y : OrRefusal Cursor} (d : LeadsToNode s root depth l y) {c : Cursor} → y ≡ Ok c → {n : ℕ} → n ≡ 64 → depth ≤ n
depth_fits d h e = omega (arith, (node_facts d h).deep, (node_facts d h).inner.placed.deep)

module _ {s : Store} {root depth : ℕ} {l : List ℕ} {y : OrRefusal Cursor} (d : LeadsToNode s root depth l y) (x : ℕ) where
  abbrev es : List Entry
  es = entries s

  -- a refusal leaves both paths as they were
  pub no_node_told : {why : Refusal} → y ≡ Err why → {r : List ℕ} → TellsTokens l l r r (answer_at_path es root depth l (Question.token_at_offset x)) (Err why)
  unfolding ask
  no_node_told h = rw (no_node_4 d h) (record { says = sym (no_node_asked d h (Question.token_at_offset x) (λ e n t. of_node_token e t _)); kept = (refl, refl) })

  module _ {c : Cursor} (h : y ≡ Ok c) {n : ℕ} (e : n ≡ text_len (tree_at es c.number)) {b : Bool} (w : b ≡ is_outside c.start (c.start + n) x) where
    by_range : answer_at_path es root depth l (Question.token_at_offset x) ≡ cond b (refused 5) (answers (token_at_offset x (at es (take depth l) c)))
    unfolding ask
    by_range =
        node_asked d h (Question.token_at_offset x) refl
        ∙ ap (λ t. cond t (refused 5) (answers (token_at_offset x (at es (take depth l) c)))) (sym (w ∙ ap (λ m. is_outside c.start (c.start + m) x) e))

    pub outside_told : b ≡ true → {r : List ℕ} → TellsTokens l l r r (answer_at_path es root depth l (Question.token_at_offset x)) (Err OutOfRange)
    outside_told t = record { says = sym (by_range ∙ rw t refl); kept = (refl, refl) }

    pub offset_held : b ≡ false → InClosedRange es (c) x
    offset_held t =
        let z = within c.start (c.start + n) x (sym w ∙ t) in
        record { low = z.0; high = omega (arith, z.1, e) }

    pub tokens_told_lem : b ≡ false → {l' r r' r'' : List ℕ} {f : Hits} {t : TokenAtOffset} → length l' ≡ 64 → length r' ≡ 64
        → TokensFound s (c) x l l' r r' f → Told es f t → r'' ≡ right_path f depth l' r' → TellsTokens l l' r r'' (answer_at_path es root depth l (Question.token_at_offset x)) (Ok t)
    tokens_told_lem t m o f u v =
        rw (by_range, t) (found_told (depth_fits d h m) (depth_fits d h o) (rw (node_facts d h).deep at f) u v)
