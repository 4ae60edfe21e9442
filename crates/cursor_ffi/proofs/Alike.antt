-- The exported questions answer alike at two trees that are spelled alike, in one store or in two: outcome, words and paths are equal. `questions_alike`
-- says it of every question of one element, `tokens_alike` of the tokens at an offset, `texts_alike` of a token's text. They are cited nowhere, being what a
-- caller may rely on. Assumes nothing.
use Prim.Native.Nat.{ℕ, ◌+◌, ◌-◌, ◌≤◌}
use native.Mathlib.Omega.{arith}
use mathlib.Core.Path.{◌≡◌, refl, sym, ap, ◌∙◌}
use mathlib.Core.List.{List, [], ◌∷◌}
use mathlib.Core.Bool.{Bool, true, false, cond, ◌&&◌, not}
use mathlib.Core.Option.{Option, none, some}
use lib.Dec.{eqb, ltb}
use lib.ListN.{length, get_or, take, drop}
use lib.Seq.{sets}
use Rattle.definitions.specs.Prelude.{Result}
use Rattle.definitions.specs.Tree.{Tree, is_node, text, text_len}
use Rattle.definitions.specs.Entry.{Entry, tree_at}
use Rattle.definitions.specs.Refusal.{is_no_node}
use Rattle.definitions.specs.Query as query
use Rattle.green.specs.Layout.{first_of}
use Rattle.cursor.proofs.Named.{absent_token}
use Rattle.cursor.specs.Path.{named}
use Rattle.cursor.specs.Answers.{Tells, answer_at_path}
use Rattle.cursor_range.specs.Answers.{TellsTokens}
use Rattle.query.specs.declared.reply.Reply.TheVariants as reply
use Rattle.query.specs.Replies.{of_answer, of_tokens}
use Rattle.query.proofs.Exact.{reply_to, path_after, other_after, Exactly, exactly}
use Rattle.abi.specs.Outcomes.{chunk_outcome, SameOutput, answer_told, tokens_told, reply_told}
use Rattle.abi.proofs.Telling.{same_output}
use Rattle.cursor_ffi.specs.Exports.{QuestionExported, TokensExported, named_token, TextLies, TokenText}
use Rattle.std.specs.Prelude.{Ok, Err, Some, None, Option as Optional}
use Rattle.utility_types.specs.Numbers.{OrRefusal}
use Rattle.utility_types.specs.declared.SyntaxElement.{SyntaxElement}
use Rattle.utility_types.specs.declared.TokenAtOffset.{TokenAtOffset}

-- an answer as the dispatcher gives it
answer_told_lem : (r : OrRefusal (Optional SyntaxElement)) → answer_told r ≡ reply_told (of_answer r)
answer_told_lem (Ok (Some e)) = refl
answer_told_lem (Ok None) = refl
answer_told_lem (Err x) = refl

answer_exactly : (l l' : List ℕ) {a : Result query.Answer} (r : OrRefusal (Optional SyntaxElement)) → length l' ≡ 64 → Tells l l' a r → Exactly l l' l' l' a (of_answer r)
answer_exactly l l' (Ok (Some e)) h t = exactly 0 h h (Ok (reply.Element e)) t.says (t.kept, refl)
answer_exactly l l' (Ok None) h t = exactly 0 h h (Ok reply.None) t.says (t.kept, refl)
answer_exactly l l' (Err x) h t = exactly 0 h h (Err x) t.says (t.kept, refl)

tokens_told_lem : (r : OrRefusal TokenAtOffset) → tokens_told r ≡ reply_told (of_tokens r)
tokens_told_lem (Ok t) = refl
tokens_told_lem (Err x) = refl

tokens_exactly : (l l' m m' : List ℕ) {a : Result query.Answer} (r : OrRefusal TokenAtOffset) → length l' ≡ 64 → length m' ≡ 64 → TellsTokens l l' m m' a r → Exactly l m l' m' a (of_tokens r)
tokens_exactly l l' m m' (Ok t) h k e = exactly 0 h k (Ok (reply.Tokens t)) e.says e.kept
tokens_exactly l l' m m' (Err x) h k e = exactly 0 h k (Err x) e.says e.kept

-- two calls of equal answers: outcome, words and paths are equal
module _ {a a' : Result query.Answer} (e : a ≡ a') {l l₁ l₂ m m₁ m₂ : List ℕ} {x₁ x₂ : ℕ} (h : length l₁ ≡ 64) (k : length l₂ ≡ 64) where
  pub same_question : QuestionExported a l l₁ m m₁ x₁ → QuestionExported a' l l₂ m m₂ x₂ → SameOutput m₁ m₂ x₁ x₂ × (l₁ ≡ l₂)
  same_question t u =
      let v = answer_exactly l l₁ t.answer h t.tells in
      let w = answer_exactly l l₂ u.answer k u.tells in (
        same_output (answer_told_lem t.answer ∙ ap reply_told (v.reply ∙ ap reply_to e ∙ sym w.reply) ∙ sym (answer_told_lem u.answer)) t.written u.written,
        v.path ∙ ap (λ y. path_after y l) e ∙ sym w.path,
      )

  pub same_tokens : {r r₁ r₂ : List ℕ} → length r₁ ≡ 64 → length r₂ ≡ 64 → TokensExported a l l₁ r r₁ m m₁ x₁ → TokensExported a' l l₂ r r₂ m m₂ x₂
      → SameOutput m₁ m₂ x₁ x₂ × (l₁ ≡ l₂) × (r₁ ≡ r₂)
  same_tokens {r} {r₁} {r₂} f g t u =
      let v = tokens_exactly l l₁ r r₁ t.tokens h f t.tells in
      let w = tokens_exactly l l₂ r r₂ u.tokens k g u.tells in (
        same_output (tokens_told_lem t.tokens ∙ ap reply_told (v.reply ∙ ap reply_to e ∙ sym w.reply) ∙ sym (tokens_told_lem u.tokens)) t.written u.written,
        v.path ∙ ap (λ y. path_after y l) e ∙ sym w.path,
        v.other ∙ ap (λ y. other_after y r) e ∙ sym w.other,
      )

-- the bytes of the lent text b that an outcome x and its words m name: those of a chunk
abbrev pub bytes_told : List ℕ → ℕ → List ℕ → List ℕ
bytes_told b x m = cond (eqb x chunk_outcome) (take (get_or m 1 0 - get_or m 0 0) (drop (get_or m 0 0) b)) []

words_name : (b m : List ℕ) (f k : ℕ) → 2 ≤ length m → bytes_told b chunk_outcome (sets m 0 (f ∷ (f + k) ∷ [])) ≡ take k (drop f b)
words_name b [] f k h = absurd (let z : ⊥ = omega (arith, h) in z)
words_name b (x ∷ []) f k h = absurd (let z : ⊥ = omega (arith, h) in z)
words_name b (x ∷ y ∷ m) f k h = let z : f + k - f ≡ k = omega arith in rw z refl

pub text_told : {es : List Entry} {b : List ℕ} {root : ℕ} {p : List ℕ} {t : Tree} {m m' : List ℕ} {x : ℕ} → 2 ≤ length m → TextLies es b root p t m m' x → bytes_told b x m' ≡ text t
text_told {es} {b} {t = t} {m} h w = rw (w.written.outcome, w.written.words) (words_name b m (first_of es w.number) (text_len t) h ∙ w.bytes)

-- whether a root is a node hangs on its tree: what is absent counts as a token
no_node_by_tree : (es : List Entry) (n : ℕ) → is_no_node es n ≡ not (is_node (tree_at es n))
unfolding is_no_node
no_node_by_tree es n = go (ltb n (length es)) refl
  where
    go : (b : Bool) → ltb n (length es) ≡ b → not (ltb n (length es) && is_node (tree_at es n)) ≡ not (is_node (tree_at es n))
    go true h = rw h refl
    go false h = rw (h, absent_token es n h) refl

-- A STORE'S ENTRIES es AND es', AND A ROOT OF EACH, whose trees are equal
module _ (es es' : List Entry) (n n' : ℕ) (e : tree_at es n ≡ tree_at es' n') (depth : ℕ) (l : List ℕ) where
  both_nodes : is_no_node es n ≡ is_no_node es' n'
  both_nodes = no_node_by_tree es n ∙ ap (λ t. not (is_node t)) e ∙ sym (no_node_by_tree es' n')

  one_answer : (q : query.Question) → answer_at_path es n depth l q ≡ answer_at_path es' n' depth l q
  unfolding answer_at_path query.answer_at
  one_answer q = rw (both_nodes, e) refl

  one_token : named_token es n depth l ≡ named_token es' n' depth l
  unfolding named_token named
  one_token = rw (both_nodes, e) refl

  module _ {l₁ l₂ m m₁ m₂ : List ℕ} {x₁ x₂ : ℕ} (h : length l₁ ≡ 64) (k : length l₂ ≡ 64) where
    pub questions_alike : (q : query.Question) → QuestionExported (answer_at_path es n depth l q) l l₁ m m₁ x₁ → QuestionExported (answer_at_path es' n' depth l q) l l₂ m m₂ x₂
        → SameOutput m₁ m₂ x₁ x₂ × (l₁ ≡ l₂)
    questions_alike q a b = same_question (one_answer q) h k a b

    pub tokens_alike : (x : ℕ) {r r₁ r₂ : List ℕ} → length r₁ ≡ 64 → length r₂ ≡ 64
        → TokensExported (answer_at_path es n depth l (query.Question.token_at_offset x)) l l₁ r r₁ m m₁ x₁ → TokensExported (answer_at_path es' n' depth l (query.Question.token_at_offset x)) l l₂ r r₂ m m₂ x₂
        → SameOutput m₁ m₂ x₁ x₂ × (l₁ ≡ l₂) × (r₁ ≡ r₂)
    tokens_alike x f g a b = same_tokens (one_answer (query.Question.token_at_offset x)) h k f g a b

  -- the bytes are equal; where they lie, each store and root has its own place
  pub texts_alike : {b b' m m₁ m₂ : List ℕ} {x₁ x₂ : ℕ} → 2 ≤ length m → TokenText es b n (take depth l) (named_token es n depth l) m m₁ x₁
      → TokenText es' b' n' (take depth l) (named_token es' n' depth l) m m₂ x₂ → (x₁ ≡ x₂) × (bytes_told b x₁ m₁ ≡ bytes_told b' x₂ m₂)
  texts_alike {b} {b'} {m} {m₁} {m₂} {x₁} {x₂} h t u = go (named_token es n depth l) refl
    where
      go : (o : Option Tree) → named_token es n depth l ≡ o → (x₁ ≡ x₂) × (bytes_told b x₁ m₁ ≡ bytes_told b' x₂ m₂)
      go (some v) z =
          let c = t.token v z in
          let d = u.token v (sym one_token ∙ z) in
          (c.written.outcome ∙ sym d.written.outcome, text_told h c ∙ sym (text_told h d))
      go none z =
          let c = t.no_token z in
          let d = u.no_token (sym one_token ∙ z) in
          (c.outcome ∙ sym d.outcome, rw (c.outcome, d.outcome) refl)
