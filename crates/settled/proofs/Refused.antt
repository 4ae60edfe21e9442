-- THE SECOND THEOREM: a refused call changes nothing that it was lent. Assumes nothing.
use Prim.Native.Nat.{ℕ, zero, suc, ◌*◌, ◌≤◌, ◌<◌}
use native.Mathlib.Omega.{arith}
use mathlib.Core.Path.{◌≡◌, refl, sym, ap, subst, ◌∙◌}
use mathlib.Core.List.{List, [], ◌∷◌}
use mathlib.Core.Bool.{Bool, true, false, cond, ◌||◌}
use mathlib.Core.Option.{Option, none, some}
use lib.Dec.{ltb}
use lib.ListN.{length, get_or, get_elem?, take, drop, length-append}
use lib.Seq.{sets}
use Rattle.definitions.specs.Prelude.{Result, ok, refused}
use Rattle.definitions.specs.Tree.{Tree}
use Rattle.definitions.specs.Entry.{Entry, tree_at}
use Rattle.definitions.specs.NodeCache.{Made as Making}
use Rattle.definitions.specs.Refusal.{is_no_node}
use Rattle.definitions.specs.Preorder as preorder
use Rattle.definitions.specs.SyntaxText.{Chunks, of_text, chunks, stepped, next_chunk}
use Rattle.utility_types.specs.Numbers.{refusal_number, OrRefusal}
use Rattle.utility_types.specs.Elements.{event_at}
use Rattle.utility_types.specs.declared.Refusal.{Refusal}
use Rattle.utility_types.specs.declared.TokenAtOffset.TheVariants as found
use Rattle.utility_types.specs.declared.WalkEvent.TheVariants.{Enter, Leave}
use Rattle.green.specs.Store.{Store, entries, both}
use Rattle.green_new.specs.Done.{Done}
use Rattle.cursor.specs.Answers.{PathKept}
use Rattle.cursor_range.specs.Answers.{KeptTokens}
use Rattle.preorder.specs.declared.state.Coming.TheVariants as coming
use Rattle.utility_types.specs.declared.WalkEvent.{WalkEvent}
use Rattle.preorder.specs.Walks.{next_of, answer_as, WalkKept}
use Rattle.preorder_many.specs.declared.state.Stop.{Stop}
use Rattle.preorder_many.specs.declared.state.Stop.TheVariants as stop
use Rattle.preorder_many.specs.Many.{State, state, Calls, Stops}
use Rattle.query.specs.declared.question.Question.{Question}
use Rattle.query.specs.declared.reply.Reply.{Reply}
use Rattle.query.specs.declared.reply.Reply.TheVariants as reply
use Rattle.query.specs.Answered.{PathsKept}
use Rattle.syntax_text.specs.Text.{text_at}
use Rattle.syntax_text_chunks.specs.Chunks.{part_of, chunks_at, asked_chunk, gave, ChunkLeft}
use Rattle.notes_tree.specs.History.{Edit}
use Rattle.abi.specs.Outcomes.{element_kind, OutputWritten, made_told, summary_told, child_told, reply_told, answer_told, tokens_told, moved_told, event_told, given_told, chunk_told}
use Rattle.abi.specs.WalkWords.{coming_in, coming_word, walk_coming, walk_depth, walk_start, walk_root, walk_tokens, begun_in, skipped_in}
use Rattle.cursor_ffi.specs.Exports.{named_token, TokenText}
use Rattle.notes_tree_ffi.specs.Exports.{EditExported, QueryExported, WalkSteps, WalkGives, chunk_given, chunk_kept, ChunkGives}
use Rattle.settled.specs.Refused.{RefusedKeeps}
use Rattle.settled.proofs.Reading.{two_words}
use Rattle.std.specs.Prelude.{Ok, Err, Some, None, Option as Optional}
use Rattle.utility_types.specs.declared.SyntaxElement.{SyntaxElement}
use Rattle.utility_types.specs.declared.TokenAtOffset.{TokenAtOffset}
use Rattle.preorder.specs.declared.state.Ahead.{Ahead}
use Rattle.green.specs.declared.element.Summary.{Summary}
use Rattle.green.specs.declared.node.Child.{Child}

-- an outcome over 100 is none of those below it
over : {x n : ℕ} {A : Type 0} → 100 < x → x ≡ n → n ≤ 100 → A
over h e k = absurd (let z : ⊥ = omega (arith, h, e, k) in z)

refused_ok : {A : Type 0} {n : ℕ} {a : A} → refused n ≡ ok a → ⊥
refused_ok e = let z : ◌≡◌ {A = ℕ} 0 1 = cc in omega arith

-- edits and records
done_kept : (s s₁ : Store) (r : Result Making) (y : Refusal) → Done s s₁ r (Err y) → s₁ ≡ s
done_kept s s₁ (ok m) y d = absurd (refused_ok d.answers)
done_kept s s₁ (refused n) y d = d.unchanged d.spells

made_kept : (s s₁ : Store) (r : Result Making) (y : OrRefusal ℕ) (m m₁ : List ℕ) (x : ℕ) → 100 < x → Done s s₁ r y → OutputWritten (made_told y) m m₁ x → (s₁ ≡ s) × (m₁ ≡ m)
made_kept s s₁ r (Ok n) m m₁ x h d w = over h w.outcome (omega arith)
made_kept s s₁ r (Err y) m m₁ x h d w = (done_kept s s₁ r y d, w.words)

edit_kept : (s s₁ : Store) (o : Option Edit) (m m₁ : List ℕ) (x : ℕ) → 100 < x → EditExported (both s s₁) o (both m m₁) x → (s₁ ≡ s) × (m₁ ≡ m)
edit_kept s s₁ none m m₁ x h a = over h (a.foreign refl).written.outcome (omega arith)
edit_kept s s₁ (some e) m m₁ x h a = let c = a.known e refl in made_kept s s₁ _ c.made m m₁ x h c.done c.written

summary_kept : (y : OrRefusal Summary) (m m₁ : List ℕ) (x : ℕ) → 100 < x → OutputWritten (summary_told y) m m₁ x → m₁ ≡ m
summary_kept (Ok s) m m₁ x h w = go s.is_node w.outcome
  where
    go : (b : Bool) → x ≡ element_kind b → m₁ ≡ m
    go true e = over h e (omega arith)
    go false e = over h e (omega arith)
summary_kept (Err r) m m₁ x h w = w.words

child_kept : (y : OrRefusal Child) (m m₁ : List ℕ) (x : ℕ) → 100 < x → OutputWritten (child_told y) m m₁ x → m₁ ≡ m
child_kept (Ok c) m m₁ x h w = over h w.outcome (omega arith)
child_kept (Err r) m m₁ x h w = w.words

-- questions
module _ (l l₁ r r₁ m m₁ : List ℕ) (x : ℕ) (h : 100 < x) where
  abbrev Kept : Type 0
  Kept = (l₁ ≡ l) × (r₁ ≡ r) × (m₁ ≡ m)

  reply_kept : (y : OrRefusal Reply) → PathsKept l r l₁ r₁ y → OutputWritten (reply_told y) m m₁ x → Kept
  reply_kept (Ok reply.None) k w = over h w.outcome (omega arith)
  reply_kept (Ok (reply.Element e)) k w = go e.is_node w.outcome
    where
      go : (b : Bool) → x ≡ element_kind b → Kept
      go true e = over h e (omega arith)
      go false e = over h e (omega arith)
  reply_kept (Ok (reply.Tokens found.None)) k w = over h w.outcome (omega arith)
  reply_kept (Ok (reply.Tokens (found.Single e))) k w = over h w.outcome (omega arith)
  reply_kept (Ok (reply.Tokens (found.Between e f))) k w = over h w.outcome (omega arith)
  reply_kept (Ok (reply.Text from to)) k w = over h w.outcome (omega arith)
  reply_kept (Ok (reply.Number n)) k w = over h w.outcome (omega arith)
  reply_kept (Ok (reply.Truth true)) k w = over h w.outcome (omega arith)
  reply_kept (Ok (reply.Truth false)) k w = over h w.outcome (omega arith)
  reply_kept (Ok (reply.Walk a)) k w = over h w.outcome (omega arith)
  reply_kept (Ok (reply.Path d)) k w = over h w.outcome (omega arith)
  reply_kept (Err y) k w = (k.0, k.1, w.words)

  answer_kept : (y : OrRefusal (Optional SyntaxElement)) → PathKept l l₁ y → r₁ ≡ r → OutputWritten (answer_told y) m m₁ x → Kept
  answer_kept (Ok (Some e)) k q w = reply_kept (Ok (reply.Element e)) (k, q) w
  answer_kept (Ok None) k q w = reply_kept (Ok reply.None) (k, q) w
  answer_kept (Err y) k q w = reply_kept (Err y) (k, q) w

  tokens_kept : (y : OrRefusal TokenAtOffset) → KeptTokens l l₁ r r₁ y → OutputWritten (tokens_told y) m m₁ x → Kept
  tokens_kept (Ok t) k w = reply_kept (Ok (reply.Tokens t)) k w
  tokens_kept (Err y) k w = reply_kept (Err y) k w

query_kept : (s : Store) (root depth : ℕ) (p p₁ r r₁ : List ℕ) (o : Option Question) (m m₁ : List ℕ) (x : ℕ) → 100 < x → QueryExported s root depth (both p p₁) (both r r₁) o (both m m₁) x
    → (p₁ ≡ p) × (r₁ ≡ r) × (m₁ ≡ m)
query_kept s root depth p p₁ r r₁ none m m₁ x h a = over h (a.foreign refl).written.outcome (omega arith)
query_kept s root depth p p₁ r r₁ (some q) m m₁ x h a = let c = a.known q refl in reply_kept p p₁ r r₁ m m₁ x h c.reply c.answered.kept c.written

text_kept : (es : List Entry) (b : List ℕ) (root : ℕ) (p : List ℕ) (o : Option Tree) (m m₁ : List ℕ) (x : ℕ) → 100 < x → TokenText es b root p o m m₁ x → m₁ ≡ m
text_kept es b root p none m m₁ x h a = (a.no_token refl).words
text_kept es b root p (some t) m m₁ x h a = over h (a.token t refl).written.outcome (omega arith)

-- walks
begin_kept : (w w₁ : List ℕ) (root : ℕ) (tokens : Bool) (y : OrRefusal Ahead) (x : ℕ) → 100 < x → w₁ ≡ begun_in w root tokens y → x ≡ (moved_told y).outcome → w₁ ≡ w
begin_kept w w₁ root tokens (Ok a) x h e o = over h o (omega arith)
begin_kept w w₁ root tokens (Err r) x h e o = e

skip_kept : (w w₁ : List ℕ) (y : OrRefusal Ahead) (x : ℕ) → 100 < x → w₁ ≡ skipped_in w y → x ≡ (moved_told y).outcome → w₁ ≡ w
skip_kept w w₁ (Ok a) x h e o = over h o (omega arith)
skip_kept w w₁ (Err r) x h e o = e

-- a walk that is refused is not over, and what comes is kept in the word that said it
ended_answers : (es : List Entry) (r : ℕ) (tokens : Bool) (start depth : ℕ) (l : List ℕ) (n : ℕ) → (next_of es r tokens start depth l coming.Ended).answer ≡ refused n → ⊥
unfolding next_of preorder.next preorder.gives
ended_answers es r tokens start depth l n e = refused_ok (sym e)

module _ (es : List Entry) (root : ℕ) (tokens : Bool) (start depth : ℕ) (l : List ℕ) (n : ℕ) where
  word_kept : (k : ℕ) → (next_of es root tokens start depth l (coming_in k)).answer ≡ refused n → coming_word (coming_in k) ≡ k
  word_kept zero e = refl
  word_kept (suc zero) e = refl
  word_kept (suc (suc zero)) e = refl
  word_kept (suc (suc (suc k))) e = absurd (ended_answers es root tokens start depth l n e)

words_back : (w : List ℕ) (a b : ℕ) → 2 ≤ length w → a ≡ get_or w 0 0 → b ≡ get_or w 1 0 → sets w 0 (a ∷ b ∷ []) ≡ w
words_back [] a b h e f = absurd (let z : ⊥ = omega (arith, h) in z)
words_back (x ∷ []) a b h e f = absurd (let z : ⊥ = omega (arith, h) in z)
words_back (x ∷ y ∷ w) a b h e f = rw (e, f) refl

next_kept : (s : Store) (w w₁ p p₁ m m₁ : List ℕ) (x : ℕ) → 2 ≤ length w → 100 < x → WalkSteps s (both w w₁) (both p p₁) (both m m₁) x → (w₁ ≡ w) × (p₁ ≡ p) × (m₁ ≡ m)
next_kept s w w₁ p p₁ m m₁ x long h a = go a.step.answer a.stepped.says a.stepped.kept a.written
  where
    go : (y : OrRefusal (Optional WalkEvent)) → answer_as p y ≡ (next_of (entries s) (walk_root w) (walk_tokens w) (walk_start w) (walk_depth w) p (walk_coming w)).answer → WalkKept (walk_depth w) p p₁ (walk_coming w) a.step.depth a.step.coming y
        → OutputWritten (event_told y) m m₁ x → (w₁ ≡ w) × (p₁ ≡ p) × (m₁ ≡ m)
    go (Ok (Some (Enter e))) z k o = over h o.outcome (omega arith)
    go (Ok (Some (Leave e))) z k o = over h o.outcome (omega arith)
    go (Ok None) z k o = over h o.outcome (omega arith)
    go (Err y) z k o =
        let c : coming_word a.step.coming ≡ get_or w 0 0 = ap coming_word k.2 ∙ word_kept (entries s) (walk_root w) (walk_tokens w) (walk_start w) (walk_depth w) p (refusal_number y) (get_or w 0 0) (sym z) in
        (a.state ∙ words_back w (coming_word a.step.coming) a.step.depth long c k.1, k.0, o.words)

no_calls : {es : List Entry} {r : ℕ} {tokens : Bool} {start : ℕ} {st st' : State} {vs : List preorder.WalkEvent} → Calls es r tokens start st vs st' → length vs ≡ 0 → st' ≡ st
no_calls Calls.none e = refl
no_calls (Calls.then {vs} {st'} {e = v} c d k) e = absurd (let z : ⊥ = omega (arith, e, length-append vs (event_at st'.path v ∷ [])) in z)

many_kept : (s : Store) (w w₁ p p₁ e e₁ m m₁ : List ℕ) (x : ℕ) → 2 ≤ length w → 100 < x → WalkGives s (both w w₁) (both p p₁) (both e e₁) (both m m₁) x → (w₁ ≡ w) × (p₁ ≡ p) × (e₁ ≡ e) × (m₁ ≡ m)
many_kept s w w₁ p p₁ e e₁ m m₁ x long h a = go a.given.stop a.gave.stops a.written
  where
    go : (y : Stop) → Stops y (next_of (entries s) (walk_root w) (walk_tokens w) (walk_start w) a.given.depth p₁ a.given.coming).answer a.given.count (length e)
        → OutputWritten (given_told y a.given.count) m m₁ x → (w₁ ≡ w) × (p₁ ≡ p) × (e₁ ≡ e) × (m₁ ≡ m)
    go stop.Full k o = over h o.outcome (omega arith)
    go stop.Over k o = over h o.outcome (omega arith)
    go (stop.Refused y) k o =
        let z : state p₁ a.given.depth a.given.coming ≡ state p (walk_depth w) (walk_coming w) = no_calls a.gave.calls (a.gave.count ∙ k.1) in
        let l : p₁ ≡ p = ap (λ (v : State). v.path) z in
        let d : a.given.depth ≡ walk_depth w = ap (λ (v : State). v.depth) z in
        let c : a.given.coming ≡ walk_coming w = ap (λ (v : State). v.coming) z in
        let r : (next_of (entries s) (walk_root w) (walk_tokens w) (walk_start w) (walk_depth w) p (walk_coming w)).answer ≡ refused (refusal_number y) =
        subst (λ (v : State). (next_of (entries s) (walk_root w) (walk_tokens w) (walk_start w) v.depth v.path v.coming).answer ≡ refused (refusal_number y)) z k.0 in
        let b : coming_word a.given.coming ≡ get_or w 0 0 =
        ap coming_word c ∙ word_kept (entries s) (walk_root w) (walk_tokens w) (walk_start w) (walk_depth w) p (refusal_number y) (get_or w 0 0) r in
        (a.state ∙ words_back w (coming_word a.given.coming) a.given.depth long b d, l, subst (λ n. drop (n * 7) e₁ ≡ drop (n * 7) e) k.1 a.gave.kept, o.words)

-- chunks: a step that is refused leaves the count
stepped_kept : (c : Chunks) (r : Result (Option (List ℕ))) (n : ℕ) → (stepped c r).answer ≡ refused n → (stepped c r).chunks ≡ c
unfolding stepped
stepped_kept c (refused k) n e = refl
stepped_kept c (ok none) n e = refl
stepped_kept c (ok (some b)) n e = absurd (refused_ok (sym e))

either_kept : (c : Chunks) (r : Result (Option (List ℕ))) (n : ℕ) (d : Bool) → (cond d (stepped c (refused 4)) (stepped c r)).answer ≡ refused n → (cond d (stepped c (refused 4)) (stepped c r)).chunks ≡ c
either_kept c r n true e = stepped_kept c (refused 4) n e
either_kept c r n false e = stepped_kept c r n e

asked_kept : (es : List Entry) (root depth : ℕ) (l : List ℕ) (a b given n : ℕ) → (asked_chunk es root depth l a b given).answer ≡ refused n → (asked_chunk es root depth l a b given).chunks ≡ chunks_at depth l a b given
unfolding asked_chunk next_chunk
asked_kept es root depth l a b given n = either_kept (chunks_at depth l a b given) (of_text (tree_at es root) (text_at depth l a b) (ok (get_elem? (chunks (tree_at es root) (text_at depth l a b)) given))) n (ltb 64 depth || is_no_node es root)

module _ (s : Store) (root depth : ℕ) (l : List ℕ) (start stop : ℕ) (w w₁ q q₁ text m m₁ : List ℕ) (x : ℕ) (i : length w ≡ 2) (j : length w₁ ≡ 2) (h : 100 < x) where
  chunk_left : (o from to given' : ℕ) (bytes : List ℕ) → gave depth l start stop given' o bytes ≡ asked_chunk (entries s) root depth l start stop (chunk_given w) → given' ≡ chunk_given w₁
      → ChunkLeft o q q₁ (chunk_kept w) (chunk_kept w₁) bytes → OutputWritten (chunk_told o from to) m m₁ x → (w₁ ≡ w) × (q₁ ≡ q) × (m₁ ≡ m)
  chunk_left zero from to given' bytes e g k o = over h o.outcome (omega arith)
  chunk_left (suc zero) from to given' bytes e g k o = over h o.outcome (omega arith)
  chunk_left (suc (suc n)) from to given' bytes e g k o =
      let z : given' ≡ chunk_given w = ap (λ y. y.chunks.given) e ∙ ap (λ (y : Chunks). y.given) (asked_kept (entries s) root depth l start stop (chunk_given w) (suc (suc n)) (sym (ap (λ y. y.answer) e))) in
      (two_words w₁ w j i (sym g ∙ z) k.1, k.0, o.words)

  chunk_kept_lem : ChunkGives s root depth l start stop (both w w₁) (both q q₁) text (both m m₁) x → (w₁ ≡ w) × (q₁ ≡ q) × (m₁ ≡ m)
  chunk_kept_lem a = chunk_left a.outcome a.part.from a.part.to (chunk_given w₁) (part_of text a.part) a.stepped.says refl a.stepped.left a.written

pub refused_keeps : RefusedKeeps
refused_keeps = record {
  edit = edit_kept;
  element = λ s n m m₁ x h a. summary_kept a.of m m₁ x h a.written;
  child = λ s n k m m₁ x h a. child_kept a.of m m₁ x h a.written;
  query = query_kept;
  question = λ a p p₁ m m₁ x h t. let z = answer_kept p p₁ [] [] m m₁ x h t.answer t.tells.kept refl t.written in (z.0, z.2);
  tokens = λ a p p₁ r r₁ m m₁ x h t. tokens_kept p p₁ r r₁ m m₁ x h t.tokens t.tells.kept t.written;
  text = λ es b root depth p m m₁ x h t. text_kept es b root (take depth p) (named_token es root depth p) m m₁ x h t;
  begin = λ s root tokens depth l w w₁ x h a. begin_kept w w₁ root tokens a.moved x h a.state a.outcome;
  next = next_kept;
  skip = λ w w₁ x h a. skip_kept w w₁ a.moved x h a.state a.outcome;
  many = many_kept;
  chunk = λ s root depth l start stop w w₁ q q₁ text m m₁ x i j h a. chunk_kept_lem s root depth l start stop w w₁ q q₁ text m m₁ x i j h a;
}
