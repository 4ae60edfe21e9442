-- What the calls that read a tree promise is one outcome. Assumes nothing.
use Prim.Native.Nat.{ℕ, zero, suc, ◌+◌, ◌-◌, max, min, ◌<◌}
use native.Mathlib.Omega.{arith}
use mathlib.Core.Path.{◌≡◌, refl, sym, ap, ap₂, subst, ◌∙◌}
use mathlib.Core.List.{List, [], ◌∷◌}
use mathlib.Core.Bool.{Bool, true, false, cond, not, ◌||◌}
use lib.Dec.{ltb}
use mathlib.Core.Option.{Option, none, some, some-injective}
use lib.ListN.{length, get_or, take}
use lib.Seq.{ext_get_or}
use Rattle.definitions.specs.Tree.{Tree, text_len}
use Rattle.definitions.specs.Prelude.{refused}
use Rattle.definitions.specs.Entry.{Entry, tree_at, is_node_at, number_at}
use Rattle.definitions.specs.Refusal.{is_no_node}
use Rattle.definitions.specs.SyntaxText.{stepped, next_chunk}
use Rattle.definitions.specs.Element.{Element, end}
use Rattle.green.specs.Store.{Store, entries, both}
use Rattle.green.specs.Valid.{Valid}
use Rattle.green.specs.Layout.{first_of}
use Rattle.syntax_text_chunks.specs.declared.chunks.Part.{Part}
use Rattle.syntax_text_chunks.specs.Chunks.{part_of, PartLies, says_chunk, chunks_at, asked_chunk, ChunkLeft}
use Rattle.query.specs.declared.question.Question.{Question}
use Rattle.query.specs.declared.question.Question.TheVariants as question
use Rattle.query.specs.Answered.{question_of}
use Rattle.query.proofs.Alike.{Fixed, same_replies}
use Rattle.notes_tree.specs.Demand3.{ChunkState, ChunkCall}
use Rattle.notes_tree.proofs.Carrying.{outcome_same}
use Rattle.notes_tree.proofs.Keeping.{chunk_same}
use Rattle.abi.specs.Outcomes.{with_words, chunk_outcome, reply_told, chunk_told, SameOutput}
use Rattle.abi.proofs.Telling.{same_output}
use Rattle.cursor_ffi.specs.Exports.{named_token, TokenText}
use Rattle.notes_tree_ffi.specs.Goes.{chunk_state}
use Rattle.notes_tree_ffi.specs.Exports.{QueryExported, chunk_given, chunk_kept, ChunkGives}

-- any question but where a number occurs
module _ (es : List Entry) (root depth : ℕ) (l m : List ℕ) where
  fixed : (q : Question) → ((n : ℕ) → some q ≡ some (question.WhereIs n) → ⊥) → Fixed (question_of es root depth l m q)
  fixed question.Here h = tt
  fixed question.Parent h = tt
  fixed (question.FirstChild tokens) h = tt
  fixed (question.LastChild tokens) h = tt
  fixed (question.NextSibling tokens) h = tt
  fixed (question.PrevSibling tokens) h = tt
  fixed question.FirstToken h = tt
  fixed question.LastToken h = tt
  fixed question.NextToken h = tt
  fixed question.PrevToken h = tt
  fixed (question.TokenAtOffset x) h = tt
  fixed (question.ChildOrTokenAtRange a b) h = tt
  fixed (question.CoveringElement a b) h = tt
  fixed question.Text h = tt
  fixed (question.Walk tokens) h = tt
  fixed (question.TextLen a b) h = tt
  fixed (question.Slice a b from to) h = tt
  fixed (question.Contains a b c) h = tt
  fixed (question.Find a b c) h = tt
  fixed (question.CharAt a b x) h = tt
  fixed (question.EqualText a b root₂ depth₂ a₂ b₂) h = tt
  fixed (question.SameElement root₂ depth₂) h = tt
  fixed (question.WhereIs n) h = absurd (h n refl)

pub query_once : (s : Store) (root depth : ℕ) (p p₁ p₂ r r₁ r₂ : List ℕ) (o : Option Question) (m m₁ m₂ : List ℕ) (x₁ x₂ : ℕ)
    → length p₁ ≡ 64 → length p₂ ≡ 64 → length r₁ ≡ 64 → length r₂ ≡ 64 → ((n : ℕ) → o ≡ some (question.WhereIs n) → ⊥)
    → QueryExported s root depth (both p p₁) (both r r₁) o (both m m₁) x₁ → QueryExported s root depth (both p p₂) (both r r₂) o (both m m₂) x₂
    → (p₁ ≡ p₂) × (r₁ ≡ r₂) × SameOutput m₁ m₂ x₁ x₂
query_once s root depth p p₁ p₂ r r₁ r₂ none m m₁ m₂ x₁ x₂ f g h k w a b =
    let c = a.foreign refl in
    let d = b.foreign refl in
    (c.path_kept ∙ sym d.path_kept, c.other_kept ∙ sym d.other_kept, same_output refl c.written d.written)
query_once s root depth p p₁ p₂ r r₁ r₂ (some q) m m₁ m₂ x₁ x₂ f g h k w a b =
    let c = a.known q refl in
    let d = b.known q refl in
    let z = same_replies f h g k c.answered d.answered (question_of (entries s) root depth p r q) (fixed (entries s) root depth p r q w) refl refl in
    (z.1, z.2, same_output (ap reply_told z.0) c.written d.written)

-- a token's text
pub text_once : (es : List Entry) (b : List ℕ) (root depth : ℕ) (p m m₁ m₂ : List ℕ) (x₁ x₂ : ℕ) → TokenText es b root (take depth p) (named_token es root depth p) m m₁ x₁
    → TokenText es b root (take depth p) (named_token es root depth p) m m₂ x₂ → SameOutput m₁ m₂ x₁ x₂
text_once es b root depth p m m₁ m₂ x₁ x₂ t u = go (named_token es root depth p) refl
  where
    go : (o : Option Tree) → named_token es root depth p ≡ o → SameOutput m₁ m₂ x₁ x₂
    go none z = same_output refl (t.no_token z) (u.no_token z)
    go (some v) z =
        let c = t.token v z in
        let d = u.token v z in
        let e : c.number ≡ d.number = some-injective _ _ (sym c.recorded ∙ d.recorded) in
        same_output (ap (λ n. with_words chunk_outcome (first_of es n ∷ (first_of es n + text_len v) ∷ [])) e) c.written d.written

-- the chunks of a text
one_place : (es : List Entry) (root depth : ℕ) (l : List ℕ) (a b given o : ℕ) (text : List ℕ) (x y : Part) → PartLies es root depth l a b given o text x → PartLies es root depth l a b given o text y
    → chunk_told o x.from x.to ≡ chunk_told o y.from y.to
one_place es root depth l a b given zero text x y p q =
    let c = p.own refl in
    let d = q.own refl in
    let t : c.token ≡ d.token = some-injective _ _ (sym c.comes ∙ d.comes) in
    let n : c.number ≡ d.number = some-injective _ _ (sym c.recorded ∙ ap (λ (e : Element). number_at es root e.path) t ∙ d.recorded) in
    let f : x.from ≡ y.from = c.own.starts ∙ ap₂ (λ i (e : Element). first_of es i + (max a e.start - e.start)) n t ∙ sym d.own.starts in
    let g : x.to ≡ y.to = c.own.ends ∙ ap₂ (λ i (e : Element). first_of es i + (min b (end e) - e.start)) n t ∙ sym d.own.ends in
    ap₂ (λ i j. with_words chunk_outcome (i ∷ j ∷ [])) f g
one_place es root depth l a b given (suc zero) text x y p q = refl
one_place es root depth l a b given (suc (suc o)) text x y p q = refl

pub two_words : (c d : List ℕ) → length c ≡ 2 → length d ≡ 2 → get_or c 0 0 ≡ get_or d 0 0 → get_or c 1 0 ≡ get_or d 1 0 → c ≡ d
two_words c d a b x y = ext_get_or 0 c d (a ∙ sym b) (λ i h. go i h)
  where
    go : (i : ℕ) → i < length c → get_or c i 0 ≡ get_or d i 0
    go zero h = x
    go (suc zero) h = y
    go (suc (suc i)) h = absurd (let z : ⊥ = omega (arith, h, a) in z)

-- where there is no text, 4, and all stays as it was
no_chunk : (o : ℕ) (bytes q q' : List ℕ) (k k' : ℕ) → says_chunk o bytes ≡ refused 4 → ChunkLeft o q q' k k' bytes → (q' ≡ q) × (k' ≡ k)
no_chunk zero bytes q q' k k' e h = absurd (let z : ◌≡◌ {A = ℕ} 0 1 = cc in omega arith)
no_chunk (suc zero) bytes q q' k k' e h = absurd (let z : ◌≡◌ {A = ℕ} 0 1 = cc in omega arith)
no_chunk (suc (suc o)) bytes q q' k k' e h = (h.0, h.1)

no_text : (es : List Entry) (root depth : ℕ) (l : List ℕ) (a b given : ℕ) → is_node_at es root ≡ false → asked_chunk es root depth l a b given ≡ stepped (chunks_at depth l a b given) (refused 4)
unfolding asked_chunk is_no_node
no_text es root depth l a b given i = go (ltb 64 depth)
  where
    go : (d : Bool) → cond (d || not (is_node_at es root)) (stepped (chunks_at depth l a b given) (refused 4)) (next_chunk (tree_at es root) (chunks_at depth l a b given))
        ≡ stepped (chunks_at depth l a b given) (refused 4)
    go true = refl
    go false = rw i refl

module _ (s : Store) (v : Valid s) (root depth : ℕ) (l : List ℕ) (start stop : ℕ) (w w₁ w₂ q q₁ q₂ text m m₁ m₂ : List ℕ) (x₁ x₂ : ℕ) (h : length w₁ ≡ 2) (k : length w₂ ≡ 2)
    (a : ChunkGives s root depth l start stop (both w w₁) (both q q₁) text (both m m₁) x₁) (b : ChunkGives s root depth l start stop (both w w₂) (both q q₂) text (both m m₂) x₂) where
  abbrev Same : Type 0
  Same = (w₁ ≡ w₂) × (q₁ ≡ q₂) × SameOutput m₁ m₂ x₁ x₂

  by_parts : a.outcome ≡ b.outcome → chunk_given w₁ ≡ chunk_given w₂ → chunk_kept w₁ ≡ chunk_kept w₂ → q₁ ≡ q₂ → Same
  by_parts o g f p =
      let there : PartLies (entries s) root depth l start stop (chunk_given w) a.outcome text b.part =
      subst (λ n. PartLies (entries s) root depth l start stop (chunk_given w) n text b.part) (sym o) b.lies in (
        two_words w₁ w₂ h k g f,
        p,
        same_output (one_place (entries s) root depth l start stop (chunk_given w) a.outcome text a.part b.part a.lies there
            ∙ ap (λ n. chunk_told n b.part.from b.part.to) o) a.written b.written,
      )

  at_node : is_node_at (entries s) root ≡ true → Same
  at_node i =
      let z = chunk_same v root root i i refl (chunk_state depth l start stop (chunk_given w) q (chunk_kept w) 0) ChunkCall.step _ _ a.carried b.carried in
      let t = ap (λ r. r.state) z in
      by_parts (ap (λ (c : ChunkState). c.outcome) t) (ap (λ (c : ChunkState). c.given) t) (ap (λ (c : ChunkState). c.kept) t) (ap (λ (c : ChunkState). c.place) t)

  at_none : is_node_at (entries s) root ≡ false → Same
  unfolding stepped
  at_none i =
      let e = no_text (entries s) root depth l start stop (chunk_given w) i in
      let c : says_chunk a.outcome (part_of text a.part) ≡ refused 4 = ap (λ y. y.answer) (a.stepped.says ∙ e) in
      let d : says_chunk b.outcome (part_of text b.part) ≡ refused 4 = ap (λ y. y.answer) (b.stepped.says ∙ e) in
      let f = no_chunk a.outcome (part_of text a.part) q q₁ (chunk_kept w) (chunk_kept w₁) c a.stepped.left in
      let g = no_chunk b.outcome (part_of text b.part) q q₂ (chunk_kept w) (chunk_kept w₂) d b.stepped.left in
      by_parts (outcome_same a.outcome b.outcome _ _ (c ∙ sym d)) (ap (λ y. y.chunks.given) (a.stepped.says ∙ sym b.stepped.says)) (f.1 ∙ sym g.1) (f.0 ∙ sym g.0)

  pub chunk_once : Same
  chunk_once = go (is_node_at (entries s) root) refl
    where
      go : (b : Bool) → is_node_at (entries s) root ≡ b → Same
      go true i = at_node i
      go false i = at_none i
