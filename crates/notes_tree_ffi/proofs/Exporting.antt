-- What the functions ensure is what their exported forms promise. Assumes nothing.
use Prim.Native.Nat.{ℕ, ◌≤◌}
use native.Mathlib.Omega.{arith}
use mathlib.Core.Path.{◌≡◌, refl, sym, subst, ◌∙◌}
use mathlib.Core.List.{List, [], ◌∷◌}
use mathlib.Core.Bool.{Bool}
use mathlib.Core.Option.{Option, none, some, none-ne-some, some-injective}
use lib.ListN.{length, get_or, set}
use lib.Seq.{sets}
use Rattle.green.specs.Store.{Store, limits, entries, both}
use Rattle.green_new.specs.Done.{Done}
use Rattle.preorder.specs.declared.state.Coming.{Coming}
use Rattle.preorder.specs.declared.state.Step.{Step}
use Rattle.preorder.specs.Walks.{next_of, WalkStepped, WalkBegun, Short}
use Rattle.preorder.specs.Walks as walks
use Rattle.preorder_many.specs.declared.state.Given.{Given}
use Rattle.preorder_many.specs.Many.{state, ManyGiven}
use Rattle.syntax_text_chunks.specs.declared.chunks.Part.{Part}
use Rattle.syntax_text_chunks.specs.Chunks.{part_of, PartLies, ChunkStepped}
use Rattle.query.specs.declared.question.Question.{Question}
use Rattle.query.specs.declared.reply.Reply.{Reply}
use Rattle.query.specs.Answered.{Answered}
use Rattle.sheet_run.specs.RunDone.{RunDone, YieldsDone}
use Rattle.notes_tree.specs.History.{Edit, makes}
use Rattle.notes_tree.specs.Demand3.{WalkDone}
use Rattle.abi.specs.Outcomes.{with_words, unknown_outcome, OutputWritten, ended_told, made_told, reply_told, event_told, moved_told, given_told, chunk_told}
use Rattle.abi.specs.WalkWords.{walk_coming, walk_depth, walk_start, walk_root, walk_tokens, WalkInWords, moved_on, begun_in, skipped_in}
use Rattle.notes_tree_ffi.specs.Exports.{RunExported, Edited, EditExported, Replied, QueryExported, WalkBegins, WalkSteps, WalkSkips, WalkGives, ChunkGives}
use Rattle.notes_tree_ffi.proofs.Going.{run_on_lem, edit_on, next_on, skip_on, chunk_on}
use Rattle.std.specs.Prelude.{Ok, Err}
use Rattle.utility_types.specs.Numbers.{OrRefusal}
use Rattle.preorder.specs.declared.state.Ahead.{Ahead}
use Rattle.sheet.specs.Ended.{Ended}

-- the calls that write
pub run_told : {s s' : Store} {sheet source yields' m m' : List ℕ} {e : Ended} {x : ℕ} (yields : List ℕ) → length yields ≡ 4096
    → RunDone (both s s') sheet source e → YieldsDone s (both yields yields') sheet source → OutputWritten (ended_told e) m m' x
    → RunExported (both s s') (both yields yields') sheet source (both m m') x
run_told {e = e} yields long d y w = record { ended = e; done = d; yielded = y; carries = run_on_lem yields long d y; written = w }

pub edit_told : (e : Edit) {s s' : Store} {o : Option Edit} {m m' : List ℕ} {r : OrRefusal ℕ} {x : ℕ} → o ≡ some e → Done s s' (makes e (limits s) (entries s)) r → OutputWritten (made_told r) m m' x
    → EditExported (both s s') o (both m m') x
edit_told e {s} {s'} {m = m} {m'} {r} {x} h d w = record {
  known = λ f p. subst (λ g. Edited (both s s') g (both m m') x) (some-injective _ _ (sym h ∙ p)) (record { made = r; done = d; carries = edit_on e d; written = w });
  foreign = λ p. absurd (none-ne-some _ (sym p ∙ h));
}

pub no_edit : {s : Store} {o : Option Edit} {m m' : List ℕ} {x : ℕ} → o ≡ none → OutputWritten (with_words unknown_outcome []) m m' x → EditExported (both s s) o (both m m') x
no_edit h w = record { known = λ e p. absurd (none-ne-some _ (sym h ∙ p)); foreign = λ p. record { store = refl; written = w } }

-- a question of a code, or none
module _ {s : Store} {root depth : ℕ} {l l' r r' m m' : List ℕ} {x : ℕ} {o : Option Question} where
  pub replied : {q : Question} {y : OrRefusal Reply} → o ≡ some q → Answered s root depth l r q l' r' y → OutputWritten (reply_told y) m m' x → QueryExported s root depth (both l l') (both r r') o (both m m') x
  replied {q} {y} h a w = record {
    known = λ f p. subst (λ g. Replied s root depth (both l l') (both r r') g (both m m') x) (some-injective _ _ (sym h ∙ p)) (record { reply = y; answered = a; written = w });
    foreign = λ p. absurd (none-ne-some _ (sym p ∙ h));
  }

  pub no_question : o ≡ none → l' ≡ l → r' ≡ r → OutputWritten (with_words unknown_outcome []) m m' x → QueryExported s root depth (both l l') (both r r') o (both m m') x
  no_question h f g w = record { known = λ q p. absurd (none-ne-some _ (sym h ∙ p)); foreign = λ p. record { path_kept = f; other_kept = g; written = w } }

-- a walk's words keep their invariant
moved_short : (w : List ℕ) (a d : ℕ) → 8 ≤ length w → d ≤ 64 → WalkInWords (sets w 0 (a ∷ d ∷ []))
moved_short [] a d h k = absurd (let z : ⊥ = omega (arith, h) in z)
moved_short (p ∷ []) a d h k = absurd (let z : ⊥ = omega (arith, h) in z)
moved_short (p ∷ q ∷ w) a d h k = record { short = k }

begun_short : (w : List ℕ) (a d e f g : ℕ) → 8 ≤ length w → d ≤ 64 → WalkInWords (sets w 0 (a ∷ d ∷ e ∷ f ∷ g ∷ []))
begun_short [] a d e f g h k = absurd (let z : ⊥ = omega (arith, h) in z)
begun_short (p ∷ []) a d e f g h k = absurd (let z : ⊥ = omega (arith, h) in z)
begun_short (p ∷ q ∷ w) a d e f g h k = record { short = k }

begin_keeps : (w : List ℕ) (root : ℕ) (tokens : Bool) (x : OrRefusal Ahead) → 8 ≤ length w → Short x → WalkInWords w → WalkInWords (begun_in w root tokens x)
begin_keeps w root tokens (Ok a) h k v = begun_short w _ a.depth _ _ _ h k
begin_keeps w root tokens (Err r) h k v = v

skip_keeps : (w : List ℕ) (x : OrRefusal Ahead) → 8 ≤ length w → Short x → WalkInWords w → WalkInWords (skipped_in w x)
skip_keeps w (Ok a) h k v = moved_short w _ a.depth h k
skip_keeps w (Err r) h k v = v

-- what `next` and `next_many` ensure of a walk's words w
abbrev Stepped : Store → List ℕ → List ℕ → List ℕ → Bool → Coming → Step → Type 0
Stepped s w l l' b k r = WalkStepped b (walk_start w) (walk_depth w) l l' k (next_of (entries s) (walk_root w) b (walk_start w) (walk_depth w) l k) r

abbrev Many : Store → List ℕ → List ℕ → List ℕ → Bool → Coming → List ℕ → List ℕ → Given → Type 0
Many s w l l' b k q q' g = ManyGiven (entries s) (walk_root w) b (walk_start w) (state l (walk_depth w) k) (state l' g.depth g.coming) q q' g.count g.stop

-- the calls on a walk: w and w' are its words
module _ {s : Store} {w w' : List ℕ} (long : 8 ≤ length w) where
  pub begin_told : {root depth : ℕ} {tokens flag : Bool} {l : List ℕ} {r : OrRefusal Ahead} {x : ℕ} → tokens ≡ flag → WalkBegun (entries s) root depth l r
      → w' ≡ begun_in w root tokens r → x ≡ (moved_told r).outcome → WalkBegins s root flag depth l (both w w') x
  begin_told {root} {depth} {tokens} {flag} {r = r} t b e o =
      let e₂ : w' ≡ begun_in w root flag r = rw (sym t) e in
      record { moved = r; begun = b; state = e₂; keeps = λ v. subst WalkInWords (sym e₂) (begin_keeps w root flag r long b.short v); outcome = o }

  module _ {l l' m m' : List ℕ} {tokens : Bool} {coming : Coming} {x : ℕ} (t : tokens ≡ walk_tokens w) (c : coming ≡ walk_coming w) where
    pub next_told : {r : Step} → Stepped s w l l' tokens coming r → length l' ≡ 64 → w' ≡ moved_on w r.coming r.depth → OutputWritten (event_told r.answer) m m' x
        → WalkSteps s (both w w') (both l l') (both m m') x
    next_told {r} d f e v =
        let d₂ : Stepped s w l l' (walk_tokens w) (walk_coming w) r = subst (λ k. Stepped s w l l' (walk_tokens w) k r) c (subst (λ b. Stepped s w l l' b coming r) t d) in
        record { step = r; stepped = d₂; carried = next_on d₂ f; state = e; keeps = subst WalkInWords (sym e) (moved_short w _ r.depth long d.short); written = v }

    pub many_told : {q q' : List ℕ} {g : Given} → Many s w l l' tokens coming q q' g → w' ≡ moved_on w g.coming g.depth → OutputWritten (given_told g.stop g.count) m m' x
        → WalkGives s (both w w') (both l l') (both q q') (both m m') x
    many_told {q} {q'} {g} d e v =
        let d₂ : Many s w l l' (walk_tokens w) (walk_coming w) q q' g = subst (λ k. Many s w l l' (walk_tokens w) k q q' g) c (subst (λ b. Many s w l l' b coming q q' g) t d) in
        record { given = g; gave = d₂; carried = WalkDone.many d₂; state = e; keeps = subst WalkInWords (sym e) (moved_short w _ g.depth long d.short); written = v }

pub skip_told : {w w' : List ℕ} {coming : Coming} {r : OrRefusal Ahead} {x : ℕ} → 8 ≤ length w → WalkInWords w → coming ≡ walk_coming w → walks.WalkSkipped (walk_depth w) coming r
    → w' ≡ skipped_in w r → x ≡ (moved_told r).outcome → WalkSkips (both w w') x
skip_told {w} {w'} {coming} {r} long v c d e o =
    let d₂ : walks.WalkSkipped (walk_depth w) (walk_coming w) r = subst (λ y. walks.WalkSkipped (walk_depth w) y r) c d in
    record { moved = r; carried = skip_on d₂; state = e; keeps = subst WalkInWords (sym e) (skip_keeps w r long d.short v); outcome = o }

-- a chunk step: the two words of its state are written last, and its place is left as the call's is
pub chunk_told_lem : {s : Store} {root depth : ℕ} {l : List ℕ} {start stop given kept outcome : ℕ} {q q' q'' text m m' : List ℕ} {p : Part} {x : ℕ} (w : List ℕ) → 2 ≤ length w
    → ChunkStepped s root depth l start stop (get_or w 0 0) q (get_or w 1 0) given q' kept outcome (part_of text p) → length q' ≡ 64 → PartLies (entries s) root depth l start stop (get_or w 0 0) outcome text p
    → OutputWritten (chunk_told outcome p.from p.to) m m' x → q'' ≡ q' → ChunkGives s root depth l start stop (both w (set (set w 0 given) 1 kept)) (both q q'') text (both m m') x
chunk_told_lem [] h d f i v e = absurd (let z : ⊥ = omega (arith, h) in z)
chunk_told_lem (a ∷ []) h d f i v e = absurd (let z : ⊥ = omega (arith, h) in z)
chunk_told_lem {outcome = outcome} {p = p} (a ∷ b ∷ w) h d f i v e = rw e (record { part = p; outcome = outcome; stepped = d; carried = chunk_on d f; lies = i; written = v })
