-- What the calls on a walk promise is one outcome. Assumes nothing.
use Prim.Native.Nat.{ℕ, ◌+◌}
use mathlib.Core.Path.{◌≡◌, refl, sym, ap, ap₂, ◌∙◌}
use mathlib.Core.List.{List, [], ◌∷◌}
use mathlib.Core.Bool.{Bool, true}
use lib.Seq.{sets}
use Rattle.definitions.specs.Prelude.{Result, ok, refused}
use Rattle.definitions.specs.Preorder.{Walk, WalkEvent}
use Rattle.definitions.specs.Preorder as preorder
use Rattle.utility_types.specs.declared.WalkEvent.TheVariants.{Enter, Leave}
use Rattle.green.specs.Store.{Store, entries, both}
use Rattle.preorder.specs.declared.state.Coming.{Coming}
use Rattle.preorder.specs.declared.state.Coming.TheVariants as coming
use Rattle.preorder.specs.Walks.{coming_of, begun_as, answer_as, EventNamed}
use Rattle.preorder_many.specs.declared.state.Stop.{Stop}
use Rattle.preorder_many.specs.declared.state.Stop.TheVariants as stop
use Rattle.notes_tree.specs.Demand3.{Returned, WalkState, WalkAnswer, WalkCall, WalkDone, Why, why_no_more, skip_answer, skipped_to}
use Rattle.notes_tree.proofs.Carrying.{walk_same}
use Rattle.abi.specs.Outcomes.{Output, with_words, done_outcome, full_outcome, none_outcome, enter_outcome, leave_outcome, bit, moved_told, given_told, event_told, SameOutput}
use Rattle.abi.specs.WalkWords.{coming_word, moved_on, begun_in, skipped_in, walk_root, walk_tokens, walk_start, walk_depth, walk_coming}
use Rattle.notes_tree_ffi.specs.Goes.{walk_state}
use Rattle.notes_tree_ffi.specs.Exports.{WalkBegins, WalkSkips, WalkGives, WalkSteps}
use Rattle.abi.proofs.Telling.{same_output}
use Rattle.std.specs.Prelude.{Ok, Err, Some, None, Option as Optional}
use Rattle.utility_types.specs.Numbers.{OrRefusal}
use Rattle.utility_types.specs.declared.WalkEvent.{WalkEvent as Event}
use Rattle.preorder.specs.declared.state.Ahead.{Ahead}

-- begin
abbrev word_of : preorder.Coming → ℕ
word_of preorder.Coming.first = 0
word_of preorder.Coming.enter = 1
word_of preorder.Coming.leave = 2
word_of preorder.Coming.ended = 3

word_of_lem : (c : Coming) → coming_word c ≡ word_of (coming_of c)
word_of_lem coming.First = refl
word_of_lem coming.Enter = refl
word_of_lem coming.Leave = refl
word_of_lem coming.Ended = refl

abbrev begun_from : List ℕ → ℕ → Result Walk → List ℕ
begun_from w root (ok v) = sets w 0 (word_of v.coming ∷ v.depth ∷ v.depth ∷ root ∷ bit v.tokens ∷ [])
begun_from w root (refused n) = w

begun_from_lem : (w : List ℕ) (root : ℕ) (tokens : Bool) (l : List ℕ) (x : OrRefusal Ahead) → begun_in w root tokens x ≡ begun_from w root (begun_as tokens l x)
begun_from_lem w root tokens l (Ok a) = ap (λ n. sets w 0 (n ∷ a.depth ∷ a.depth ∷ root ∷ bit tokens ∷ [])) (word_of_lem a.coming)
begun_from_lem w root tokens l (Err x) = refl

abbrev outcome_from : {A : Type 0} → Result A → ℕ
outcome_from (ok v) = done_outcome
outcome_from (refused n) = 100 + n

begun_outcome : (tokens : Bool) (l : List ℕ) (x : OrRefusal Ahead) → (moved_told x).outcome ≡ outcome_from (begun_as tokens l x)
begun_outcome tokens l (Ok a) = refl
begun_outcome tokens l (Err x) = refl

pub begin_once : (s : Store) (root : ℕ) (tokens : Bool) (depth : ℕ) (l w w₁ w₂ : List ℕ) (x₁ x₂ : ℕ) → WalkBegins s root tokens depth l (both w w₁) x₁ → WalkBegins s root tokens depth l (both w w₂) x₂
    → SameOutput w₁ w₂ x₁ x₂
begin_once s root tokens depth l w w₁ w₂ x₁ x₂ a b =
    let z = a.begun.says tokens ∙ sym (b.begun.says tokens) in
    record {
      words = a.state ∙ begun_from_lem w root tokens l a.moved ∙ ap (begun_from w root) z ∙ sym (begun_from_lem w root tokens l b.moved) ∙ sym b.state;
      outcome = a.outcome ∙ begun_outcome tokens l a.moved ∙ ap outcome_from z ∙ sym (begun_outcome tokens l b.moved) ∙ sym b.outcome;
    }

-- skip
abbrev skipped_from : List ℕ → Result (Unit {0}) → WalkState → List ℕ
skipped_from w (ok u) v = moved_on w v.coming v.depth
skipped_from w (refused n) v = w

skipped_from_lem : (w : List ℕ) (v : WalkState) (x : OrRefusal Ahead) → skipped_in w x ≡ skipped_from w (skip_answer x) (skipped_to v x)
skipped_from_lem w v (Ok a) = refl
skipped_from_lem w v (Err x) = refl

skip_outcome : (x : OrRefusal Ahead) → (moved_told x).outcome ≡ outcome_from (skip_answer x)
skip_outcome (Ok a) = refl
skip_outcome (Err x) = refl

abbrev skip_of : WalkAnswer → Result (Unit {0})
skip_of (WalkAnswer.next r) = refused 0
skip_of (WalkAnswer.skip r) = r
skip_of (WalkAnswer.many k y m) = refused 0

pub skip_once : (w w₁ w₂ : List ℕ) (x₁ x₂ : ℕ) → WalkSkips (both w w₁) x₁ → WalkSkips (both w w₂) x₂ → SameOutput w₁ w₂ x₁ x₂
skip_once w w₁ w₂ x₁ x₂ a b =
    let v = walk_state true 0 (walk_depth w) (walk_coming w) [] in
    let z = walk_same [] 0 0 refl v WalkCall.skip _ _ (a.carried.at [] 0 true 0 []) (b.carried.at [] 0 true 0 []) in
    let y : skip_answer a.moved ≡ skip_answer b.moved = ap (λ r. skip_of r.answer) z in
    let t : skipped_to v a.moved ≡ skipped_to v b.moved = ap (λ r. r.state) z in
    record {
      words = a.state ∙ skipped_from_lem w v a.moved ∙ ap₂ (skipped_from w) y t ∙ sym (skipped_from_lem w v b.moved) ∙ sym b.state;
      outcome = a.outcome ∙ skip_outcome a.moved ∙ ap outcome_from y ∙ sym (skip_outcome b.moved) ∙ sym b.outcome;
    }

-- many
pub record Many : Type 0 where
  pub count : ℕ
  pub why : Why
  pub words : List ℕ

abbrev many_of : WalkAnswer → Many
many_of (WalkAnswer.next r) = record { count = 0; why = Why.full; words = [] }
many_of (WalkAnswer.skip r) = record { count = 0; why = Why.full; words = [] }
many_of (WalkAnswer.many k y m) = record { count = k; why = y; words = m }

abbrev told_why : Why → ℕ → Output
told_why Why.full n = with_words full_outcome (n ∷ [])
told_why Why.over n = with_words none_outcome (n ∷ [])
told_why (Why.refusal r) n = with_words (100 + r) []

given_told_lem : (x : Stop) (n : ℕ) → given_told x n ≡ told_why (why_no_more x) n
given_told_lem stop.Full n = refl
given_told_lem stop.Over n = refl
given_told_lem (stop.Refused x) n = refl

module _ (s : Store) (w p : List ℕ) where
  -- one state of the walk
  abbrev before : WalkState
  before = walk_state (walk_tokens w) (walk_start w) (walk_depth w) (walk_coming w) p

  one_call : (c : WalkCall) (r r' : Returned WalkAnswer WalkState) → WalkDone (entries s) (walk_root w) before c r → WalkDone (entries s) (walk_root w) before c r' → r ≡ r'
  one_call c r r' a b = walk_same (entries s) (walk_root w) (walk_root w) refl before c r r' a b

  pub many_once : (w₁ w₂ p₁ p₂ e e₁ e₂ m m₁ m₂ : List ℕ) (x₁ x₂ : ℕ) → WalkGives s (both w w₁) (both p p₁) (both e e₁) (both m m₁) x₁
      → WalkGives s (both w w₂) (both p p₂) (both e e₂) (both m m₂) x₂ → (w₁ ≡ w₂) × (p₁ ≡ p₂) × (e₁ ≡ e₂) × SameOutput m₁ m₂ x₁ x₂
  many_once w₁ w₂ p₁ p₂ e e₁ e₂ m m₁ m₂ x₁ x₂ a b =
      let z = one_call (WalkCall.many e) _ _ a.carried b.carried in
      let y = ap (λ r. many_of r.answer) z in
      let t = ap (λ r. r.state) z in (
        a.state ∙ ap₂ (moved_on w) (ap (λ (v : WalkState). v.coming) t) (ap (λ (v : WalkState). v.depth) t) ∙ sym b.state,
        ap (λ (v : WalkState). v.path) t,
        ap (λ (v : Many). v.words) y,
        same_output (given_told_lem a.given.stop a.given.count ∙ ap (λ (v : Many). told_why v.why v.count) y ∙ sym (given_told_lem b.given.stop b.given.count)) a.written b.written,
      )

abbrev told_event : ℕ → Result WalkEvent → Output
told_event d (ok (preorder.WalkEvent.enter s)) = with_words enter_outcome (s.start ∷ s.end ∷ d ∷ s.kind ∷ bit s.is_node ∷ [])
told_event d (ok (preorder.WalkEvent.leave s)) = with_words leave_outcome (s.start ∷ s.end ∷ d ∷ s.kind ∷ bit s.is_node ∷ [])
told_event d (ok preorder.WalkEvent.ended) = with_words none_outcome []
told_event d (refused n) = with_words (100 + n) []

event_told_lem : (d : ℕ) (l : List ℕ) (a : OrRefusal (Optional Event)) → EventNamed d a → event_told a ≡ told_event d (answer_as l a)
event_told_lem d l (Ok (Some (Enter e))) h = rw h refl
event_told_lem d l (Ok (Some (Leave e))) h = rw h refl
event_told_lem d l (Ok None) h = refl
event_told_lem d l (Err x) h = refl

abbrev next_of : WalkAnswer → Result WalkEvent
next_of (WalkAnswer.next r) = r
next_of (WalkAnswer.skip r) = refused 0
next_of (WalkAnswer.many k y m) = refused 0

module _ (s : Store) (w w₁ w₂ p p₁ p₂ m m₁ m₂ : List ℕ) (x₁ x₂ : ℕ) where
  pub next_once : WalkSteps s (both w w₁) (both p p₁) (both m m₁) x₁ → WalkSteps s (both w w₂) (both p p₂) (both m m₂) x₂ → (w₁ ≡ w₂) × (p₁ ≡ p₂) × SameOutput m₁ m₂ x₁ x₂
  next_once a b =
      let d = walk_depth w in
      let z = one_call s w p WalkCall.next _ _ a.carried b.carried in
      let t = ap (λ r. r.state) z in (
        a.state ∙ ap₂ (moved_on w) (ap (λ (v : WalkState). v.coming) t) (ap (λ (v : WalkState). v.depth) t) ∙ sym b.state,
        ap (λ (v : WalkState). v.path) t,
        same_output (event_told_lem d p a.step.answer a.stepped.named ∙ ap (told_event d) (ap (λ r. next_of r.answer) z) ∙ sym (event_told_lem d p b.step.answer b.stepped.named)) a.written b.written,
      )
