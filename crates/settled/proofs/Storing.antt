-- What the calls that write a store promise, and what those that read its records promise, is one outcome. Assumes nothing.
use Prim.Native.Nat.{ℕ, ◌+◌, ◌*◌}
use mathlib.Core.Path.{◌≡◌, refl, sym, ap, subst, ◌∙◌}
use mathlib.Core.List.{List, [], ◌∷◌, ◌++◌}
use mathlib.Core.Option.{Option, none, some}
use lib.ListN.{length, get_or, take, drop, take-append-drop}
use Rattle.definitions.specs.Prelude.{Result, ok, refused}
use Rattle.definitions.specs.Entry.{child_places, text_bytes}
use Rattle.definitions.specs.NodeCache.{Made as Making}
use Rattle.definitions.specs.Run.{End, root, refused_at}
use Rattle.utility_types.specs.Numbers.{made_number, OrRefusal}
use Rattle.green.specs.Store.{Store, store, entries, both, Untouched}
use Rattle.green.specs.Valid.{Valid, Encodes}
use Rattle.green.specs.Answers.{RecordFields, Place, summarized, placed}
use Rattle.green_new.specs.Done.{Done}
use Rattle.sheet_run.specs.RunDone.{end_of, RunDone}
use Rattle.notes_tree.specs.History.{Edit}
use Rattle.abi.specs.Outcomes.{Output, with_words, number_outcome, element_kind, ended_told, made_told, summary_told, child_told, SameOutput}
use Rattle.abi.proofs.Telling.{same_output}
use Rattle.notes_tree_ffi.specs.Exports.{RunExported, EditExported, ElementExported, ChildExported}
use Rattle.std.specs.Prelude.{Ok, Err}
use Rattle.green.specs.declared.element.Summary.{Summary}
use Rattle.green.specs.declared.node.Child.{Child}
use Rattle.sheet.specs.Ended.{Ended}

-- a store is fixed by its entries and by what a call left past them
same_list : (k : ℕ) (a b : List ℕ) → take k a ≡ take k b → drop k a ≡ drop k b → a ≡ b
same_list k a b t d = sym (take-append-drop k a) ∙ ap (λ l. l ++ drop k a) t ∙ ap (λ l. take k b ++ l) d ∙ take-append-drop k b

module _ (s s₁ s₂ : Store) (v₁ : Valid s₁) (v₂ : Valid s₂) (u₁ : Untouched s s₁) (u₂ : Untouched s s₂) (e : entries s₁ ≡ entries s₂) where
  w₂ : Encodes s₂ (entries s₁)
  w₂ = subst (Encodes s₂) (sym e) v₂

  used_same : s₁.used ≡ s₂.used
  used_same = v₁.counts ∙ sym w₂.counts

  records_same : s₁.records ≡ s₂.records
  records_same =
      let es = entries s₁ in
      let d₁ : drop (length es * 8) s₁.records ≡ drop (length es * 8) s.records = subst (λ n. drop (n * 8) s₁.records ≡ drop (n * 8) s.records) (ap (λ l. get_or l 0 0) v₁.counts) u₁.records in
      let d₂ : drop (length es * 8) s₂.records ≡ drop (length es * 8) s.records = subst (λ n. drop (n * 8) s₂.records ≡ drop (n * 8) s.records) (ap (λ l. get_or l 0 0) w₂.counts) u₂.records in
      same_list (length es * 8) s₁.records s₂.records (v₁.records ∙ sym w₂.records) (d₁ ∙ sym d₂)

  children_same : s₁.children ≡ s₂.children
  children_same =
      let es = entries s₁ in
      let d₁ : drop (child_places es) s₁.children ≡ drop (child_places es) s.children = subst (λ n. drop n s₁.children ≡ drop n s.children) (ap (λ l. get_or l 1 0) v₁.counts) u₁.children in
      let d₂ : drop (child_places es) s₂.children ≡ drop (child_places es) s.children = subst (λ n. drop n s₂.children ≡ drop n s.children) (ap (λ l. get_or l 1 0) w₂.counts) u₂.children in
      same_list (child_places es) s₁.children s₂.children (v₁.children ∙ sym w₂.children) (d₁ ∙ sym d₂)

  text_same : s₁.text ≡ s₂.text
  text_same =
      let es = entries s₁ in
      let d₁ : drop (text_bytes es) s₁.text ≡ drop (text_bytes es) s.text = subst (λ n. drop n s₁.text ≡ drop n s.text) (ap (λ l. get_or l 2 0) v₁.counts) u₁.text in
      let d₂ : drop (text_bytes es) s₂.text ≡ drop (text_bytes es) s.text = subst (λ n. drop n s₂.text ≡ drop n s.text) (ap (λ l. get_or l 2 0) w₂.counts) u₂.text in
      same_list (text_bytes es) s₁.text s₂.text (v₁.text ∙ sym w₂.text) (d₁ ∙ sym d₂)

  pub store_same : s₁ ≡ s₂
  store_same =
      ap (λ l. store l s₁.children s₁.text s₁.used) records_same
      ∙ ap (λ l. store s₂.records l s₁.text s₁.used) children_same
      ∙ ap (λ l. store s₂.records s₂.children l s₁.used) text_same
      ∙ ap (λ l. store s₂.records s₂.children s₂.text l) used_same

-- an edit, and whatever else makes records: every byte of the store, and the number
done_store : (s s₁ s₂ : Store) {r : Result Making} {a₁ a₂ : OrRefusal ℕ} → Done s s₁ r a₁ → Done s s₂ r a₂ → s₁ ≡ s₂
done_store s s₁ s₂ d₁ d₂ = store_same s s₁ s₂ d₁.valid d₂.valid d₁.untouched d₂.untouched (d₁.spells ∙ sym d₂.spells)

-- a run: every byte of the store, the yields and the end
run_store : (s s₁ s₂ : Store) {sheet source : List ℕ} {r₁ r₂ : Ended} → RunDone (both s s₁) sheet source r₁ → RunDone (both s s₂) sheet source r₂ → s₁ ≡ s₂
run_store s s₁ s₂ d₁ d₂ = store_same s s₁ s₂ d₁.valid d₂.valid d₁.untouched d₂.untouched (d₁.spells ∙ sym d₂.spells)

-- what is told is a function of document 01's answer
abbrev told_number : Result ℕ → Output
told_number (ok n) = with_words number_outcome (n ∷ [])
told_number (refused n) = with_words (100 + n) []

made_told_lem : (a : OrRefusal ℕ) → made_told a ≡ told_number (made_number a)
made_told_lem (Ok n) = refl
made_told_lem (Err x) = refl

abbrev told_end : End → Output
told_end (root n) = with_words number_outcome (n ∷ [])
told_end (refused_at n i) = with_words (100 + n) (i ∷ [])

ended_told_lem : (a : Ended) → ended_told a ≡ told_end (end_of a)
ended_told_lem (Ok n) = refl
ended_told_lem (Err (x, i)) = refl

abbrev told_fields : Result RecordFields → Output
told_fields (ok f) = with_words (element_kind f.is_node) (f.kind ∷ f.len ∷ f.size ∷ f.height ∷ f.children ∷ [])
told_fields (refused n) = with_words (100 + n) []

summary_told_lem : (a : OrRefusal Summary) → summary_told a ≡ told_fields (summarized a)
summary_told_lem (Ok s) = refl
summary_told_lem (Err x) = refl

abbrev told_place : Result Place → Output
told_place (ok p) = with_words number_outcome (p.number ∷ p.offset ∷ [])
told_place (refused n) = with_words (100 + n) []

child_told_lem : (a : OrRefusal Child) → child_told a ≡ told_place (placed a)
child_told_lem (Ok c) = refl
child_told_lem (Err x) = refl

pub run_once : (s s₁ s₂ : Store) (y y₁ y₂ sheet source m m₁ m₂ : List ℕ) (x₁ x₂ : ℕ)
    → RunExported (both s s₁) (both y y₁) sheet source (both m m₁) x₁ → RunExported (both s s₂) (both y y₂) sheet source (both m m₂) x₂
    → (s₁ ≡ s₂) × (y₁ ≡ y₂) × SameOutput m₁ m₂ x₁ x₂
run_once s s₁ s₂ y y₁ y₂ sheet source m m₁ m₂ x₁ x₂ a b = (
  run_store s s₁ s₂ a.done b.done,
  a.yielded ∙ sym b.yielded,
  same_output (ended_told_lem a.ended ∙ ap told_end (a.done.answers ∙ sym b.done.answers) ∙ sym (ended_told_lem b.ended)) a.written b.written,
)

pub edit_once : (s s₁ s₂ : Store) (o : Option Edit) (m m₁ m₂ : List ℕ) (x₁ x₂ : ℕ) → EditExported (both s s₁) o (both m m₁) x₁ → EditExported (both s s₂) o (both m m₂) x₂
    → (s₁ ≡ s₂) × SameOutput m₁ m₂ x₁ x₂
edit_once s s₁ s₂ none m m₁ m₂ x₁ x₂ a b =
    let c = a.foreign refl in
    let d = b.foreign refl in
    (c.store ∙ sym d.store, same_output refl c.written d.written)
edit_once s s₁ s₂ (some e) m m₁ m₂ x₁ x₂ a b =
    let c = a.known e refl in
    let d = b.known e refl in (
      done_store s s₁ s₂ c.done d.done,
      same_output (made_told_lem c.made ∙ ap told_number (c.done.answers ∙ sym d.done.answers) ∙ sym (made_told_lem d.made)) c.written d.written,
    )

pub element_once : (s : Store) (n : ℕ) (m m₁ m₂ : List ℕ) (x₁ x₂ : ℕ) → ElementExported s n (both m m₁) x₁ → ElementExported s n (both m m₂) x₂ → SameOutput m₁ m₂ x₁ x₂
element_once s n m m₁ m₂ x₁ x₂ a b = same_output (summary_told_lem a.of ∙ ap told_fields (a.is ∙ sym b.is) ∙ sym (summary_told_lem b.of)) a.written b.written

pub child_once : (s : Store) (n k : ℕ) (m m₁ m₂ : List ℕ) (x₁ x₂ : ℕ) → ChildExported s n k (both m m₁) x₁ → ChildExported s n k (both m m₂) x₂ → SameOutput m₁ m₂ x₁ x₂
child_once s n k m m₁ m₂ x₁ x₂ a b = same_output (child_told_lem a.of ∙ ap told_place (a.is ∙ sym b.is) ∙ sym (child_told_lem b.of)) a.written b.written
