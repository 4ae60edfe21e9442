-- Laws of outcomes, words and codes. Assumes nothing.
use Prim.Native.Nat.{ℕ, zero, suc, ◌≤◌}
use native.Mathlib.Omega.{arith}
use mathlib.Core.Path.{◌≡◌, refl, sym, ap, ◌∙◌}
use mathlib.Core.List.{List, [], ◌∷◌}
use mathlib.Core.Option.{none}
use mathlib.Core.Bool.{not}
use lib.Dec.{eqb}
use borrow.Author.Tests.{ne_eqb}
use lib.ListN.{length, get_elem?}
use lib.Seq.{sets}
use Rattle.std.specs.Prelude.{Some, None, Ok, Err, Option as Optional}
use Rattle.std.proofs.Common.{inl, inr}
use Rattle.utility_types.specs.Numbers.{OrRefusal}
use Rattle.preorder.specs.declared.state.Coming.TheVariants.{Ended}
use Rattle.abi.specs.Outcomes.{Output, with_words, OutputWritten, SameOutput, chunk_told, part_told}
use Rattle.syntax_text_chunks.specs.declared.chunks.Part.{Part}
use Rattle.syntax_text_chunks.specs.Chunks.{outcome_of, part_in, RefusedAsText}
use Rattle.abi.specs.Codes.{flag}
use Rattle.abi.specs.WalkWords.{coming_in}

-- an outcome without words
pub wordless : {n r : ℕ} {m : List ℕ} → r ≡ n → OutputWritten (with_words n []) m m r
wordless h = record { outcome = h; words = refl }

-- two calls that tell the same, with the same words lent
pub same_output : {t u : Output} {m m₁ m₂ : List ℕ} {x₁ x₂ : ℕ} → t ≡ u → OutputWritten t m m₁ x₁ → OutputWritten u m m₂ x₂ → SameOutput m₁ m₂ x₁ x₂
same_output {m = m} e a b = record {
  outcome = a.outcome ∙ ap (λ (o : Output). o.outcome) e ∙ sym b.outcome;
  words = a.words ∙ ap (λ (o : Output). sets m 0 o.words) e ∙ sym b.words;
}

-- a number that is none of the n keys 0, 1, .. of a `match`
abbrev pub Misses : ℕ → ℕ → Type 0
Misses zero x = Unit {0}
Misses (suc n) x = Misses n x × (x ≡ n → ⊥)

pub missed : (n x : ℕ) → Misses n x → n ≤ x
missed zero x h = omega arith
missed (suc n) x h =
    let past : n ≤ x = missed n x h.0 in
    let other : x ≡ n → ⊥ = h.1 in
    omega (arith, past, other)

pub past_end : {A : Type 0} (l : List A) (k : ℕ) → length l ≤ k → get_elem? l k ≡ none
past_end [] k h = refl
past_end (x ∷ xs) zero h = absurd (let z : ⊥ = omega (arith, h) in z)
past_end (x ∷ xs) (suc k) h = past_end xs k (omega (arith, h))

pub flagged : (x : ℕ) → not (eqb x 0) ≡ flag x
flagged zero = refl
flagged (suc x) = rw (ne_eqb (suc x) 0 (λ e. omega arith)) refl

pub over : (x : ℕ) → 3 ≤ x → Ended ≡ coming_in x
over zero h = absurd (let z : ⊥ = omega (arith, h) in z)
over (suc zero) h = absurd (let z : ⊥ = omega (arith, h) in z)
over (suc (suc zero)) h = absurd (let z : ⊥ = omega (arith, h) in z)
over (suc (suc (suc x))) h = refl

-- what a chunk step answers, by its outcome's number
pub part_told_as : (x : OrRefusal (Optional Part)) → RefusedAsText x → chunk_told (outcome_of x) (part_in x).from (part_in x).to ≡ part_told x
part_told_as (Ok (Some r)) t = refl
part_told_as (Ok None) t = refl
part_told_as (Err why) (inl e) = rw e refl
part_told_as (Err why) (inr e) = rw e refl
