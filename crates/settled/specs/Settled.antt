-- WHAT AN EXPORTED CALL PROMISES IS ONE OUTCOME: two outcomes that meet its contract, called with the same, are equal in the store, in every lent
-- byte and in what is returned. So a contract shuts out every program but those that do the same.
use Rattle.std.specs.Prelude.{ℕ, ◌≡◌, List, Bool, length, take}
use Rattle.std.proofs.Math.Option.{Option, some}
use Rattle.definitions.specs.Prelude.{Result}
use Rattle.definitions.specs.Entry.{Entry}
use Rattle.definitions.specs.Query.{Answer}
use Rattle.green.specs.Store.{Store, both}
use Rattle.green.specs.Valid.{Valid}
use Rattle.query.specs.declared.question.Question.{Question}
use Rattle.query.specs.declared.question.Question.TheVariants as question
use Rattle.notes_tree.specs.History.{Edit}
use Rattle.abi.specs.Outcomes.{SameOutput}
use Rattle.cursor_ffi.specs.Exports.{QuestionExported, TokensExported, named_token, TokenText}
use Rattle.notes_tree_ffi.specs.Exports.{RunExported, EditExported, ElementExported, ChildExported, QueryExported, WalkBegins, WalkSteps, WalkSkips, WalkGives, ChunkGives}

-- Where a number occurs is the one choice that document 01 leaves to the program, and no field speaks of that question.
pub record Settled : Type 0 where
  pub run : (s s₁ s₂ : Store) (y y₁ y₂ sheet source m m₁ m₂ : List ℕ) (x₁ x₂ : ℕ)
      → RunExported (both s s₁) (both y y₁) sheet source (both m m₁) x₁ → RunExported (both s s₂) (both y y₂) sheet source (both m m₂) x₂
      → (s₁ ≡ s₂) × (y₁ ≡ y₂) × SameOutput m₁ m₂ x₁ x₂
  pub edit : (s s₁ s₂ : Store) (o : Option Edit) (m m₁ m₂ : List ℕ) (x₁ x₂ : ℕ) → EditExported (both s s₁) o (both m m₁) x₁ → EditExported (both s s₂) o (both m m₂) x₂
      → (s₁ ≡ s₂) × SameOutput m₁ m₂ x₁ x₂
  pub element : (s : Store) (n : ℕ) (m m₁ m₂ : List ℕ) (x₁ x₂ : ℕ) → ElementExported s n (both m m₁) x₁ → ElementExported s n (both m m₂) x₂ → SameOutput m₁ m₂ x₁ x₂
  pub child : (s : Store) (n k : ℕ) (m m₁ m₂ : List ℕ) (x₁ x₂ : ℕ) → ChildExported s n k (both m m₁) x₁ → ChildExported s n k (both m m₂) x₂ → SameOutput m₁ m₂ x₁ x₂
  pub query : (s : Store) (root depth : ℕ) (p p₁ p₂ r r₁ r₂ : List ℕ) (o : Option Question) (m m₁ m₂ : List ℕ) (x₁ x₂ : ℕ)
      → length p₁ ≡ 64 → length p₂ ≡ 64 → length r₁ ≡ 64 → length r₂ ≡ 64 → ((n : ℕ) → o ≡ some (question.WhereIs n) → ⊥)
      → QueryExported s root depth (both p p₁) (both r r₁) o (both m m₁) x₁ → QueryExported s root depth (both p p₂) (both r r₂) o (both m m₂) x₂
      → (p₁ ≡ p₂) × (r₁ ≡ r₂) × SameOutput m₁ m₂ x₁ x₂
  pub question : (a : Result Answer) (p p₁ p₂ m m₁ m₂ : List ℕ) (x₁ x₂ : ℕ) → length p₁ ≡ 64 → length p₂ ≡ 64
      → QuestionExported a p p₁ m m₁ x₁ → QuestionExported a p p₂ m m₂ x₂ → SameOutput m₁ m₂ x₁ x₂ × (p₁ ≡ p₂)
  pub tokens : (a : Result Answer) (p p₁ p₂ r r₁ r₂ m m₁ m₂ : List ℕ) (x₁ x₂ : ℕ) → length p₁ ≡ 64 → length p₂ ≡ 64 → length r₁ ≡ 64 → length r₂ ≡ 64
      → TokensExported a p p₁ r r₁ m m₁ x₁ → TokensExported a p p₂ r r₂ m m₂ x₂ → SameOutput m₁ m₂ x₁ x₂ × (p₁ ≡ p₂) × (r₁ ≡ r₂)
  pub text : (es : List Entry) (b : List ℕ) (root depth : ℕ) (p m m₁ m₂ : List ℕ) (x₁ x₂ : ℕ) → TokenText es b root (take depth p) (named_token es root depth p) m m₁ x₁
      → TokenText es b root (take depth p) (named_token es root depth p) m m₂ x₂ → SameOutput m₁ m₂ x₁ x₂
  pub begin : (s : Store) (root : ℕ) (tokens : Bool) (depth : ℕ) (l w w₁ w₂ : List ℕ) (x₁ x₂ : ℕ) → WalkBegins s root tokens depth l (both w w₁) x₁ → WalkBegins s root tokens depth l (both w w₂) x₂
      → SameOutput w₁ w₂ x₁ x₂
  pub next : (s : Store) (w w₁ w₂ p p₁ p₂ m m₁ m₂ : List ℕ) (x₁ x₂ : ℕ) → WalkSteps s (both w w₁) (both p p₁) (both m m₁) x₁ → WalkSteps s (both w w₂) (both p p₂) (both m m₂) x₂
      → (w₁ ≡ w₂) × (p₁ ≡ p₂) × SameOutput m₁ m₂ x₁ x₂
  pub skip : (w w₁ w₂ : List ℕ) (x₁ x₂ : ℕ) → WalkSkips (both w w₁) x₁ → WalkSkips (both w w₂) x₂ → SameOutput w₁ w₂ x₁ x₂
  pub many : (s : Store) (w w₁ w₂ p p₁ p₂ e e₁ e₂ m m₁ m₂ : List ℕ) (x₁ x₂ : ℕ) → WalkGives s (both w w₁) (both p p₁) (both e e₁) (both m m₁) x₁
      → WalkGives s (both w w₂) (both p p₂) (both e e₂) (both m m₂) x₂ → (w₁ ≡ w₂) × (p₁ ≡ p₂) × (e₁ ≡ e₂) × SameOutput m₁ m₂ x₁ x₂
  pub chunk : (s : Store) → Valid s → (root depth : ℕ) (l : List ℕ) (start stop : ℕ) (w w₁ w₂ q q₁ q₂ text m m₁ m₂ : List ℕ) (x₁ x₂ : ℕ)
      → length w₁ ≡ 2 → length w₂ ≡ 2 → ChunkGives s root depth l start stop (both w w₁) (both q q₁) text (both m m₁) x₁
      → ChunkGives s root depth l start stop (both w w₂) (both q q₂) text (both m m₂) x₂ → (w₁ ≡ w₂) × (q₁ ≡ q₂) × SameOutput m₁ m₂ x₁ x₂
