-- A REFUSED CALL CHANGES NOTHING: an outcome over 100 leaves the store and every lent byte as it was. Only the run of a sheet is not among these calls: a refused
-- sheet keeps the events before the refused one, and names that one in the first word.
use Rattle.std.specs.Prelude.{ℕ, ◌≤◌, ◌<◌, ◌≡◌, List, Bool, length, take}
use Rattle.std.proofs.Math.Option.{Option}
use Rattle.definitions.specs.Prelude.{Result}
use Rattle.definitions.specs.Entry.{Entry}
use Rattle.definitions.specs.Query.{Answer}
use Rattle.green.specs.Store.{Store, both}
use Rattle.query.specs.declared.question.Question.{Question}
use Rattle.notes_tree.specs.History.{Edit}
use Rattle.cursor_ffi.specs.Exports.{QuestionExported, TokensExported, named_token, TokenText}
use Rattle.notes_tree_ffi.specs.Exports.{EditExported, ElementExported, ChildExported, QueryExported, WalkBegins, WalkSteps, WalkSkips, WalkGives, ChunkGives}

pub record RefusedKeeps : Type 0 where
  pub edit : (s s₁ : Store) (o : Option Edit) (m m₁ : List ℕ) (x : ℕ) → 100 < x → EditExported (both s s₁) o (both m m₁) x → (s₁ ≡ s) × (m₁ ≡ m)
  pub element : (s : Store) (n : ℕ) (m m₁ : List ℕ) (x : ℕ) → 100 < x → ElementExported s n (both m m₁) x → m₁ ≡ m
  pub child : (s : Store) (n k : ℕ) (m m₁ : List ℕ) (x : ℕ) → 100 < x → ChildExported s n k (both m m₁) x → m₁ ≡ m
  pub query : (s : Store) (root depth : ℕ) (p p₁ r r₁ : List ℕ) (o : Option Question) (m m₁ : List ℕ) (x : ℕ) → 100 < x → QueryExported s root depth (both p p₁) (both r r₁) o (both m m₁) x
      → (p₁ ≡ p) × (r₁ ≡ r) × (m₁ ≡ m)
  pub question : (a : Result Answer) (p p₁ m m₁ : List ℕ) (x : ℕ) → 100 < x → QuestionExported a p p₁ m m₁ x → (p₁ ≡ p) × (m₁ ≡ m)
  pub tokens : (a : Result Answer) (p p₁ r r₁ m m₁ : List ℕ) (x : ℕ) → 100 < x → TokensExported a p p₁ r r₁ m m₁ x → (p₁ ≡ p) × (r₁ ≡ r) × (m₁ ≡ m)
  pub text : (es : List Entry) (b : List ℕ) (root depth : ℕ) (p m m₁ : List ℕ) (x : ℕ) → 100 < x → TokenText es b root (take depth p) (named_token es root depth p) m m₁ x → m₁ ≡ m
  pub begin : (s : Store) (root : ℕ) (tokens : Bool) (depth : ℕ) (l w w₁ : List ℕ) (x : ℕ) → 100 < x → WalkBegins s root tokens depth l (both w w₁) x → w₁ ≡ w
  pub next : (s : Store) (w w₁ p p₁ m m₁ : List ℕ) (x : ℕ) → 2 ≤ length w → 100 < x → WalkSteps s (both w w₁) (both p p₁) (both m m₁) x → (w₁ ≡ w) × (p₁ ≡ p) × (m₁ ≡ m)
  pub skip : (w w₁ : List ℕ) (x : ℕ) → 100 < x → WalkSkips (both w w₁) x → w₁ ≡ w
  pub many : (s : Store) (w w₁ p p₁ e e₁ m m₁ : List ℕ) (x : ℕ) → 2 ≤ length w → 100 < x → WalkGives s (both w w₁) (both p p₁) (both e e₁) (both m m₁) x
      → (w₁ ≡ w) × (p₁ ≡ p) × (e₁ ≡ e) × (m₁ ≡ m)
  pub chunk : (s : Store) (root depth : ℕ) (l : List ℕ) (start stop : ℕ) (w w₁ q q₁ text m m₁ : List ℕ) (x : ℕ) → length w ≡ 2 → length w₁ ≡ 2 → 100 < x
      → ChunkGives s root depth l start stop (both w w₁) (both q q₁) text (both m m₁) x → (w₁ ≡ w) × (q₁ ≡ q) × (m₁ ≡ m)
