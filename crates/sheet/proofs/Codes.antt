-- An event's code, as it is read. Assumes nothing.
use Prim.Native.Nat.{ℕ}
use mathlib.Core.Path.{◌≡◌, sym, ap, ◌∙◌}
use mathlib.Core.Logic.{◌⊎◌, inl, inr}
use mathlib.Core.List.{List}
use borrow.Author.Tests.{ne_eqb}
use Rattle.std.specs.Prelude.{◌≢◌}
use Rattle.definitions.specs.Prelude.{refused}
use Rattle.definitions.specs.Entry.{Limits}
use Rattle.definitions.specs.Builder.{State}
use Rattle.definitions.specs.Run.{event, taken}
use Rattle.definitions.proofs.Judging.{no_code}
use Rattle.sheet.specs.Code.{code_of}
use Rattle.sheet.specs.declared.code.Code.{Code}
use Rattle.sheet.specs.declared.code.Code.TheVariants.{Token, StartNode, FinishNode, Checkpoint, StartNodeAt}

pub code_is : {n : ℕ} {known code : Code} → code_of known ≡ n → known ≡ code → n ≡ code_of code
code_is e p = sym e ∙ ap code_of p

module _ {n : ℕ} (none : (code : Code) → code_of code ≢ n) where
  pub unknown : (l : Limits) (s : State) (k x : ℕ) (left : List ℕ) → event l s n k x left ≡ refused 2
  unknown l s k x left = no_code l s k x left n (λ e. none Token (sym e)) (λ e. none StartNode (sym e)) (λ e. none FinishNode (sym e)) (λ e. none Checkpoint (sym e)) (λ e. none StartNodeAt (sym e))

  pub unknown_takes : (x : ℕ) → 0 ≡ taken n x
  unfolding taken
  unknown_takes x = rw (ne_eqb n 1 (λ e. none Token (sym e)))

-- a token takes the text that its operand says, and no other event takes any
pub takes : {n : ℕ} {known code : Code} (x : ℕ) → code_of known ≡ n → known ≡ code → taken (code_of code) x ≡ taken n x
takes x e p = ap (λ c. taken c x) (sym (code_is e p))

pub takes_none : {n : ℕ} {known : Code} (x : ℕ) → code_of known ≡ n → (known ≡ StartNode) ⊎ ((known ≡ FinishNode) ⊎ ((known ≡ Checkpoint) ⊎ (known ≡ StartNodeAt))) → 0 ≡ taken n x
unfolding taken
takes_none x e (inl p) = takes x e p
takes_none x e (inr (inl p)) = takes x e p
takes_none x e (inr (inr (inl p))) = takes x e p
takes_none x e (inr (inr (inr p))) = takes x e p
