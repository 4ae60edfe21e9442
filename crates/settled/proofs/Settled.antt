-- THE THEOREM: what each exported call promises is one outcome. Assumes nothing.
use mathlib.Core.Path.{refl}
use Rattle.cursor_ffi.proofs.Alike.{same_question, same_tokens}
use Rattle.settled.specs.Settled.{Settled}
use Rattle.settled.proofs.Storing.{run_once, edit_once, element_once, child_once}
use Rattle.settled.proofs.Walking.{begin_once, next_once, skip_once, many_once}
use Rattle.settled.proofs.Reading.{query_once, text_once, chunk_once}

pub settled : Settled
settled = record {
  run = run_once;
  edit = edit_once;
  element = element_once;
  child = child_once;
  query = query_once;
  question = λ a p p₁ p₂ m m₁ m₂ x₁ x₂ h k t u. same_question refl h k t u;
  tokens = λ a p p₁ p₂ r r₁ r₂ m m₁ m₂ x₁ x₂ h k f g t u. same_tokens refl h k f g t u;
  text = text_once;
  begin = begin_once;
  next = next_once;
  skip = skip_once;
  many = λ s w w₁ w₂ p p₁ p₂ e e₁ e₂ m m₁ m₂ x₁ x₂ a b. many_once s w p w₁ w₂ p₁ p₂ e e₁ e₂ m m₁ m₂ x₁ x₂ a b;
  chunk = λ s v root depth l start stop w w₁ w₂ q q₁ q₂ text m m₁ m₂ x₁ x₂ h k a b. chunk_once s v root depth l start stop w w₁ w₂ q q₁ q₂ text m m₁ m₂ x₁ x₂ h k a b;
}
