-- What is asked where a text is sliced. Assumes nothing.
use Prim.Native.Nat.{ℕ, ◌+◌, ◌-◌, ◌≤◌, ◌<◌}
use native.Mathlib.Omega.{arith}
use mathlib.Core.Path.{◌≡◌, refl, sym, ap, ◌∙◌}
use mathlib.Core.List.{List}
use mathlib.Core.Bool.{Bool, true, false, cond, ◌&&◌}
use borrow.Author.Tests.{lt-ltb, le-ltb}
use Rattle.definitions.specs.Prelude.{Result, ok, refused, and_then}
use Rattle.definitions.specs.Refusal.{is_range_outside}
use Rattle.definitions.specs.SyntaxText.{SyntaxText, of_text, len, slice, part, bytes, is_char_boundary}
use Rattle.definitions.specs.Query.{TextQuestion, Answer, ask_text}
use Rattle.green.specs.Store.{Store, entries}
use Rattle.cursor.specs.declared.position.Cursor.{Cursor}
use Rattle.syntax_text.specs.Text.{text_at, asked_text, Checks}
use Rattle.syntax_text.specs.Piece.{bytes_at}
use Rattle.syntax_text.proofs.Testing.{Single, answered, text_within}
use Rattle.syntax_text.proofs.Finding.{held_bytes}
use Rattle.std.specs.Prelude.{Ok}
use Rattle.utility_types.specs.Numbers.{OrRefusal}

-- the slice f..g of the text x, whose bytes are bs
abbrev sliced : List ℕ → SyntaxText → ℕ → ℕ → Result Answer
sliced bs x f g =
    cond (is_range_outside 0 (x.stop - x.start) f g) (refused 5)
    (cond (is_char_boundary bs f && is_char_boundary bs g) (ok (Answer.text (record { node = x.node; start = x.start + f; stop = x.start + g }))) (refused 5))

pub slice_is : (f g : ℕ) → Single (TextQuestion.slice f g) (λ t x. sliced (bytes t x) x f g)
unfolding ask_text slice len and_then
slice_is f g t x =
    go (is_range_outside 0 (x.stop - x.start) f g) (is_char_boundary (bytes t x) f && is_char_boundary (bytes t x) g) (record { node = x.node; start = x.start + f; stop = x.start + g })
  where
    go : (o c : Bool) (y : SyntaxText)
        → of_text t x (and_then (cond o (refused 5) (cond c (ok y) (refused 5))) (λ y. ok (Answer.text y))) ≡ of_text t x (cond o (refused 5) (cond c (ok (Answer.text y)) (refused 5)))
    go true c y = refl
    go false true y = refl
    go false false y = refl

module _ {s : Store} {r depth : ℕ} {l : List ℕ} {a b : ℕ} {x : OrRefusal Cursor} (c : Checks s r depth l a b x) {p : Cursor} (h : x ≡ Ok p) (f g : ℕ) where
  abbrev own : List ℕ
  own = part p.start (bytes_at (entries s) p) a b

  slice_asked : asked_text (entries s) r depth l a b (TextQuestion.slice f g) ≡ sliced own (text_at depth l a b) f g
  slice_asked = sym (answered c (TextQuestion.slice f g) _ (slice_is f g) h) ∙ ap (λ bs. sliced bs (text_at depth l a b) f g) (held_bytes (text_within c h))

  pub slice_back : g < f → refused 5 ≡ asked_text (entries s) r depth l a b (TextQuestion.slice f g)
  unfolding is_range_outside
  slice_back k = sym (slice_asked ∙ rw (lt-ltb g f k) refl)

  pub slice_past : f ≤ g → b - a < g → refused 5 ≡ asked_text (entries s) r depth l a b (TextQuestion.slice f g)
  unfolding is_range_outside
  slice_past k m = sym (slice_asked ∙ rw (le-ltb g f k, le-ltb f 0 (omega arith), lt-ltb (b - a) g m) refl)

  module _ (k : f ≤ g) (m : g ≤ b - a) {t : Bool} (i : t ≡ is_char_boundary own f) where
    in_range : asked_text (entries s) r depth l a b (TextQuestion.slice f g) ≡ cond (t && is_char_boundary own g) (ok (Answer.text (text_at depth l (a + f) (a + g)))) (refused 5)
    unfolding is_range_outside
    in_range = slice_asked ∙ rw (i, le-ltb g f k, le-ltb f 0 (omega arith), le-ltb (b - a) g m) refl

    pub slice_cut : t ≡ false → refused 5 ≡ asked_text (entries s) r depth l a b (TextQuestion.slice f g)
    slice_cut e = sym (in_range ∙ rw e refl)

    module _ (e : t ≡ true) {u : Bool} (j : u ≡ is_char_boundary own g) where
      pub slice_cut_end : u ≡ false → refused 5 ≡ asked_text (entries s) r depth l a b (TextQuestion.slice f g)
      slice_cut_end y = sym (in_range ∙ rw (e, ← j, y) refl)

      pub slice_within : u ≡ true → ok (Answer.text (text_at depth l (a + f) (a + g))) ≡ asked_text (entries s) r depth l a b (TextQuestion.slice f g)
      slice_within y = sym (in_range ∙ rw (e, ← j, y) refl)
