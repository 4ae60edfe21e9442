-- Document 02's line numbers: the newlines of a text, the line of an offset, and where a line starts.
use Rattle.std.specs.Prelude.{ℕ, zero, suc, ◌+◌, List, [], ◌∷◌, Bool, cond, ◌||◌, length, take, eqb, ltb}
use Rattle.definitions.specs.Prelude.{Result, ok, refused}
use Rattle.definitions.specs.Tree.{Tree, Forest, text, texts}

-- how many newline bytes there are among some bytes, and in the text of an element or of several
unfoldable pub newlines_in : List ℕ → ℕ
newlines_in [] = 0
newlines_in (x ∷ b) = cond (eqb x 10) 1 0 + newlines_in b

unfoldable pub newlines : Tree → ℕ
newlines t = newlines_in (text t)

unfoldable pub newlines_of : Forest → ℕ
newlines_of f = newlines_in (texts f)

-- the line of an offset: 1 plus the newlines before it
unfoldable pub line_at : List ℕ → ℕ → ℕ
line_at b x = suc (newlines_in (take x b))

-- the offset behind newline j + 1; the length, if there are not so many
unfoldable pub after_newline : List ℕ → ℕ → ℕ
after_newline [] j = 0
after_newline (x ∷ b) zero = cond (eqb x 10) 1 (suc (after_newline b zero))
after_newline (x ∷ b) (suc j) = suc (cond (eqb x 10) (after_newline b j) (after_newline b (suc j)))

-- line 1 starts at 0, and line k at the offset behind newline k - 1
unfoldable pub start_at : List ℕ → ℕ → ℕ
start_at b zero = 0
start_at b (suc zero) = 0
start_at b (suc (suc j)) = after_newline b j

-- refusal 5: an offset past the text; line 0, or a line over 1 plus all newlines
unfoldable pub is_past_text : List ℕ → ℕ → Bool
is_past_text b x = ltb (length b) x

unfoldable pub is_no_line : List ℕ → ℕ → Bool
is_no_line b k = eqb k 0 || ltb (1 + newlines_in b) k

-- the two questions of a root's text
unfoldable pub line_of : Tree → ℕ → Result ℕ
line_of t x = cond (is_past_text (text t) x) (refused 5) (ok (line_at (text t) x))

unfoldable pub line_start : Tree → ℕ → Result ℕ
line_start t k = cond (is_no_line (text t) k) (refused 5) (ok (start_at (text t) k))
