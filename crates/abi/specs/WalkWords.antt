-- A walk's state as words: what comes next (0 its first event, 1 Enter, 2 Leave, any other number: it is over), how many indexes of the path
-- lead there, how many led to its start, its root's number, and whether tokens count. All zeros is a new walk of root 0, of nodes only.
use Rattle.std.specs.Prelude.{ℕ, zero, suc, ◌≤◌, List, [], ◌∷◌, Bool, get_or, Ok, Err}
use Rattle.std.proofs.lemmas.List.Edits.{sets}
use Rattle.preorder.specs.declared.state.Coming.{Coming}
use Rattle.preorder.specs.declared.state.Coming.TheVariants.{First, Enter, Leave, Ended}
use Rattle.abi.specs.Codes.{flag}
use Rattle.abi.specs.Outcomes.{bit}
use Rattle.utility_types.specs.Numbers.{OrRefusal}
use Rattle.preorder.specs.declared.state.Ahead.{Ahead}

abbrev pub coming_in : ℕ → Coming
coming_in zero = First
coming_in (suc zero) = Enter
coming_in (suc (suc zero)) = Leave
coming_in (suc (suc (suc n))) = Ended

abbrev pub coming_word : Coming → ℕ
coming_word First = 0
coming_word Enter = 1
coming_word Leave = 2
coming_word Ended = 3

abbrev pub walk_coming : List ℕ → Coming
walk_coming w = coming_in (get_or w 0 0)

abbrev pub walk_depth : List ℕ → ℕ
walk_depth w = get_or w 1 0

abbrev pub walk_start : List ℕ → ℕ
walk_start w = get_or w 2 0

abbrev pub walk_root : List ℕ → ℕ
walk_root w = get_or w 3 0

abbrev pub walk_tokens : List ℕ → Bool
walk_tokens w = flag (get_or w 4 0)

-- THE INVARIANT of the words: a path has at most 64 indexes
pub record WalkInWords (w : List ℕ) : Type 0 where
  pub short : walk_depth w ≤ 64

-- what comes next is moved on; the other words stay
abbrev pub moved_on : List ℕ → Coming → ℕ → List ℕ
moved_on w c d = sets w 0 (coming_word c ∷ d ∷ [])

-- a walk that has begun at `depth` indexes, or has not
abbrev pub begun_in : List ℕ → ℕ → Bool → OrRefusal Ahead → List ℕ
begun_in w root tokens (Ok a) = sets w 0 (coming_word a.coming ∷ a.depth ∷ a.depth ∷ root ∷ bit tokens ∷ [])
begun_in w root tokens (Err x) = w

-- a walk that was skipped on, or was not
abbrev pub skipped_in : List ℕ → OrRefusal Ahead → List ℕ
skipped_in w (Ok a) = moved_on w a.coming a.depth
skipped_in w (Err x) = w
