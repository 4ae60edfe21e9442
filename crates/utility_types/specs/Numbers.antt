-- Which of document 01's numbers a refusal is, and which number and kind of element a record's name is.
use Rattle.std.specs.Prelude.{ℕ, Bool, true, false, Ok, Err}
use Rattle.std.specs.Prelude.{Result as Fallible}
use Rattle.utility_types.specs.declared.Refusal.{Refusal}
use Rattle.utility_types.specs.declared.Refusal.TheVariants.{Malformed, BadEvent, BadText, NoSuchElement, OutOfRange, OtherKind, NothingOpen, UnfitCheckpoint, Unfinished, TooLarge, NoRoom, SkipBeforeFirst}
use Rattle.definitions.specs.Prelude.{Result, ok, refused}
use Rattle.utility_types.specs.declared.NodeOrToken.{NodeOrToken}
use Rattle.utility_types.specs.declared.NodeOrToken.TheVariants.{Node, Token}

abbrev pub refusal_number : Refusal → ℕ
refusal_number Malformed = 1
refusal_number BadEvent = 2
refusal_number BadText = 3
refusal_number NoSuchElement = 4
refusal_number OutOfRange = 5
refusal_number OtherKind = 6
refusal_number NothingOpen = 11
refusal_number UnfitCheckpoint = 12
refusal_number Unfinished = 13
refusal_number TooLarge = 14
refusal_number NoRoom = 15
refusal_number SkipBeforeFirst = 16

abbrev pub number_of : NodeOrToken → ℕ
number_of (Node n) = n
number_of (Token n) = n

abbrev pub is_node_of : NodeOrToken → Bool
is_node_of (Node n) = true
is_node_of (Token n) = false

-- a value of A, or why the call is turned down
abbrev pub OrRefusal : Type 0 → Type 0
OrRefusal A = Fallible A Refusal

-- WHAT AN ANSWER SAYS: the value as f writes it, or the number of the refusal
abbrev pub told : {A B : Type 0} → (A → B) → OrRefusal A → Result B
told f (Ok x) = ok (f x)
told f (Err r) = refused (refusal_number r)

-- what a call that makes records answers: the number of its element
abbrev pub made_number : OrRefusal ℕ → Result ℕ
made_number x = told (λ n. n) x
