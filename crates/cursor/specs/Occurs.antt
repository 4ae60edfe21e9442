-- Where a number occurs below another, and the lent path that leads there. Which occurrence it is, is left to the program.
use Rattle.std.specs.Prelude.{Some, None, Ok, Err, ℕ, ◌≤◌, ◌≡◌, List, take, drop, Option as Optional}
use Rattle.std.proofs.Math.Option.{Option, none, some}
use Rattle.std.proofs.Math.Seq.{slice}
use Rattle.definitions.specs.Prelude.{Result}
use Rattle.definitions.specs.Entry.{Entry, number_at}
use Rattle.definitions.specs.Identity.{WhereIs}
use Rattle.utility_types.specs.Numbers.{OrRefusal, told}
use Rattle.cursor.specs.declared.position.Cursor.{Cursor}

-- n occurs below c, at the indexes of l' from c's depth up to d; no other index is written
pub record OccurrenceFound (es : List Entry) (n : ℕ) (c : Cursor) (l l' : List ℕ) (d : ℕ) : Type 0 where
  pub below : c.depth ≤ d
  pub most : d ≤ 64
  pub here : number_at es c.number (slice c.depth d l') ≡ some n
  pub front : take c.depth l' ≡ take c.depth l
  pub back : drop d l' ≡ drop d l

-- it occurs nowhere at or below the number m
abbrev pub Absent : List Entry → ℕ → ℕ → Type 0
Absent es n m = (p : List ℕ) → number_at es m p ≡ some n → ⊥

abbrev pub Searched : List Entry → ℕ → Cursor → List ℕ → List ℕ → Optional ℕ → Type 0
Searched es n c l l' (Some d) = OccurrenceFound es n c l l' d
Searched es n c l l' None = (l' ≡ l) × Absent es n c.number

pub record Occurs (es : List Entry) (n : ℕ) (c : Cursor) (l l' : List ℕ) (x : Optional ℕ) : Type 0 where
  pub searched : Searched es n c l l' x

-- the same as an answer
abbrev pub path_there : List ℕ → Optional ℕ → Option (List ℕ)
path_there l (Some d) = some (take d l)
path_there l None = none

abbrev pub says_where : List ℕ → OrRefusal (Optional ℕ) → Result (Option (List ℕ))
says_where l x = told (path_there l) x

abbrev pub OccurrenceKept : List ℕ → List ℕ → OrRefusal (Optional ℕ) → Type 0
OccurrenceKept l l' (Ok (Some d)) = (d ≤ 64) × (drop d l' ≡ drop d l)
OccurrenceKept l l' (Ok None) = l' ≡ l
OccurrenceKept l l' (Err r) = l' ≡ l

pub record WhereIsAnswer (es : List Entry) (n r : ℕ) (l l' : List ℕ) (x : OrRefusal (Optional ℕ)) : Type 0 where
  pub says : WhereIs es n r (says_where l' x)
  pub kept : OccurrenceKept l l' x
