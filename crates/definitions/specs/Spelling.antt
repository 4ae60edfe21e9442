-- The list of spellings, which is read off the calls and never off a store: document 01's *marks and sharing*.
use Rattle.std.specs.Prelude.{ℕ, suc, List, [], ◌∷◌, ◌++◌, map, Bool, true, false, cond, ◌&&◌, length, get_or}
use Rattle.std.proofs.Math.Option.{Option, none, some}
use Rattle.definitions.specs.Prelude.{option}
use Rattle.definitions.specs.Tree.{Tree, token, same}
use Rattle.definitions.specs.Hash.{sharable}
use Rattle.definitions.specs.Entry.{Entry}

-- an element that a call has spelled, and whether that call was an event
pub record Spelling : Type 0 where
  pub tree : Tree
  pub event : Bool

-- the tree that a number stands for: number 0 is the first spelling. No accepted call is given a number past the list
abbrev pub spelled_at : List Spelling → ℕ → Tree
spelled_at ws n = (get_or ws n (record { tree = token 0 []; event = false })).tree

-- where the first event stands that spelled t, the list being from place i on
unfoldable pub earlier : Tree → List Spelling → ℕ → Option ℕ
earlier t [] i = none
earlier t (w ∷ ws) i = cond (w.event && same t w.tree) (some i) (earlier t ws (suc i))

-- the place of an earlier event's spelling that an event takes for its own, if its element is sharable and there is one
unfoldable pub shared_place : List Spelling → Tree → Option ℕ
shared_place ws t = cond (sharable t) (earlier t ws 0) none

-- an accepted event: only where it shares none, its spelling is added
unfoldable pub with_event : List Spelling → Tree → List Spelling
with_event ws t = option (ws ++ (record { tree = t; event = true } ∷ [])) (λ _. ws) (shared_place ws t)

-- the place of its spelling: the shared one, or the one that is added
unfoldable pub event_place : List Spelling → Tree → ℕ
event_place ws t = option (length ws) (λ n. n) (shared_place ws t)

-- an accepted edit: whatever it spells is added
abbrev pub with_edit : List Spelling → List Tree → List Spelling
with_edit ws ts = ws ++ map (λ t. record { tree = t; event = false }) ts

-- an entry as a spelling: the numbers of its children do not enter
abbrev pub spelling : Entry → Spelling
spelling e = record { tree = e.tree; event = e.event }
