-- What calls have spelled, call after call, with the numbers that they gave for it.
use Rattle.std.specs.Prelude.{ℕ, List, [], ◌∷◌, ◌++◌}
use Rattle.definitions.specs.Tree.{Tree}
use Rattle.definitions.specs.Spelling.{Spelling, with_event, event_place, with_edit}
use Rattle.definitions.specs.TreeBuilder.{Yield}
use Rattle.definitions.specs.EditCall.{Edit, spells}

-- an element that a call spells, the number that the call yields or answers, and the place of its spelling
pub record Numbered : Type 0 where
  pub number : ℕ
  pub place : ℕ
  pub tree : Tree

-- the list of spellings; the accepted token and finish-node events; the accepted edits
pub record Log : Type 0 where
  pub spellings : List Spelling
  pub events : List Numbered
  pub edits : List Numbered

abbrev pub nothing : Log
nothing = record { spellings = []; events = []; edits = [] }

abbrev pub numbered : List Spelling → Yield → Numbered
numbered ws y = record { number = y.number; place = event_place ws y.tree; tree = y.tree }

-- an accepted event that yields a number
unfoldable pub after_event : Log → Yield → Log
after_event g y = record { spellings = with_event g.spellings y.tree; events = g.events ++ (numbered g.spellings y ∷ []); edits = g.edits }

-- an accepted edit that answers the number n
unfoldable pub after_edit : Log → Edit → ℕ → Log
after_edit g e n =
    let x = spells e g.spellings in
    record { spellings = with_edit g.spellings x.adds; events = g.events; edits = g.edits ++ (record { number = n; place = x.place; tree = x.tree } ∷ []) }
