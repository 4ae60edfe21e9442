-- When a store is in order.
use Rattle.std.specs.Prelude.{ℕ, ◌*◌, ◌<◌, ◌≡◌, List, [], ◌∷◌, false, length, take}
use mathlib.Core.Bool.{Bool-set}
use denote.Struct.Props.{props}
use Rattle.std.specs.Coded.{×_prop, Unit-prop, le_prop}
use Rattle.definitions.specs.Entry.{Entry, child_places, text_bytes}
use Rattle.definitions.specs.Refusal.{is_overfull}
unfoldable pub use Rattle.definitions.specs.WellFormed.{AllBelow, AllEvents}
pub use Rattle.definitions.specs.WellFormed.{Formed, AllFormed, Shared}
use Rattle.definitions.proofs.Once.{Tree-set, Forest-set}
use Rattle.green.specs.Layout.{all_records, all_children, all_text}
use Rattle.green.specs.Store.{Store, counts_of, lent, entries}

-- the places in use are what es is written as
pub record Encodes (s : Store) (es : List Entry) : Type 0 where
  pub counts : s.used ≡ counts_of (length es) (child_places es) (text_bytes es)
  pub records : take (length es * 8) s.records ≡ all_records 0 0 es
  pub children : take (child_places es) s.children ≡ all_children es
  pub text : take (text_bytes es) s.text ≡ all_text es
  pub room : is_overfull (lent s) es ≡ false
  pub formed : AllFormed es
  pub shared : Shared es

-- THE INVARIANT: a store is in order
abbrev pub Valid : Store → Type 0
Valid s = Encodes s (entries s)

-- and a number that names an entry
pub record Known (s : Store) (n : ℕ) : Type 0 where
  pub valid : Valid s
  pub within : n < length (entries s)

-- That a store is in order holds in one way at most, as the field of a struct that says so has to show.
pub AllBelow-prop : (i : ℕ) (ns : List ℕ) → IsProp (AllBelow i ns)
unfolding AllBelow
AllBelow-prop i [] = Unit-prop
AllBelow-prop i (n ∷ ns) = ×_prop le_prop (AllBelow-prop i ns)

pub AllEvents-prop : (es : List Entry) (ns : List ℕ) → IsProp (AllEvents es ns)
unfolding AllEvents
AllEvents-prop es [] = Unit-prop
AllEvents-prop es (n ∷ ns) = ×_prop (Bool-set _ _) (AllEvents-prop es ns)

pub ruleset valid_props = (props, AllBelow-prop, AllEvents-prop, Tree-set, Forest-set)
