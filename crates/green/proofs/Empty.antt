-- However much is lent, a store with nothing in use is in order. Assumes nothing.
use Prim.Native.Nat.{ℕ}
use native.Mathlib.Omega.{arith}
use mathlib.Core.Path.{◌≡◌, refl}
use mathlib.Core.Bool.{false}
use mathlib.Core.List.{List, [], flat_map}
use borrow.Author.Tests.{le-ltb}
use lib.Dec.{ltb}
use Rattle.definitions.specs.Entry.{child_places, text_bytes}
use Rattle.definitions.specs.Refusal.{exceeds_room, is_overfull}
use Rattle.green.specs.Layout.{all_records, all_children, all_text}
use Rattle.green.specs.Store.{Store, counts_of, store, entries, entries_to}
use Rattle.green.specs.Valid.{Encodes, Valid}

none : (n : ℕ) → ltb n 0 ≡ false
none n = le-ltb n 0 (omega arith)

module _ (records children text : List ℕ) where
  abbrev pub empty : Store
  empty = store records children text (counts_of 0 0 0)

  pub empty_entries : entries empty ≡ []
  unfolding entries entries_to
  empty_entries = refl

  holds : Encodes empty []
  unfolding child_places text_bytes all_records all_children all_text flat_map is_overfull exceeds_room
  holds = record {
    counts = refl;
    records = refl;
    children = refl;
    text = refl;
    room = simp none;
    formed = λ i l. absurd (omega arith);
    shared = record { distinct = λ i j l m p q r e. absurd (omega arith); events = λ i l p. absurd (omega arith) };
  }

  pub empty_valid : Valid empty
  empty_valid = rw empty_entries holds
