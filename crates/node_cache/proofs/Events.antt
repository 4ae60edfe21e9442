-- What an event has done: it reused the entry that a search found, was refused, or made a new one. Assumes nothing.
use Prim.Native.Nat.{ℕ, ◌+◌}
use mathlib.Core.Path.{◌≡◌, refl, sym, ap, ap₂, ◌∙◌}
use mathlib.Core.List.{[], ◌∷◌, ◌++◌}
use mathlib.Core.Bool.{Bool, true, false, not, not-not}
use mathlib.Core.Option.{none}
use lib.ListN.{length, get_or}
use Rattle.definitions.specs.Prelude.{Result, ok, option}
use Rattle.definitions.specs.Entry.{Entry, child_places, text_bytes, own_bytes}
use Rattle.definitions.specs.Refusal.{is_too_large, exceeds_room, is_overfull}
use Rattle.definitions.specs.NodeCache.{Made, reuse, push, share}
use Rattle.definitions.proofs.Entries.{overfull_push}
use Rattle.utility_types.specs.declared.Refusal.TheVariants.{TooLarge, NoRoom}
use Rattle.green.specs.Store.{Store, entries, lent, limits}
use Rattle.green.specs.Valid.{Valid}
use Rattle.green.proofs.Known.{count_records}
use Rattle.green_new.specs.Ready.{has_room, Pushed}
use Rattle.green_new.specs.Done.{Done}
use Rattle.green_new.proofs.Making.{done_none, done_refused, done_pushed, push_large, push_full, push_one}
use Rattle.node_cache.specs.Search.{found}
use Rattle.std.specs.Prelude.{Ok, Err, Some, None, Option as Optional}

module _ {s : Store} (v : Valid s) (e : Entry) (r : Optional ℕ) (f : found r ≡ reuse (entries s) e.tree) where
  abbrev result : Result Made
  result = share (limits s) (entries s) e

  pub event_found : {n : ℕ} → r ≡ Some n → Done s s result (Ok n)
  unfolding share option
  event_found p = let z = sym f ∙ ap found p in done_none v (rw z) (rw z)

  module _ (p : r ≡ None) where
    pub event_missing : reuse (entries s) e.tree ≡ none
    event_missing = sym f ∙ ap found p

    new : result ≡ push (limits s) (entries s) (e ∷ []) (length (entries s))
    unfolding share option
    new = rw event_missing

    pub event_large : is_too_large e.tree ≡ true → Done s s result (Err TooLarge)
    event_large l = done_refused v (new ∙ push_large (limits s) (entries s) e (length (entries s)) l) refl

    -- by the test of room for what the entry has of its own
    module _ (small : is_too_large e.tree ≡ false) {places bytes : ℕ} (own : places ≡ length e.children) (text : bytes ≡ own_bytes e.tree)
        {b : Bool} (room : b ≡ has_room s 1 places bytes) where
      overfull : is_overfull (lent s) (entries s ++ (e ∷ [])) ≡ not b
      overfull =
          overfull_push (lent s) (entries s) e
          ∙ ap₂ (λ c t. exceeds_room (lent s) (length (entries s) + 1) (child_places (entries s) + c) (text_bytes (entries s) + t)) (sym own) (sym text)
          ∙ sym (ap not room ∙ not-not _)

      pub event_full : not b ≡ true → Done s s result (Err NoRoom)
      event_full q = done_refused v (new ∙ push_full (lent s) (entries s) e (length (entries s)) small (overfull ∙ q)) refl

      module _ (q : not b ≡ false) where
        pub event_room : is_overfull (lent s) (entries s ++ (e ∷ [])) ≡ false
        event_room = overfull ∙ q

        pub event_made : {s' : Store} → Pushed s s' e → Done s s' result (Ok (get_or s.used 0 0))
        event_made u = rw (new, push_one (lent s) (entries s) e (length (entries s)) small event_room) (done_pushed u (ap ok (count_records s v)))
