-- What a token event has done, by what `find_token` answered. Assumes nothing.
use Prim.Native.Nat.{ℕ, ◌≤◌, ◌<◌}
use mathlib.Core.Path.{◌≡◌, refl}
use mathlib.Core.List.{List}
use mathlib.Core.Bool.{Bool, true, false, not}
use lib.ListN.{length, get_or}
use borrow.Author.Tests.{lt-ltb, le-ltb}
use Rattle.definitions.specs.Tree.{token, children_of, count, height, size, text_len}
use Rattle.definitions.specs.Hash.{token_hash, hash, sharable}
use Rattle.definitions.specs.Entry.{Entry, token_entry, own_bytes}
use Rattle.definitions.specs.Refusal.{exceeds_limits, is_too_large}
use Rattle.definitions.specs.NodeCache.{find_from, reuse, share}
use Rattle.utility_types.specs.declared.Refusal.TheVariants.{TooLarge, NoRoom}
use Rattle.green.specs.Store.{Store, entries, limits}
use Rattle.green.specs.Valid.{Valid}
use Rattle.green.specs.Measure.{MeasureOf}
use Rattle.green.specs.declared.record.Measure.{Measure}
use Rattle.green_new.specs.Ready.{has_room, TokenReady, Pushed}
use Rattle.green_new.specs.Done.{Done}
use Rattle.node_cache.specs.Search.{found}
use Rattle.node_cache.proofs.Events.{event_missing, event_large, event_full, event_room, event_made}
use Rattle.std.specs.Prelude.{Ok, Err, None, Option as Optional}

-- every token is sharable
pub token_reused : (es : List Entry) (k : ℕ) (src : List ℕ) → find_from (token k src) es 0 ≡ reuse es (token k src)
unfolding reuse sharable
token_reused es k src = refl

pub token_hash_lem : {k : ℕ} {src : List ℕ} {x : Measure} → MeasureOf (token k src) x → x.hash ≡ token_hash k src
unfolding hash
token_hash_lem m = m.hash

module _ {s : Store} (v : Valid s) (k : ℕ) (src : List ℕ) (r : Optional ℕ) (f : found r ≡ reuse (entries s) (token k src)) (p : r ≡ None) where
  pub token_large : 4294967295 < length src → Done s s (share (limits s) (entries s) (token_entry k src)) (Err TooLarge)
  unfolding is_too_large exceeds_limits children_of count height size text_len
  token_large l = event_large v (token_entry k src) r f p (lt-ltb 4294967295 (length src) l)

  module _ (l : length src ≤ 4294967295) {b : Bool} (room : b ≡ has_room s 1 0 (length src)) where
    small : is_too_large (token k src) ≡ false
    unfolding is_too_large exceeds_limits children_of count height size text_len
    small = le-ltb 4294967295 (length src) l

    own : length src ≡ own_bytes (token k src)
    unfolding own_bytes
    own = refl

    pub token_full : not b ≡ true → Done s s (share (limits s) (entries s) (token_entry k src)) (Err NoRoom)
    token_full q = event_full v (token_entry k src) r f p small refl own room q

    module _ (q : not b ≡ false) where
      pub token_ready : {x : Measure} → MeasureOf (token k src) x → TokenReady s k src x
      token_ready e = record {
        new = record { valid = v; fresh = event_missing v (token_entry k src) r f p; measure = e };
        room = event_room v (token_entry k src) r f p small refl own room q;
      }

      pub token_made : {s' : Store} → Pushed s s' (token_entry k src) → Done s s' (share (limits s) (entries s) (token_entry k src)) (Ok (get_or s.used 0 0))
      token_made u = event_made v (token_entry k src) r f p small refl own room q u
