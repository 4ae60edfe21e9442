-- What is known of a number that names an entry: where its words lie, and what each says. Assumes nothing.
use Prim.Native.Nat.{ℕ, suc, ◌+◌, ◌*◌, ◌/◌, ◌≤◌, ◌<◌}
use native.Mathlib.Omega.{arith}
use mathlib.Core.Path.{◌≡◌, refl, sym, ap, ◌∙◌}
use mathlib.Core.List.{◌∷◌, ◌++◌}
use mathlib.Core.Bool.{Bool, true, false, cond}
use lib.ListN.{length, get_or, take, drop}
use lib.Seq.{split_at}
use lib.Dec.{ltb}
use Rattle.definitions.specs.Tree.{Tree, token, node, is_node}
use Rattle.definitions.specs.Entry.{Entry, absent, entry_at, tree_at, child_places, text_bytes, own_bytes}
use Rattle.definitions.proofs.Limits.{Room, entries_room}
use Rattle.definitions.proofs.Entries.{child_places_append, text_bytes_append}
use Rattle.green.specs.Layout.{tag, words_of}
use Rattle.green.specs.Store.{Store, lent, entries}
use Rattle.green.specs.Valid.{Valid, Known}
use Rattle.green.proofs.Lists.{slice_at}
use Rattle.green.proofs.Reading.{words_at_lem}

-- the counts that are lent are those of the entries
pub count_records : (s : Store) → Valid s → get_or s.used 0 0 ≡ length (entries s)
count_records s v = ap (λ u. get_or u 0 0) v.counts

pub count_children : (s : Store) → Valid s → get_or s.used 1 0 ≡ child_places (entries s)
count_children s v = ap (λ u. get_or u 1 0) v.counts

pub count_text : (s : Store) → Valid s → get_or s.used 2 0 ≡ text_bytes (entries s)
count_text s v = ap (λ u. get_or u 2 0) v.counts

pub known : (s : Store) → Valid s → (n : ℕ) → n < get_or s.used 0 0 → Known s n
known s v n h = record { valid = v; within = omega (arith, count_records s v) }

pub valid_room : (s : Store) → Valid s → Room (lent s) (length (entries s)) (child_places (entries s)) (text_bytes (entries s))
valid_room s v = entries_room (lent s) (entries s) v.room

module _ (s : Store) (n : ℕ) (k : Known s n) where
  pub record_bound : n * 8 + 8 ≤ length s.records
  record_bound = let r = valid_room s k.valid in let h : n + 1 ≤ length s.records / 8 = omega (arith, r.records_lent, k.within) in omega arith

  pub number_bound : n < 8192
  number_bound = omega (arith, (valid_room s k.valid).records_most, k.within)

  -- word f is the entry's
  pub field : (f : ℕ) → f < 8 → get_or s.records (n * 8 + f) 0 ≡ get_or (words_of (entries s) n) f 0
  field f h = sym (slice_at s.records (n * 8) (n * 8 + 8) f 0 (omega arith)) ∙ ap (λ ws. get_or ws f 0) (words_at_lem s (entries s) k.valid n k.within)

-- the places of a record lie among those in use
module _ (s : Store) (n : ℕ) (k : Known s n) where
  parts : entries s ≡ take n (entries s) ++ (entry_at (entries s) n ∷ drop (suc n) (entries s))
  parts = split_at (entries s) n absent k.within

  pub children_bound : child_places (take n (entries s)) + length (entry_at (entries s) n).children ≤ length s.children
  unfolding child_places
  children_bound =
      omega (arith, ap child_places parts ∙ child_places_append (take n (entries s)) (entry_at (entries s) n ∷ drop (suc n) (entries s)), (valid_room s k.valid).children_lent)

  pub text_bound : text_bytes (take n (entries s)) + own_bytes (tree_at (entries s) n) ≤ length s.text
  unfolding text_bytes
  text_bound =
      omega (arith, ap text_bytes parts ∙ text_bytes_append (take n (entries s)) (entry_at (entries s) n ∷ drop (suc n) (entries s)), (valid_room s k.valid).text_lent)

pub tag_node : (e : Entry) → ltb 0 (tag e) ≡ is_node e.tree
unfolding tag is_node
tag_node e = go e.tree e.event
  where
    go : (t : Tree) (b : Bool) → ltb 0 (cond (is_node t) (cond b 1 2) 0) ≡ is_node t
    go (token k b) v = refl
    go (node k f) true = refl
    go (node k f) false = refl
