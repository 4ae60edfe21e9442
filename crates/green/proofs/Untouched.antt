-- Places past those in use that no call wrote. Assumes nothing.
use Prim.Native.Nat.{ℕ, ◌*◌, ◌≤◌}
use native.Mathlib.Omega.{arith}
use mathlib.Core.Path.{refl, ap, ◌∙◌}
use mathlib.Core.List.{List}
use lib.ListN.{length, get_or, length-append}
use Rattle.std.specs.Borrow.{MutBor}
use Rattle.definitions.specs.Entry.{child_places, text_bytes}
use Rattle.definitions.proofs.Entries.{child_places_append, text_bytes_append}
use Rattle.definitions.proofs.Growing.{Grows}
use Rattle.green.specs.Store.{Store, entries, Untouched}
use Rattle.green.specs.Valid.{Valid}
use Rattle.green.specs.View.{SameEventPlaces}
use Rattle.green.specs.declared.store_mut.StoreMut.{StoreMut}
use Rattle.green.proofs.Lists.{same_past}
use Rattle.green.proofs.Known.{count_records, count_children, count_text}

pub untouched_same : (s : Store) → Untouched s s
untouched_same s = record { records = refl; children = refl; text = refl }

-- counts do not fall
module _ {s s' : Store} (v : Valid s) (v' : Valid s') (g : Grows (entries s) (entries s')) where
  records_rise : get_or s.used 0 0 ≤ get_or s'.used 0 0
  records_rise = omega (arith, count_records s v, count_records s' v', ap length g.1 ∙ length-append (entries s) g.0)

  children_rise : get_or s.used 1 0 ≤ get_or s'.used 1 0
  children_rise = omega (arith, count_children s v, count_children s' v', ap child_places g.1 ∙ child_places_append (entries s) g.0)

  text_rise : get_or s.used 2 0 ≤ get_or s'.used 2 0
  text_rise = omega (arith, count_text s v, count_text s' v', ap text_bytes g.1 ∙ text_bytes_append (entries s) g.0)

-- over two calls
pub untouched_on : {r s s' : Store} → Valid s → Valid s' → Grows (entries s) (entries s') → Untouched r s → Untouched s s' → Untouched r s'
untouched_on {r} {s} {s'} v v' g u w = record {
  records = w.records ∙ same_past s.records r.records (get_or s.used 0 0 * 8) (get_or s'.used 0 0 * 8) (omega (arith, records_rise v v' g)) u.records;
  children = w.children ∙ same_past s.children r.children (get_or s.used 1 0) (get_or s'.used 1 0) (children_rise v v' g) u.children;
  text = w.text ∙ same_past s.text r.text (get_or s.used 2 0) (get_or s'.used 2 0) (text_rise v v' g) u.text;
}

-- a store that is lent to an event stays over the same places: over no call, and over two
pub places_same : (s : StoreMut (MutBor (List ℕ)) (MutBor (List ℕ))) → SameEventPlaces s s
places_same s = record {
  places = record { records = refl; used = refl };
  children = refl;
  text = refl;
  lengths = record { records = refl; children = refl; text = refl };
}

pub places_on : {r s s' : StoreMut (MutBor (List ℕ)) (MutBor (List ℕ))} → SameEventPlaces r s → SameEventPlaces s s' → SameEventPlaces r s'
places_on p q = record {
  places = record { records = p.places.records ∙ q.places.records; used = p.places.used ∙ q.places.used };
  children = p.children ∙ q.children;
  text = p.text ∙ q.text;
  lengths = record { records = q.lengths.records ∙ p.lengths.records; children = q.lengths.children ∙ p.lengths.children; text = q.lengths.text ∙ p.lengths.text };
}
