-- `copy_places`, turn by turn. Assumes nothing.
use Prim.Native.Nat.{ℕ, ◌+◌, ◌-◌, ◌*◌, ◌/◌, ◌%◌, ◌≤◌, ◌<◌}
use native.Mathlib.Omega.{arith}
use native.Mathlib.Numerals.{add-one}
use mathlib.Core.Path.{◌≡◌, refl, sym, ap, ◌∙◌}
use mathlib.Core.List.{List, map}
use lib.ListN.{length, get_or, take, set, length-map, length-set, get_or-map}
use lib.Seq.{paste, slice, paste-zero, paste-suc, get_or-take, length-slice}
use Rattle.green.proofs.Lists.{slice_at}
use Rattle.edits.specs.Places.{moved, MovablePlace, Movable}
use Rattle.edits.proofs.Places.{front_kept}

-- after i turns
pub record Copied (l : List ℕ) (source target count back forth : ℕ) (cs : List ℕ) (i : ℕ) : Type 0 where
  pub within : i ≤ count
  pub places : cs ≡ paste l target (map (moved back forth) (slice source (source + count) l)) i
  pub same_length : length cs ≡ length l

module _ {l : List ℕ} {source target count back forth : ℕ} (m : Movable l source target count back forth) where
  abbrev ws : List ℕ
  ws = map (moved back forth) (slice source (source + count) l)

  long : length ws ≡ count
  long = length-map (slice source (source + count) l) (moved back forth) ∙ length-slice source (source + count) l (omega (arith, m.before, m.room)) ∙ omega arith

  pub copied_none : Copied l source target count back forth l 0
  copied_none = record { within = omega arith; places = paste-zero l target ws; same_length = refl }

  module _ {cs : List ℕ} {i : ℕ} (p : Copied l source target count back forth cs i) where
    pub copied_all : count ≤ i → cs ≡ paste l target ws count
    copied_all h = let e : i ≡ count = omega (arith, p.within) in rw e at p.places

    module _ (h : i < count) where
      pub source_there : source + i < length cs
      source_there = omega (arith, p.same_length, m.before, m.room)

      pub target_there : target + i < length cs
      target_there = omega (arith, p.same_length, m.room)

      front : take target cs ≡ take target l
      front = ap (take target) p.places ∙ front_kept l ws target i target (omega arith) (omega (arith, m.room)) (omega (arith, long))

      same_word : get_or cs (source + i) 0 ≡ get_or l (source + i) 0
      same_word =
          sym (get_or-take target cs (source + i) 0 (omega (arith, m.before))) ∙ ap (λ x. get_or x (source + i) 0) front
          ∙ get_or-take target l (source + i) 0 (omega (arith, m.before))

      pub movable : MovablePlace (get_or cs (source + i) 0) back forth
      movable = rw same_word (m.each i h)

      pub copied_more : Copied l source target count back forth
          (set cs (target + i) (get_or cs (source + i) 0 % 4294967296 + 4294967296 * (get_or cs (source + i) 0 / 4294967296 - back + forth))) (i + 1)
      copied_more =
          let w : moved back forth (get_or l (source + i) 0) ≡ get_or ws i (moved back forth 0) =
          ap (moved back forth) (sym (slice_at l source (source + count) i 0 (omega arith))) ∙ sym (get_or-map (moved back forth) (slice source (source + count) l) i 0) in
          record {
            within = omega arith;
            places = rw (same_word, w, add-one, p.places) (paste-suc l target ws i (moved back forth 0) (omega (arith, m.room)) (omega (arith, long)));
            same_length = simp length-set p.same_length;
          }
