-- Entries: how many places they take, what numbers among them name, and one entry more. Assumes nothing.
use Prim.Native.Nat.{ℕ, suc, ◌+◌, ◌<◌, min}
use native.Mathlib.Omega.{arith}
use mathlib.Core.Path.{◌≡◌, refl, ap, ◌∙◌}
use mathlib.Core.List.{List, [], ◌∷◌, ◌++◌}
use mathlib.Core.Bool.{Bool, true, false, not, ◌||◌, ◌&&◌}
use lib.Dec.{ltb}
use lib.ListN.{length, length-append}
use Rattle.std.specs.List.{list_all}
use borrow.Author.Tests.{ltb-true, le-ltb, not-false}
use Rattle.definitions.specs.Prelude.{any}
use Rattle.definitions.specs.Tree.{count}
use Rattle.definitions.specs.Entry.{Entry, trees_at, child_places, text_bytes, own_bytes, Lent}
use Rattle.definitions.specs.Refusal.{is_absent, exceeds_room, is_overfull}
use Rattle.definitions.proofs.Limits.{Room, entries_room, false_or}

-- a tree for each number
pub trees_at_count : (es : List Entry) (ns : List ℕ) → count (trees_at es ns) ≡ length ns
unfolding count trees_at
trees_at_count es [] = refl
trees_at_count es (n ∷ ns) = ap suc (trees_at_count es ns)

pub child_places_append : (es xs : List Entry) → child_places (es ++ xs) ≡ child_places es + child_places xs
unfolding child_places
child_places_append [] xs = omega arith
child_places_append (e ∷ es) xs = omega (arith, child_places_append es xs)

pub text_bytes_append : (es xs : List Entry) → text_bytes (es ++ xs) ≡ text_bytes es + text_bytes xs
unfolding text_bytes
text_bytes_append [] xs = omega arith
text_bytes_append (e ∷ es) xs = omega (arith, text_bytes_append es xs)

-- one entry more
pub overfull_push : (l : Lent) (es : List Entry) (e : Entry)
    → is_overfull l (es ++ (e ∷ [])) ≡ exceeds_room l (length es + 1) (child_places es + length e.children) (text_bytes es + own_bytes e.tree)
unfolding is_overfull child_places text_bytes
overfull_push l es e =
    let c : child_places (es ++ (e ∷ [])) ≡ child_places es + length e.children = child_places_append es (e ∷ []) ∙ omega arith in
    let t : text_bytes (es ++ (e ∷ [])) ≡ text_bytes es + own_bytes e.tree = text_bytes_append es (e ∷ []) ∙ omega arith in
    rw (length-append es (e ∷ []), c, t)

no_excess : {l : Lent} {r c t : ℕ} → Room l r c t → exceeds_room l r c t ≡ false
unfolding exceeds_room
no_excess {l} {r} {c} {t} h =
    false_or _ _ (le-ltb (min l.records 8192) r (omega (arith, h.records_lent, h.records_most)))
    (false_or _ _ (le-ltb (min l.children 16384) c (omega (arith, h.children_lent, h.children_most)))
    (le-ltb (min l.text 65536) t (omega (arith, h.text_lent, h.text_most))))

-- room for entries is room for the first of them
pub room_front : (l : Lent) (xs ys : List Entry) → is_overfull l (xs ++ ys) ≡ false → is_overfull l xs ≡ false
unfolding is_overfull
room_front l xs ys e =
    let r = entries_room l (xs ++ ys) e in
    let a = length-append xs ys in
    let b = child_places_append xs ys in
    let c = text_bytes_append xs ys in
    no_excess (record {
      records_lent = omega (arith, r.records_lent);
      records_most = omega (arith, r.records_most);
      children_lent = omega (arith, r.children_lent);
      children_most = omega (arith, r.children_most);
      text_lent = omega (arith, r.text_lent);
      text_most = omega (arith, r.text_most);
    })

-- every number names an element
pub each_present : (es : List Entry) (ns : List ℕ) → list_all (λ n. ltb n (length es)) ns ≡ not (any (is_absent es) ns)
unfolding any is_absent
each_present es [] = refl
each_present es (n ∷ ns) = go (ltb n (length es)) _ _ (each_present es ns)
  where
    go : (b c d : Bool) → c ≡ not d → (b && c) ≡ not (not b || d)
    go true c d e = e
    go false c d e = refl

-- a number that names an element
pub named_there : (es : List Entry) (n : ℕ) → is_absent es n ≡ false → n < length es
unfolding is_absent
named_there es n q = ltb-true n (length es) (not-false _ q)
