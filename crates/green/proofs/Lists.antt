-- Parts of lists. Assumes nothing.
use Prim.Native.Nat.{ℕ, ◌+◌, ◌-◌, ◌≤◌, ◌<◌}
use native.Mathlib.Omega.{arith}
use mathlib.Core.Path.{◌≡◌, refl, sym, ap, ◌∙◌}
use mathlib.Core.List.{List, [], ◌∷◌, ◌++◌, append_assoc, flat_map}
use lib.ListN.{length, get_or, take, drop, length-append, length-take}
use lib.Seq.{slice, take-take, take_at, drop_at, take-add, length-take-le, get_or-drop, get_or-take, drop-drop}

-- a part of a list that starts with a, b and c, in order
pub slice_mid : {A : Type 0} (l a b c : List A) (n : ℕ) → take n l ≡ a ++ (b ++ c) → slice (length a) (length a + length b) l ≡ b
slice_mid l a b c n e =
    let m : length a + (length b + length c) ≡ length (take n l) = sym (ap length e ∙ simp length-append) in
    let k : length a + length b ≤ n = omega (arith, m, length-take n l) in
    let t : take (length a + length b) l ≡ a ++ b =
    sym (take-take (length a + length b) n l k)
    ∙ ap (take (length a + length b)) (e ∙ sym (append_assoc a b c))
    ∙ take_at (a ++ b) c (length a + length b) (length-append a b) in
    ap (drop (length a)) t ∙ drop_at a b (length a) refl

-- an element of a part
pub slice_at : {A : Type 0} (l : List A) (from to i : ℕ) (d : A) → from + i < to → get_or (slice from to l) i d ≡ get_or l (from + i) d
slice_at l from to i d h = get_or-drop from (take to l) i d ∙ get_or-take to l (from + i) d h

-- a part in the language's spelling
pub part_slice : {A : Type 0} (l : List A) (from to : ℕ) → from ≤ to → from ≤ length l → take (to - from) (drop from l) ≡ slice from to l
part_slice l from to h k =
    let z : from + (to - from) ≡ to = omega arith in
    sym (drop_at (take from l) _ from (length-take-le from l k)) ∙ ap (drop from) (sym (take-add from (to - from) l) ∙ ap (λ i. take i l) z)

-- lists that agree past a place agree past a later one
pub same_past : {A : Type 0} (l m : List A) (a b : ℕ) → a ≤ b → drop a l ≡ drop a m → drop b l ≡ drop b m
same_past l m a b h e =
    let q : b ≡ a + (b - a) = omega arith in
    rw q (sym (drop-drop (b - a) a l) ∙ ap (drop (b - a)) e ∙ drop-drop (b - a) a m)

pub flat_map_append : {A B : Type 0} (f : A → List B) (xs ys : List A) → flat_map f (xs ++ ys) ≡ flat_map f xs ++ flat_map f ys
unfolding flat_map
flat_map_append f [] ys = refl
flat_map_append f (x ∷ xs) ys = ap (λ l. f x ++ l) (flat_map_append f xs ys) ∙ sym (append_assoc (f x) (flat_map f xs) (flat_map f ys))
