-- Child places as words: pasted one part behind the other, taken apart, and moved. Assumes nothing.
use Prim.Native.Nat.{ℕ, ◌+◌, ◌-◌, ◌*◌, ◌/◌, ◌%◌, ◌^◌, ◌≤◌, ◌<◌}
use native.Mathlib.Omega.{arith}
use native.Mathlib.Nat.{add-zero}
use mathlib.Core.Path.{◌≡◌, refl, sym, ap, ◌∙◌}
use mathlib.Core.List.{List, [], ◌∷◌, ◌++◌, map, append_assoc}
use lib.ListN.{length, get_or, take, drop, length-append}
use lib.Seq.{paste, slice, take-paste, drop-paste, take-take, take_at, take-length, length-take-le, drop-drop}
use Rattle.definitions.specs.Tree.{text_len, text_lens, offset_of}
use Rattle.definitions.specs.Entry.{Entry, tree_at, trees_at}
use Rattle.definitions.proofs.Offsets.{offset_most}
use Rattle.green.specs.Layout.{child_words}
use Rattle.green.specs.Valid.{AllBelow}
use Rattle.green.proofs.Lists.{part_slice}
use Rattle.green.proofs.Answering.{below_at}
use Rattle.green.proofs.Written.{child_words_at}
use Rattle.edits.specs.Places.{moved, MovablePlace}

-- one part pasted behind another
pub paste_both : (l xs ys : List ℕ) (at : ℕ) → at + (length xs + length ys) ≤ length l
    → paste (paste l at xs (length xs)) (at + length xs) ys (length ys) ≡ paste l at (xs ++ ys) (length (xs ++ ys))
paste_both l xs ys at h =
    let a = length xs in
    let b = length ys in
    let p = paste l at xs a in
    let front : take (at + a) p ≡ take at l ++ xs = take-paste l at xs a (omega arith) (omega arith) ∙ ap (λ x. take at l ++ x) (take-length xs) in
    let back : drop (at + a + b) p ≡ drop (at + a + b) l =
    sym (drop-drop b (at + a) p) ∙ ap (drop b) (drop-paste l at xs a (omega arith) (omega arith)) ∙ drop-drop b (at + a) l in
    let n : at + a + b ≡ at + length (xs ++ ys) = omega (arith, length-append xs ys) in
    let both : (take at l ++ xs) ++ ys ≡ take at l ++ (xs ++ ys) = append_assoc (take at l) xs ys in
    rw (front, take-length ys, back, both, n, take-length (xs ++ ys)) refl

-- what lies in front of the target stays
pub front_kept : (l ws : List ℕ) (at n b : ℕ) → b ≤ at → at ≤ length l → n ≤ length ws → take b (paste l at ws n) ≡ take b l
front_kept l ws at n b h m w =
    sym (take-take b (at + n) (paste l at ws n) (omega arith))
    ∙ ap (take b) (take-paste l at ws n m w)
    ∙ sym (take-take b at (take at l ++ take n ws) h)
    ∙ ap (take b) (take_at (take at l) (take n ws) at (length-take-le at l m))
    ∙ take-take b at l h

-- a part of a part
pub slice_front : (l : List ℕ) (f n i : ℕ) → i ≤ n → f + n ≤ length l → slice f (f + i) l ≡ take i (slice f (f + n) l)
slice_front l f n i h m =
    let e : f + i - f ≡ i = omega arith in
    let d : f + n - f ≡ n = omega arith in
    sym (part_slice l f (f + i) (omega arith) (omega arith))
    ∙ ap (λ k. take k (drop f l)) e
    ∙ sym (take-take i n (drop f l) h)
    ∙ ap (take i) (sym (ap (λ k. take k (drop f l)) d) ∙ part_slice l f (f + n) (omega arith) (omega arith))

pub slice_back : (l : List ℕ) (f n i : ℕ) → i ≤ n → slice (f + i) (f + i + (n - i)) l ≡ drop i (slice f (f + n) l)
slice_back l f n i h =
    let e : f + i + (n - i) ≡ f + n = omega arith in
    ap (λ k. slice (f + i) k l) e ∙ sym (drop-drop i f (take (f + n) l))

-- the words of two lists of numbers
pub words_append : (es : List Entry) (xs ys : List ℕ) (o : ℕ)
    → child_words (xs ++ ys) (trees_at es (xs ++ ys)) o ≡ child_words xs (trees_at es xs) o ++ child_words ys (trees_at es ys) (o + text_lens (trees_at es xs))
unfolding child_words trees_at text_lens
words_append es [] ys o = ap (child_words ys (trees_at es ys)) (sym (add-zero o))
words_append es (x ∷ xs) ys o =
    let e : o + text_len (tree_at es x) + text_lens (trees_at es xs) ≡ o + (text_len (tree_at es x) + text_lens (trees_at es xs)) = omega arith in
    ap (λ l. (x + 2 ^ 32 * o) ∷ l)
    (words_append es xs ys (o + text_len (tree_at es x)) ∙ ap (λ k. child_words xs (trees_at es xs) (o + text_len (tree_at es x)) ++ child_words ys (trees_at es ys) k) e)

pub words_parts : (es : List Entry) (xs ys : List ℕ)
    → child_words (xs ++ ys) (trees_at es (xs ++ ys)) 0 ≡ child_words xs (trees_at es xs) 0 ++ child_words ys (trees_at es ys) (text_lens (trees_at es xs))
words_parts es xs ys =
    let e : 0 + text_lens (trees_at es xs) ≡ text_lens (trees_at es xs) = omega arith in
    words_append es xs ys 0 ∙ ap (λ k. child_words xs (trees_at es xs) 0 ++ child_words ys (trees_at es ys) k) e

-- the words of a list of numbers, moved
word_moved : (n o back forth : ℕ) → n < 2 ^ 32 → back ≤ o → moved back forth (n + 2 ^ 32 * o) ≡ n + 2 ^ 32 * (o - back + forth)
word_moved n o back forth h b =
    let q : (n + 2 ^ 32 * o) % 2 ^ 32 ≡ n = omega arith in
    let d : (n + 2 ^ 32 * o) / 2 ^ 32 ≡ o = omega arith in
    rw (q, d) refl

pub words_moved : (es : List Entry) (ys : List ℕ) (o back forth : ℕ) → AllBelow (2 ^ 32) ys → back ≤ o
    → map (moved back forth) (child_words ys (trees_at es ys) o) ≡ child_words ys (trees_at es ys) (o - back + forth)
unfolding child_words trees_at AllBelow
words_moved es [] o back forth b h = refl
words_moved es (y ∷ ys) o back forth b h =
    let e : o + text_len (tree_at es y) - back + forth ≡ o - back + forth + text_len (tree_at es y) = omega arith in
    rw (word_moved y o back forth b.0 h, words_moved es ys (o + text_len (tree_at es y)) back forth b.1 (omega arith), e) refl

pub words_movable : (es : List Entry) (ys : List ℕ) (o back forth : ℕ) → AllBelow (2 ^ 32) ys → back ≤ o → o - back + forth + text_lens (trees_at es ys) < 2 ^ 32
    → (k : ℕ) → k < length ys → MovablePlace (get_or (child_words ys (trees_at es ys) o) k 0) back forth
words_movable es ys o back forth b h m k l =
    let w = child_words_at ys (trees_at es ys) o k l in
    let n : get_or ys k 0 < 2 ^ 32 = below_at (2 ^ 32) ys k b l in
    let d : get_or (child_words ys (trees_at es ys) o) k 0 / 2 ^ 32 ≡ o + offset_of (trees_at es ys) k = omega (arith, w, n) in
    record { behind = omega (arith, d); small = omega (arith, d, offset_most (trees_at es ys) k) }
