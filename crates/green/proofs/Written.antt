-- What entries are written as: lengths, and more entries at the end. Assumes nothing.
use Prim.Native.Nat.{ℕ, zero, suc, ◌+◌, ◌*◌, ◌%◌, ◌^◌, ◌≤◌, ◌<◌}
use native.Mathlib.Omega.{arith}
use mathlib.Core.Path.{◌≡◌, refl, ap, ◌∙◌}
use mathlib.Core.List.{List, [], ◌∷◌, ◌++◌, append_assoc, flat_map}
use lib.ListN.{length, get_or, length-append}
use Rattle.definitions.specs.Tree.{Tree, token, node, Forest, nil, cons, children_of, text_len, offset_of}
use Rattle.definitions.specs.Entry.{Entry, child_places, text_bytes, own_bytes}
use Rattle.green.specs.Layout.{child_words, own_text, all_records, all_children, all_text}
use Rattle.green.specs.Store.{numbers}
use Rattle.green.specs.Valid.{AllBelow}
use Rattle.green.proofs.Lists.{flat_map_append}

pub all_text_append : (es xs : List Entry) → all_text (es ++ xs) ≡ all_text es ++ all_text xs
unfolding all_text
all_text_append es xs = flat_map_append (λ e. own_text e.tree) es xs

pub all_children_append : (es xs : List Entry) → all_children (es ++ xs) ≡ all_children es ++ all_children xs
unfolding all_children
all_children_append es xs = flat_map_append (λ e. child_words e.children (children_of e.tree) 0) es xs

pub all_records_append : (c t : ℕ) (es xs : List Entry) → all_records c t (es ++ xs) ≡ all_records c t es ++ all_records (c + child_places es) (t + text_bytes es) xs
unfolding all_records child_places text_bytes
all_records_append c t [] xs =
    let p : c ≡ c + 0 = omega arith in
    let q : t ≡ t + 0 = omega arith in
    cc
all_records_append c t (e ∷ es) xs =
    let p : c + length e.children + child_places es ≡ c + (length e.children + child_places es) = omega arith in
    let q : t + own_bytes e.tree + text_bytes es ≡ t + (own_bytes e.tree + text_bytes es) = omega arith in
    rw (all_records_append (c + length e.children) (t + own_bytes e.tree) es xs, p, q) (simp append_assoc)

pub own_text_length : (t : Tree) → length (own_text t) ≡ own_bytes t
unfolding own_text own_bytes
own_text_length (token k b) = refl
own_text_length (node k f) = refl

pub all_text_length : (es : List Entry) → length (all_text es) ≡ text_bytes es
unfolding all_text flat_map text_bytes
all_text_length [] = refl
all_text_length (e ∷ es) = length-append (own_text e.tree) (flat_map (λ e. own_text e.tree) es) ∙ omega (arith, own_text_length e.tree, all_text_length es)

pub all_records_length : (c t : ℕ) (es : List Entry) → length (all_records c t es) ≡ length es * 8
unfolding all_records
all_records_length c t [] = refl
all_records_length c t (e ∷ es) = omega (arith, all_records_length (c + length e.children) (t + own_bytes e.tree) es)

low : (n o : ℕ) → n < 2 ^ 32 → (n + 2 ^ 32 * o) % 2 ^ 32 ≡ n
low n o h = omega arith

pub child_words_length : (ns : List ℕ) (f : Forest) (o : ℕ) → length (child_words ns f o) ≡ length ns
unfolding child_words
child_words_length [] f o = refl
child_words_length (n ∷ ns) nil o = ap suc (child_words_length ns nil o)
child_words_length (n ∷ ns) (cons t f) o = ap suc (child_words_length ns f (o + text_len t))

pub all_children_length : (es : List Entry) → length (all_children es) ≡ child_places es
unfolding all_children flat_map child_places
all_children_length [] = refl
all_children_length (e ∷ es) =
    length-append (child_words e.children (children_of e.tree) 0) (flat_map (λ e. child_words e.children (children_of e.tree) 0) es)
    ∙ omega (arith, child_words_length e.children (children_of e.tree) 0, all_children_length es)

-- the numbers in child places
pub child_words_numbers : (i : ℕ) (ns : List ℕ) (f : Forest) (o : ℕ) → i ≤ 2 ^ 32 → AllBelow i ns → numbers (child_words ns f o) ≡ ns
unfolding child_words AllBelow
child_words_numbers i [] f o h b = refl
child_words_numbers i (n ∷ ns) nil o h b = cc (low n o (omega (arith, b.0)), child_words_numbers i ns nil o h b.1)
child_words_numbers i (n ∷ ns) (cons t f) o h b = cc (low n o (omega (arith, b.0)), child_words_numbers i ns f (o + text_len t) h b.1)

-- child k's place
pub child_words_at : (ns : List ℕ) (f : Forest) (o k : ℕ) → k < length ns → get_or (child_words ns f o) k 0 ≡ get_or ns k 0 + 2 ^ 32 * (o + offset_of f k)
unfolding child_words offset_of
child_words_at [] f o k h = absurd (omega arith)
child_words_at (n ∷ ns) nil o zero h = omega arith
child_words_at (n ∷ ns) nil o (suc k) h = child_words_at ns nil o k (omega arith)
child_words_at (n ∷ ns) (cons t f) o zero h = omega arith
child_words_at (n ∷ ns) (cons t f) o (suc k) h = child_words_at ns f (o + text_len t) k (omega arith) ∙ omega arith
