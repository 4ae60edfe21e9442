-- The offsets of a node's children: the lengths of those before, summed. Assumes nothing.
use Prim.Native.Nat.{ℕ, zero, suc, ◌+◌, ◌≤◌, ◌<◌}
use native.Mathlib.Omega.{arith}
use mathlib.Core.Path.{◌≡◌, refl, ap}
use mathlib.Core.List.{List, [], ◌∷◌}
use lib.ListN.{length, get_or}
use Rattle.definitions.specs.Tree.{Forest, nil, cons, count, text_len, text_lens, offset_of}
use Rattle.definitions.specs.Entry.{Entry, tree_at, trees_at}

pub offset_zero : (f : Forest) → offset_of f 0 ≡ 0
unfolding offset_of
offset_zero nil = refl
offset_zero (cons t f) = refl

pub offset_next : (es : List Entry) (ns : List ℕ) (k : ℕ) → k < length ns
    → offset_of (trees_at es ns) (suc k) ≡ offset_of (trees_at es ns) k + text_len (tree_at es (get_or ns k 0))
unfolding offset_of trees_at
offset_next es [] k h = absurd (omega arith)
offset_next es (n ∷ ns) zero h = omega (arith, offset_zero (trees_at es ns))
offset_next es (n ∷ ns) (suc k) h = omega (arith, offset_next es ns k (omega arith))

pub offset_most : (f : Forest) (k : ℕ) → offset_of f k ≤ text_lens f
unfolding offset_of text_lens
offset_most nil k = omega arith
offset_most (cons t f) zero = omega arith
offset_most (cons t f) (suc k) = omega (arith, offset_most f k)

pub offset_all : (f : Forest) → offset_of f (count f) ≡ text_lens f
unfolding offset_of count text_lens
offset_all nil = refl
offset_all (cons t f) = ap (λ n. text_len t + n) (offset_all f)
