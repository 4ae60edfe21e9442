-- The words that are put into a place one by one.
use Rattle.std.proofs.Common.{◌≡◌, ◌+◌, ◌*◌, ◌<◌, refl, length, take, drop, ℕ, suc, ◌-◌, List, ◌∷◌, ◌++◌, slice_set, arith}
use Rattle.std.specs.Int.{w32, from_le_bytes}
use Rattle.std.proofs.lemmas.List.{take_more_set, drop-drop, append_assoc}
use Rattle.script.specs.Words.{words}

pub one_more : (rest : List ℕ) (n i : ℕ) → i < n → words (n - i) rest ≡ from_le_bytes w32 (take 4 rest) ∷ words (n - (i + 1)) (drop 4 rest)
one_more rest n i lt = let e : n - i ≡ suc (n - (i + 1)) = omega arith in rw e refl

pub filled : (into rest : List ℕ) (n i : ℕ) (word : ℕ) → word ≡ from_le_bytes w32 (take 4 rest) → i < n → i < length into → take (i + 1) (slice_set into i word) ++ words (n - (i + 1)) (drop 4 rest) ≡ take i into ++ words (n - i) rest
filled into rest n i word is lt below = rw (one_more rest n i lt, take_more_set into i word below, is) (append_assoc (take i into) _ _)

pub passed : (rest : List ℕ) (i : ℕ) → drop 4 (drop (4 * i) rest) ≡ drop (4 * (i + 1)) rest
passed rest i = let e : 4 * (i + 1) ≡ 4 * i + 4 = omega arith in rw e (drop-drop 4 (4 * i) rest)
