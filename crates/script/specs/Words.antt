-- The words that a script's bytes are.
use Rattle.std.specs.Prelude.{ℕ, zero, suc, List, [], ◌∷◌, take, drop}
use Rattle.std.specs.Int.{w32, from_le_bytes}

-- the first words
abbrev pub words : ℕ → List ℕ → List ℕ
words zero _ = []
words (suc count) bytes = from_le_bytes w32 (take 4 bytes) ∷ words count (drop 4 bytes)
