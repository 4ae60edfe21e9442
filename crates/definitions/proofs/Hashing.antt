-- Hashes word by word: what is left of the words gives the answer; and a node of many children has none. Assumes nothing.
use Prim.Native.Nat.{ℕ, ◌+◌, ◌≤◌, ◌<◌}
use native.Mathlib.Numerals.{add-one}
use native.Mathlib.Omega.{arith}
use mathlib.Core.Path.{◌≡◌, refl}
use mathlib.Core.List.{List}
use mathlib.Core.Bool.{false}
use lib.ListN.{length, drop, get_or, drop_of_length-le}
use lib.Seq.{drop-cons}
use borrow.Author.Tests.{lt-leb}
use Rattle.definitions.specs.Hash.{add_word, add_words, sharable_over, node_hash, hash, hashes, sharable}
use Rattle.definitions.specs.Tree.{node}
use Rattle.definitions.specs.Entry.{Entry, trees_at}
use Rattle.definitions.proofs.Laws.{hashes_length}
use Rattle.definitions.proofs.Entries.{trees_at_count}

-- h took the words before i, from h₀ on
pub record Taken (ws : List ℕ) (h₀ h i : ℕ) : Type 0 where
  pub within : i ≤ length ws
  pub rest : add_words h (drop i ws) ≡ add_words h₀ ws

module _ {ws : List ℕ} where
  pub taken_more : {h₀ h i : ℕ} → Taken ws h₀ h i → i < length ws → {h' : ℕ} → h' ≡ add_word h (get_or ws i 0) → Taken ws h₀ h' (i + 1)
  unfolding add_words
  taken_more {i = i} t l e = record { within = omega arith; rest = rw (e, add-one) (rw (drop-cons ws i 0 l) at t.rest) }

  pub taken_all : {h₀ h i : ℕ} → Taken ws h₀ h i → length ws ≤ i → {h₁ : ℕ} → h₀ ≡ h₁ → h ≡ add_words h₁ ws
  unfolding add_words
  taken_all t l e = rw (drop_of_length-le ws l, e) at t.rest

-- more than three children
module _ (es : List Entry) (k : ℕ) (ns : List ℕ) where
  pub many_unshared : 3 < length ns → (false ≡ sharable (node k (trees_at es ns))) × (0 ≡ hash (node k (trees_at es ns)))
  unfolding sharable hash node_hash sharable_over
  many_unshared l =
      let f = lt-leb (length (hashes (trees_at es ns))) 3 (omega (arith, hashes_length (trees_at es ns), trees_at_count es ns)) in
      (rw f, rw f)
