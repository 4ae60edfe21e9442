-- What a search answers, and what is known of the element that it looks for.
use Rattle.std.specs.Prelude.{ℕ, ◌≤◌, ◌<◌, ◌≡◌, List, true, length}
use Rattle.std.proofs.Math.Option.{Option, none, some}
use Rattle.definitions.specs.Tree.{node}
use Rattle.definitions.specs.Hash.{hash, sharable}
use Rattle.definitions.specs.Entry.{Entry, tree_at, trees_at}
use Rattle.green.specs.Valid.{AllEvents}
use Rattle.std.specs.Prelude.{Some, None, Option as Optional}

abbrev pub found : Optional ℕ → Option ℕ
found (Some n) = some n
found None = none

-- a sharable node over what events made, with its hash
pub record NodeSought (es : List Entry) (k : ℕ) (ns : List ℕ) (h : ℕ) : Type 0 where
  pub sharable : sharable (node k (trees_at es ns)) ≡ true
  pub events : AllEvents es ns
  pub hash : h ≡ hash (node k (trees_at es ns))

-- no entry from the number `from` up to i has this hash
pub record NoneAlike (es : List Entry) (h from i : ℕ) : Type 0 where
  pub after : from ≤ i
  pub others : (j : ℕ) → from ≤ j → j < i → (j < length es) × (hash (tree_at es j) ≡ h → ⊥)

-- and entry i is the first that has it, or there is none
pub record FirstAlike (es : List Entry) (h from i : ℕ) : Type 0 where
  pub none : NoneAlike es h from i
  pub alike : i < length es → hash (tree_at es i) ≡ h
