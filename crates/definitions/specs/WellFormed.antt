-- When a list of entries is in order: each entry fits those before it, and events have shared what they must.
use Rattle.std.specs.Prelude.{ℕ, ◌^◌, ◌<◌, ◌≡◌, List, [], ◌∷◌, true, false, length}
use Rattle.definitions.specs.Tree.{kind, is_node, children_of}
use Rattle.definitions.specs.Hash.{sharable}
use Rattle.definitions.specs.Entry.{Entry, entry_at, tree_at, trees_at}
use Rattle.definitions.specs.Refusal.{is_too_large}

unfoldable pub AllBelow : ℕ → List ℕ → Type 0
AllBelow i [] = Unit {0}
AllBelow i (n ∷ ns) = (n < i) × AllBelow i ns

-- all of these numbers name what events made
unfoldable pub AllEvents : List Entry → List ℕ → Type 0
AllEvents es [] = Unit {0}
AllEvents es (n ∷ ns) = ((entry_at es n).event ≡ true) × AllEvents es ns

-- the entry at i: its children stand before it and are those that its tree has, and it is within the limits
pub record Formed (es : List Entry) (i : ℕ) (e : Entry) : Type 0 where
  pub below : AllBelow i e.children
  pub over : children_of e.tree ≡ trees_at es e.children
  pub small : is_too_large e.tree ≡ false
  pub kind : kind e.tree < 2 ^ 16
  pub token : is_node e.tree ≡ false → e.event ≡ true

abbrev pub AllFormed : List Entry → Type 0
AllFormed es = (i : ℕ) → i < length es → Formed es i (entry_at es i)

-- events have made no sharable tree twice, and over edits' records they have made nothing
pub record Shared (es : List Entry) : Type 0 where
  pub distinct : (i j : ℕ) → i < length es → j < length es → (entry_at es i).event ≡ true → (entry_at es j).event ≡ true
      → sharable (tree_at es i) ≡ true → tree_at es i ≡ tree_at es j → i ≡ j
  pub events : (i : ℕ) → i < length es → (entry_at es i).event ≡ true → AllEvents es (entry_at es i).children
