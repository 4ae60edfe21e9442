-- A builder: what it says, and when it is in order.
use Rattle.std.specs.Prelude.{ℕ, ◌≤◌, List, [], ◌∷◌, map, reverse, Some, None, Option as Optional}
use Rattle.std.proofs.Math.Option.{Option, none, some}
use Rattle.arrayvec.specs.ArrayVec.{array_vec_len}
use Rattle.definitions.specs.Builder.{Parent, Builder, State, innermost}
use Rattle.green.specs.Store.{Store, entries}
use Rattle.green.specs.Valid.{AllEvents, Valid}
use Rattle.builder.specs.declared.state.Checkpoint.{Checkpoint}
use Rattle.builder.specs.declared.state.Parent.{Parent as Opened}
use Rattle.builder.specs.declared.state.GreenNodeBuilder.{GreenNodeBuilder}

-- how many elements wait
abbrev pub waited : GreenNodeBuilder → ℕ
waited b = array_vec_len b.children

abbrev pub parent_of : Opened → Parent
parent_of p = record { kind = p.kind.0; first = p.first.0 }

-- what a register holds
abbrev pub checkpoint_of : Optional Checkpoint → Option ℕ
checkpoint_of (Some c) = some c.0
checkpoint_of None = none

-- the innermost open node is the last of its own
abbrev pub builder_of : GreenNodeBuilder → Builder
builder_of b = record {
  parents = reverse (map parent_of b.parents.items);
  children = b.children.items;
  checkpoints = map checkpoint_of b.registers;
}

abbrev pub state_of : Store → GreenNodeBuilder → State
state_of s b = record { entries = entries s; builder = builder_of b }

-- each open node starts at or after the one around it, and not past what waits
unfoldable pub Nested : ℕ → List Parent → Type 0
Nested w [] = Unit {0}
Nested w (p ∷ ps) = (p.first ≤ w) × Nested p.first ps

-- THE INVARIANT of a builder over a store
pub record BuilderValid (s : Store) (b : GreenNodeBuilder) : Type 0 where
  pub valid : Valid s
  pub nested : Nested (waited b) (builder_of b).parents
  pub events : AllEvents (entries s) b.children.items

-- where a node may start: not past what waits, and not before the innermost open node
pub record Fitting (b : GreenNodeBuilder) (c : ℕ) : Type 0 where
  pub high : c ≤ waited b
  pub low : innermost (builder_of b).parents ≤ c
