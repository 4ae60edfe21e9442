-- A node over the children that were added so far: its measure, and how it comes from the children's.
use Rattle.std.specs.Prelude.{ℕ, ◌+◌, ◌*◌, ◌≤◌, ◌≡◌, true, length}
use Rattle.definitions.specs.Tree.{Tree, Forest, nil, cons, node, is_node, count}
use Rattle.definitions.specs.Hash.{sharable}
use Rattle.definitions.specs.Entry.{entry_at, tree_at}
use Rattle.green.specs.Store.{Store, entries}
use Rattle.green.specs.Valid.{Known}
use Rattle.green.specs.Measure.{MeasureOf}
use Rattle.green.specs.declared.record.Measure.{Measure}
use Rattle.green_new.specs.declared.measure.Over.{Over}

-- the trees of one forest, then those of another
unfoldable pub join : Forest → Forest → Forest
join nil g = g
join (cons t f) g = cons t (join f g)

-- a node of kind k over f
pub record OverOf (k : ℕ) (f : Forest) (x : Over) : Type 0 where
  pub count : x.count ≡ count f
  pub sharable : x.is_sharable ≡ sharable (node k f)
  pub measure : MeasureOf (node k f) x.measure

-- THE LAW over children: with those of g behind its own it is the node over all of them
pub record Adds (a : Over) (g : Forest) (r : Over) : Type 0 where
  pub adds : (k : ℕ) (f : Forest) → OverOf k f a → OverOf k (join f g) r

-- the same of one child, of which only the measure is known
pub record AddsOne (a : Over) (x : Measure) (r : Over) : Type 0 where
  pub adds : (t : Tree) → MeasureOf t x → Adds a (cons t nil) r

-- n children were added, none of them too large
pub record Addable (x : Over) (n : ℕ) : Type 0 where
  pub count : x.count ≡ n
  pub len : x.measure.len ≤ n * 4294967295
  pub size : x.measure.size ≤ 1 + n * 1048576
  pub height : x.measure.height ≤ 65

-- so many children more may be added to it
pub record RoomFor (x : Over) (more : ℕ) : Type 0 where
  pub so_far : Addable x x.count
  pub few : x.count + more ≤ 4096

-- the children from..to of node n
pub record Range (s : Store) (n from to : ℕ) : Type 0 where
  pub known : Known s n
  pub a_node : is_node (tree_at (entries s) n) ≡ true
  pub order : from ≤ to
  pub within : to ≤ length (entry_at (entries s) n).children
