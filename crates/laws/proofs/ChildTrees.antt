-- Laws of lists of trees: what numbers name, and what edits of children make of it. Assumes nothing.
use Prim.Native.Nat.{ℕ, ◌<◌}
use native.Mathlib.Omega.{arith}
use native.Mathlib.Decide.{dec_lt}
use mathlib.Core.Path.{◌≡◌, refl, sym, ap, ap₂, ◌∙◌}
use mathlib.Core.List.{List, [], ◌∷◌, ◌++◌, map, map-append}
use lib.ListN.{length, set, take, drop, get_or-map, get_or-eq_default}
use Rattle.definitions.specs.Tree.{node, kind, children_of, trees, forest}
use Rattle.definitions.specs.Entry.{Entry, absent, entry_at, tree_at, trees_at}
use Rattle.definitions.specs.WellFormed.{AllFormed}
use Rattle.definitions.specs.Spelling.{spelled_at, spelling}
use Rattle.definitions.specs.TreeEdit.{child_trees, with_child, with_children}
use Rattle.definitions.proofs.Lists.{map_take, map_drop, map_set}

pub forest_map : (es : List Entry) (ns : List ℕ) → trees_at es ns ≡ forest (map (tree_at es) ns)
unfolding trees_at forest
forest_map es [] = refl
forest_map es (n ∷ ns) = cc (forest_map es ns)

pub trees_map : (es : List Entry) (ns : List ℕ) → trees (trees_at es ns) ≡ map (tree_at es) ns
unfolding trees_at trees
trees_map es [] = refl
trees_map es (n ∷ ns) = cc (trees_map es ns)

-- a number names in the list of spellings what it names among the entries
pub spelled_at_lem : (es : List Entry) (n : ℕ) → spelled_at (map spelling es) n ≡ tree_at es n
spelled_at_lem es n = ap (λ w. w.tree) (get_or-map spelling es n absent)

pub spelled_all : (es : List Entry) (ns : List ℕ) → map (spelled_at (map spelling es)) ns ≡ map (tree_at es) ns
spelled_all es [] = refl
spelled_all es (n ∷ ns) = cc (spelled_at_lem es n, spelled_all es ns)

-- where entries are in order, a node's children are the trees that its numbers name
module _ (es : List Entry) (h : AllFormed es) (n : ℕ) where
  pub over_at : children_of (tree_at es n) ≡ trees_at es (entry_at es n).children
  unfolding children_of trees_at
  over_at = go (dec_lt n (length es))
    where
      go : Dec (n < length es) → children_of (tree_at es n) ≡ trees_at es (entry_at es n).children
      go (yes l) = (h n l).over
      go (no l) = let z : entry_at es n ≡ absent = get_or-eq_default es absent (omega (arith, l)) in ap (λ e. children_of e.tree) z ∙ sym (ap (λ e. trees_at es e.children) z)

  pub children_at : child_trees (tree_at es n) ≡ map (tree_at es) (entry_at es n).children
  children_at = ap trees over_at ∙ trees_map es (entry_at es n).children

  pub with_child_at : (i m : ℕ) → node (kind (tree_at es n)) (trees_at es (set (entry_at es n).children i m)) ≡ with_child (tree_at es n) i (tree_at es m)
  with_child_at i m =
      ap (node (kind (tree_at es n)))
      (forest_map es (set (entry_at es n).children i m)
      ∙ ap forest (map_set (tree_at es) (entry_at es n).children i m ∙ ap (λ ts. set ts i (tree_at es m)) (sym children_at)))

  pub with_children_at : (from to : ℕ) (ms : List ℕ)
      → node (kind (tree_at es n)) (trees_at es (take from (entry_at es n).children ++ (ms ++ drop to (entry_at es n).children))) ≡ with_children (tree_at es n) from to (map (tree_at es) ms)
  with_children_at from to ms =
      let ns : List ℕ = (entry_at es n).children in
      ap (node (kind (tree_at es n)))
      (forest_map es (take from ns ++ (ms ++ drop to ns))
      ∙ ap forest
      (map-append (tree_at es) (take from ns) (ms ++ drop to ns)
      ∙ ap₂ ◌++◌ (map_take (tree_at es) from ns ∙ ap (take from) (sym children_at))
      (map-append (tree_at es) ms (drop to ns) ∙ ap (λ ts. map (tree_at es) ms ++ ts) (map_drop (tree_at es) to ns ∙ ap (drop to) (sym children_at)))))
