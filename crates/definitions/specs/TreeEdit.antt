-- Edits of trees: a node over other children, and an element in the place of another.
use Rattle.std.specs.Prelude.{ℕ, suc, List, [], ◌∷◌, ◌++◌, get_or, set, take, drop}
use Rattle.definitions.specs.Tree.{Tree, token, node, kind, children_of, trees, forest}

abbrev pub child_trees : Tree → List Tree
child_trees t = trees (children_of t)

-- a node of t's kind over other children
abbrev pub over : Tree → List Tree → Tree
over t ts = node (kind t) (forest ts)

-- u in the place of the child at an index; past the last child nothing changes
abbrev pub with_child : Tree → ℕ → Tree → Tree
with_child t i u = over t (set (child_trees t) i u)

-- us in the place of the children from..to
abbrev pub with_children : Tree → ℕ → ℕ → List Tree → Tree
with_children t from to us = over t (take from (child_trees t) ++ (us ++ drop to (child_trees t)))

-- u in the place of the element at a path
unfoldable pub put : Tree → List ℕ → Tree → Tree
put t [] u = u
put t (i ∷ p) u = with_child t i (put (get_or (child_trees t) i (token 0 [])) p u)

-- each ancestor of that element with u in its place, from the lowest up
unfoldable pub new_ancestors : Tree → List ℕ → Tree → List Tree
new_ancestors t [] u = []
new_ancestors t (i ∷ p) u = new_ancestors (get_or (child_trees t) i (token 0 [])) p u ++ (put t (i ∷ p) u ∷ [])

-- the place of the last of some trees, which stand from place k on; m if there is none
abbrev pub last_place : ℕ → ℕ → List Tree → ℕ
last_place m k [] = m
last_place m k (t ∷ ts) = last_place k (suc k) ts
