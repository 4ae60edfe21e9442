-- Spelling is decidable, so that an equation between elements holds in one way at most.
use Prim.Native.Nat.{ℕ}
use native.Mathlib.Decide.{ℕ_discrete}
use mathlib.Core.Path.{◌≡◌, refl}
use mathlib.Core.List.{List, [], ◌∷◌}
use mathlib.Core.Logic.Dec
use mathlib.Core.HLevel.{Discrete, hedberg}
use Rattle.definitions.specs.Tree.{Tree, token, node, Forest, nil, cons}

numbers_discrete : Discrete (List ℕ)
numbers_discrete [] [] = yes refl
numbers_discrete [] (y ∷ ys) = no (λ e. cc e)
numbers_discrete (x ∷ xs) [] = no (λ e. cc e)
numbers_discrete (x ∷ xs) (y ∷ ys) = elim (ℕ_discrete x y) [ yes p ↦ elim (numbers_discrete xs ys) [ yes q ↦ yes (cc (p, q)) | no q ↦ no (λ e. q (cc e)) ] | no p ↦ no (λ e. p (cc e)) ]

mutual
  pub Tree_discrete : Discrete Tree
  Tree_discrete (token k b) (token l c) = elim (ℕ_discrete k l) [ yes p ↦ elim (numbers_discrete b c) [ yes q ↦ yes (cc (p, q)) | no q ↦ no (λ e. q (cc e)) ] | no p ↦ no (λ e. p (cc e)) ]
  Tree_discrete (token k b) (node l g) = no (λ e. cc e)
  Tree_discrete (node k f) (token l c) = no (λ e. cc e)
  Tree_discrete (node k f) (node l g) = elim (ℕ_discrete k l) [ yes p ↦ elim (Forest_discrete f g) [ yes q ↦ yes (cc (p, q)) | no q ↦ no (λ e. q (cc e)) ] | no p ↦ no (λ e. p (cc e)) ]

  pub Forest_discrete : Discrete Forest
  Forest_discrete nil nil = yes refl
  Forest_discrete nil (cons t f) = no (λ e. cc e)
  Forest_discrete (cons t f) nil = no (λ e. cc e)
  Forest_discrete (cons t f) (cons u g) = elim (Tree_discrete t u) [ yes p ↦ elim (Forest_discrete f g) [ yes q ↦ yes (cc (p, q)) | no q ↦ no (λ e. q (cc e)) ] | no p ↦ no (λ e. p (cc e)) ]

pub Tree-set : IsSet Tree
Tree-set = hedberg Tree_discrete

pub Forest-set : IsSet Forest
Forest-set = hedberg Forest_discrete
