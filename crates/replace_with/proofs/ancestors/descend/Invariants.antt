use lib.ListN.{length, take}
use Rattle.green.specs.View.{view}
use Rattle.replace_with.specs.Ancestors.{numbers}
use Rattle.replace_with.proofs.Descending.{Down}
use Rattle.replace_with.proofs.ancestors.descend.Given as goal

abbrev pub invariant-loop-d : goal.invariant-loop-d
invariant-loop-d l = Down (view l.store) l.path.root (take l.path.depth l.path.indexes.now) (numbers l.ancestors) l.at l.d (length (numbers l.initial.ancestors))
