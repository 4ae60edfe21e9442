use lib.ListN.{take}
use Rattle.green.specs.View.{view_nodes, SameNodePlaces}
use Rattle.replace_with.specs.Ancestors.{numbers}
use Rattle.replace_with.proofs.Renewing.{Renewing}
use Rattle.replace_with.proofs.renew.Given as goal

abbrev pub invariant-loop-d : goal.invariant-loop-d
invariant-loop-d l =
    Renewing (view_nodes l.initial.store) (view_nodes l.store) (take l.path.depth l.path.indexes.now) (numbers l.ancestors) l.m l.at l.d × SameNodePlaces l.initial.store l.store
