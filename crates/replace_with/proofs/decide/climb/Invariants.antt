use lib.ListN.{take}
use Rattle.green.specs.View.{view}
use Rattle.replace_with.specs.Ancestors.{numbers}
use Rattle.replace_with.proofs.Climbing.{Climbing}
use Rattle.replace_with.proofs.decide.climb.Given as goal

abbrev pub invariant-loop-d : goal.invariant-loop-d
invariant-loop-d l = Climbing (view l.store) (take l.path.depth l.path.indexes.now) (numbers l.initial.ancestors) l.m l.ancestors l.x l.places l.d
