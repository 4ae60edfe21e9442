use Rattle.preorder_lent.specs.Lent.{WalkValid}
use Rattle.list.proofs.walk.print.Given as goal

abbrev pub invariant-loop : goal.invariant-loop
invariant-loop l = WalkValid l.walk
