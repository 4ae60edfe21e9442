use Rattle.green.specs.Store.{store}
use Rattle.green_new.proofs.Children.{Put}
use Rattle.green_new.proofs.node.put_children.Given as goal

abbrev pub invariant-loop-i : goal.invariant-loop-i
invariant-loop-i l = Put (store l.records l.initial.children l.text l.used) l.at l.base l.numbers l.children l.offset l.i
