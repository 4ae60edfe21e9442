use Rattle.edits.proofs.Copying.{Copied}
use Rattle.edits.proofs.push.copy_places.Given as goal

abbrev pub invariant-loop-i : goal.invariant-loop-i
invariant-loop-i l = Copied l.initial.children l.source l.target l.count l.back l.forth l.children l.i
