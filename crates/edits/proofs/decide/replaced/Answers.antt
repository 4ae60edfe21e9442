-- `replaced` meets its contract.
use Rattle.edits.proofs.Edits.{replaced_within, replaced_past}
use Rattle.edits.proofs.decide.replaced.Goals as goal

pub returns-then-i-count : goal.returns-then-i-count
returns-then-i-count c = replaced_within _ _ c.child_count-count.ensures c.if-i-count.true

pub returns : goal.returns
returns c = replaced_past _ _ c.child_count-count.ensures c.if-i-count.false
