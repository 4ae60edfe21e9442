-- `touching_children` meets its contract.
use Rattle.cursor_range.proofs.Around.{none_right, empty_right, both_sides, right_only, left_only, no_side}
use Rattle.cursor_range.proofs.tokens.touching_children.Goals.{else-before-through, then-before-through+else-text_len-gt0}
use Rattle.cursor_range.proofs.tokens.touching_children.Goals as goal

pub returns-then-before-gt0 : goal.returns-then-before-gt0
returns-then-before-gt0 c = both_sides c.requires.inner c.requires.in_closed_range c.partition_point-before.ensures c.partition_point-through.ensures c.if-before-through.true c.child-last.ensures c.text_len.ensures.0 c.if-text_len-gt0.true c.if-before-gt0.true

pub returns-then-text_len-gt0 : goal.returns-then-text_len-gt0
returns-then-text_len-gt0 c = right_only c.requires.inner c.requires.in_closed_range c.partition_point-before.ensures c.partition_point-through.ensures c.if-before-through.true c.child-last.ensures c.text_len.ensures.0 c.if-text_len-gt0.true c.if-before-gt0.false

pub returns-then-before-gt0-2 : goal.returns-then-before-gt0-2
returns-then-before-gt0-2 c = left_only c.requires.inner c.requires.in_closed_range c.partition_point-before.ensures c.partition_point-through.ensures (elim c.if-before-through.branch [ then-before-through+else-text_len-gt0 w ↦ empty_right c.requires.inner c.requires.in_closed_range c.partition_point-before.ensures c.partition_point-through.ensures w.if-before-through.true w.child-last.ensures w.text_len.ensures.0 w.if-text_len-gt0.false | else-before-through w ↦ none_right c.requires.inner c.requires.in_closed_range c.partition_point-before.ensures c.partition_point-through.ensures w.if-before-through.false ]) c.if-before-gt0-2.true

pub returns : goal.returns
returns c = no_side c.requires.inner c.requires.in_closed_range c.partition_point-before.ensures c.partition_point-through.ensures (elim c.if-before-through.branch [ then-before-through+else-text_len-gt0 w ↦ empty_right c.requires.inner c.requires.in_closed_range c.partition_point-before.ensures c.partition_point-through.ensures w.if-before-through.true w.child-last.ensures w.text_len.ensures.0 w.if-text_len-gt0.false | else-before-through w ↦ none_right c.requires.inner c.requires.in_closed_range c.partition_point-before.ensures c.partition_point-through.ensures w.if-before-through.false ]) c.if-before-gt0-2.false
