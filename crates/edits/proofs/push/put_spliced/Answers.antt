-- `put_spliced` meets its contract.
use native.Mathlib.Omega.{arith}
use mathlib.Core.Path.{◌∙◌}
use Rattle.green.proofs.Answering.{count_node}
use Rattle.edits.proofs.Putting.{in_use, most, front_movable, new_fits, back_movable, all_put}
use Rattle.edits.proofs.push.put_spliced.Goals as goal

pub copy_places-requires : goal.copy_places-requires
copy_places-requires c = front_movable c.requires (rw c.read-read.ensures at c.first_of-first.ensures)

pub put_children-forth-requires : goal.put_children-forth-requires
put_children-forth-requires c = new_fits c.requires (rw c.read-read.ensures at c.first_of-first.ensures) c.copy_places.ensures (rw c.read-read.ensures at c.offset_before-front.ensures)

pub overflow_add-first : goal.overflow_add-first
overflow_add-first c = omega (arith, in_use c.requires, most c.requires, (rw c.read-read.ensures at c.first_of-first.ensures), c.requires.range.within)

pub overflow_sub-count : goal.overflow_sub-count
overflow_sub-count c = omega (arith, c.requires.range.within, (rw c.read-read.ensures at c.count_of-count.ensures), count_node c.requires.range.known c.requires.range.a_node)

pub copy_places-requires-2 : goal.copy_places-requires-2
copy_places-requires-2 c = back_movable c.requires (rw c.read-read.ensures at c.first_of-first.ensures) c.copy_places.ensures (rw c.read-read.ensures at c.offset_before-front.ensures) c.put_children-forth.ensures.children_after c.put_children-forth.ensures.value ((rw c.read-read.ensures at c.count_of-count.ensures) ∙ count_node c.requires.range.known c.requires.range.a_node) (rw c.read-read.ensures at c.offset_before-back.ensures)

pub returns-clause-put : goal.returns-clause-put
returns-clause-put c = rw (all_put c.requires (rw c.read-read.ensures at c.first_of-first.ensures) c.copy_places.ensures (rw c.read-read.ensures at c.offset_before-front.ensures) c.put_children-forth.ensures.children_after c.put_children-forth.ensures.value ((rw c.read-read.ensures at c.count_of-count.ensures) ∙ count_node c.requires.range.known c.requires.range.a_node) (rw c.read-read.ensures at c.offset_before-back.ensures) c.copy_places-2.ensures)
