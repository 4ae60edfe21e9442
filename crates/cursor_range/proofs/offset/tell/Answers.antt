-- `tell` meets its contract.
use mathlib.Core.Path.{refl}
use Rattle.cursor_range.specs.Answers.{nothing, single, between}
use Rattle.cursor_range.proofs.offset.tell.Goals as goal

pub returns-in-Nothing : goal.returns-in-Nothing
returns-in-Nothing c = rw c.in-Nothing.is (nothing, refl)

pub returns-in-Single : goal.returns-in-Single
returns-in-Single c = rw c.in-Single.is (single c.syntax_element.ensures, refl)

pub returns-in-Between : goal.returns-in-Between
returns-in-Between c = rw c.in-Between.is (between c.syntax_element-before.ensures c.syntax_element-after.ensures, c.copy_indexes.ensures)
