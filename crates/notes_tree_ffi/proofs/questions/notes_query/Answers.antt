-- `notes_query` meets its contract.
use mathlib.Core.Path.{refl, sym, ap, ◌∙◌}
use Rattle.abi.specs.Codes.{coded_as}
use Rattle.abi.proofs.Telling.{wordless}
use Rattle.notes_tree_ffi.proofs.Exporting.{replied, no_question}
use Rattle.notes_tree_ffi.proofs.questions.notes_query.Goals as goal

pub returns-in_default : goal.returns-in_default
returns-in_default c = no_question (sym c.of_code-coded.ensures ∙ ap coded_as c.in_default.is) refl refl (wordless refl)

pub returns : goal.returns
returns c = replied (sym c.of_code-coded.ensures ∙ ap coded_as c.in-Some.is) c.query-reply.ensures c.put_reply.ensures
