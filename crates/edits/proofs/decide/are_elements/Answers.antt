-- `are_elements` meets its contract.
use mathlib.Core.Path.{◌∙◌}
use lib.Dec.{ltb}
use lib.ListN.{get_or}
use borrow.Author.Rules.{rules}
use Rattle.std.proofs.lemmas.Iterator.{YieldsList-from_slice}
use Rattle.std.proofs.lemmas.Iterator.Search.{all_from_yields_List}
use Rattle.definitions.proofs.Entries.{each_present}
use Rattle.green.specs.Store.{entries}
use Rattle.green.specs.View.{view}
use Rattle.green.proofs.Known.{count_records}
use Rattle.edits.proofs.decide.are_elements.Goals as goal

pub returns : goal.returns
returns c =
    let a = c.args in
    let s = view a.store in
    all_from_yields_List (λ n. ltb n (get_or a.store.used.now 0 0)) _ _ c.all.result c.all.ensures.ran (YieldsList-from_slice a.numbers.now cc) (λ x b q k. search rules)
    ∙ rw (count_records s c.args.store.valid) (each_present (entries s) a.numbers.now)
