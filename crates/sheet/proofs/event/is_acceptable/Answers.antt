-- `is_acceptable` meets its contract.
use mathlib.Core.Path.{◌∙◌}
use lib.Dec.{leb}
use borrow.Author.Rules.{rules}
use Rattle.std.proofs.lemmas.Iterator.{YieldsList-from_slice}
use Rattle.std.proofs.lemmas.Iterator.Search.{all_from_yields_List}
use Rattle.definitions.proofs.Judging.{each_acceptable}
use Rattle.sheet.proofs.event.is_acceptable.Goals as goal

pub returns : goal.returns
returns c =
    all_from_yields_List (λ x. leb x 127) _ _ c.all.result c.all.ensures.ran (YieldsList-from_slice c.args.src.now cc) (λ x b q k. search rules) ∙ each_acceptable c.args.src.now
