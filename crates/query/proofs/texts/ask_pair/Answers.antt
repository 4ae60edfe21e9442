-- `ask_pair` meets its contract.
use mathlib.Core.Path.{refl, ap}
use Rattle.query.specs.Kinds.{pair_in}
use Rattle.query.proofs.Replying.{decides, compares}
use Rattle.query.proofs.texts.ask_pair.Goals as goal

pub returns-in-EqualText : goal.returns-in-EqualText
returns-in-EqualText c = decides (ap pair_in c.in-EqualText.is) refl c.equal.result c.equal.ensures c.of_truth.ensures

pub returns-in-SameElement : goal.returns-in-SameElement
returns-in-SameElement c = compares (ap pair_in c.in-SameElement.is) refl c.same_element.result c.same_element.ensures c.of_truth-in-SameElement.ensures
