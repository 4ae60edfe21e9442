-- `element` meets its contract.
use mathlib.Core.Path.{sym, ◌∙◌}
use Rattle.green.proofs.Known.{known}
use Rattle.green.proofs.Answering.{no_element, an_element}
use Rattle.green.proofs.Store.element.Goals as goal

pub returns-then-self-n : goal.returns-then-self-n
returns-then-self-n c = no_element _ c.args.self.valid c.args.n c.if-self-n.true

pub returns-then-is_node : goal.returns-then-is_node
returns-then-is_node c = an_element _ c.args.n (known _ c.args.self.valid c.args.n c.if-self-n.false) _ (sym c.is_node.ensures ∙ c.if-is_node.true)

pub returns : goal.returns
returns c = an_element _ c.args.n (known _ c.args.self.valid c.args.n c.if-self-n.false) _ (sym c.is_node.ensures ∙ c.if-is_node.false)
