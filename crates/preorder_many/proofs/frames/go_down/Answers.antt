-- `go_down` meets its contract.
use borrow.Author.Tests.{not-true, not-false}
use Rattle.definitions.proofs.Laws.{false≢true}
use Rattle.preorder_many.proofs.Framing.{fits}
use Rattle.preorder_many.proofs.Down.{no_node, no_element, a_node, a_token}
use Rattle.preorder_many.proofs.frames.go_down.Goals as goal

pub returns-in_default : goal.returns-in_default
returns-in_default c = record { ready = λ e. absurd (false≢true e); coming = λ e. no_node c.root_node-top.ensures c.args.with_tokens c.args.path.indexes.now c.requires.0 c.in_default.is }

pub returns-then-not-descend : goal.returns-then-not-descend
returns-then-not-descend c = record { ready = λ e. absurd (false≢true e); coming = λ e. no_element c.root_node-top.ensures c.args.with_tokens c.args.path.indexes.now c.requires.0 c.in-Ok.is (c.descend.ensures.none_value (not-true _ c.if-not-descend.true-raw)) }

pub returns : goal.returns
returns c = record { ready = λ e. a_node (c.descend.ensures.framed (not-false _ c.if-not-descend.false-raw)) c.is_node.ensures e; coming = λ e. a_token (c.descend.ensures.framed (not-false _ c.if-not-descend.false-raw)) c.is_node.ensures (fits c.requires.1) c.if-with_tokens.false e }
