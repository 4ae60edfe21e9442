-- `token_event` meets its contract.
use mathlib.Core.Path.{refl, sym, ◌∙◌}
use borrow.Author.Tests.{not-true, not-false}
use Rattle.definitions.proofs.Judging.{text_short, text_bad, text_good}
use Rattle.builder.proofs.Steps.{stepped_refused}
use borrow.Author.Rules.{rules}
use Rattle.sheet.proofs.Parts.{of_parts}
use Rattle.sheet.proofs.event.token_event.Goals as goal

pub returns-then-left-len-clause-does : goal.returns-then-left-len-clause-does
returns-then-left-len-clause-does c = stepped_refused c.requires (text_short _ _ _ _ _ c.if-left-len.true) refl

pub returns-then-not-is_acceptable-clause-does : goal.returns-then-not-is_acceptable-clause-does
returns-then-not-is_acceptable-clause-does c = stepped_refused c.requires (text_bad _ _ _ _ _ c.if-left-len.false (sym c.is_acceptable.ensures ∙ not-true _ c.if-not-is_acceptable.true-raw)) refl

pub returns-clause-does : goal.returns-clause-does
returns-clause-does c = rw (text_good _ _ _ _ _ c.if-left-len.false (sym c.is_acceptable.ensures ∙ not-false _ c.if-not-is_acceptable.false-raw)) (of_parts c.token.ensures.does (search rules) (search rules) (search rules) (search rules))
