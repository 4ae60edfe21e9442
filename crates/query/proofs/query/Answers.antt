-- `query` meets its contract.
use mathlib.Core.Path.{refl, ap, ◌∙◌}
use Rattle.query.specs.Kinds.{question_in}
use Rattle.query.proofs.Replying.{as_question, answers, finds, shows, walks, searches}
use Rattle.query.proofs.query.Goals as goal

pub returns-in-Element : goal.returns-in-Element
returns-in-Element c = answers (c.kind_of-what.ensures ∙ ap question_in c.in-Element.is) (c.ask_element-answer.ensures.question _) c.ask_element-answer.ensures.tells c.of_answer.ensures

pub returns-in-TokenAtOffset : goal.returns-in-TokenAtOffset
returns-in-TokenAtOffset c = finds (c.kind_of-what.ensures ∙ ap question_in c.in-TokenAtOffset.is) refl c.token_at_offset-answer.ensures c.of_tokens.ensures

pub returns-in-NodeText : goal.returns-in-NodeText
returns-in-NodeText c = shows (c.kind_of-what.ensures ∙ ap question_in c.in-NodeText.is) refl c.text_of-answer.result c.text_of-answer.ensures c.of_text.ensures

pub returns-in-Walk : goal.returns-in-Walk
returns-in-Walk c = walks (c.kind_of-what.ensures ∙ ap question_in c.in-Walk.is) refl c.begin-answer.result (c.begin-answer.ensures.says _) c.of_moved.ensures

pub returns-in-Text : goal.returns-in-Text
returns-in-Text c = as_question (c.kind_of-what.ensures ∙ ap question_in c.in-Text.is) (c.ask_text.ensures _)

pub returns-in-Pair : goal.returns-in-Pair
returns-in-Pair c = as_question (c.kind_of-what.ensures ∙ ap question_in c.in-Pair.is) c.ask_pair.ensures

pub returns-in-WhereIs : goal.returns-in-WhereIs
returns-in-WhereIs c = searches (c.kind_of-what.ensures ∙ ap question_in c.in-WhereIs.is) refl c.where_is-answer.ensures c.of_whereabouts.ensures
