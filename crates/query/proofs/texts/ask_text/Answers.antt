-- `ask_text` meets its contract.
use mathlib.Core.Path.{refl, ap}
use Rattle.query.specs.Kinds.{text_in}
use Rattle.query.proofs.Replying.{measures, shows, decides, locates, reads}
use Rattle.query.proofs.texts.ask_text.Goals as goal

pub returns-in-Len : goal.returns-in-Len
returns-in-Len c = λ m. measures (ap text_in c.in-Len.is) refl c.len.result c.len.ensures c.of_length.ensures

pub returns-in-Slice : goal.returns-in-Slice
returns-in-Slice c = λ m. shows (ap text_in c.in-Slice.is) refl c.slice.result c.slice.ensures c.of_text.ensures

pub returns-in-Contains : goal.returns-in-Contains
returns-in-Contains c = λ m. decides (ap text_in c.in-Contains.is) refl c.contains_char.result c.contains_char.ensures c.of_truth.ensures

pub returns-in-Find : goal.returns-in-Find
returns-in-Find c = λ m. locates (ap text_in c.in-Find.is) refl c.find_char.result c.find_char.ensures c.of_offset.ensures

pub returns-in-CharAt : goal.returns-in-CharAt
returns-in-CharAt c = λ m. reads (ap text_in c.in-CharAt.is) refl c.char_at.result c.char_at.ensures c.of_character.ensures
