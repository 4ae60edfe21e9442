-- Worked examples of line numbers, asked of the numbers of a store. Assumes nothing.
use Prim.Native.Nat.{ℕ}
use mathlib.Core.Path.{◌≡◌, refl}
use mathlib.Core.List.{List, [], ◌∷◌}
use mathlib.Core.Option as option
use Rattle.definitions.specs.Prelude.{Result, ok, refused, and_then, all, any}
use Rattle.definitions.specs.Prelude as prelude
use Rattle.definitions.specs.Tree.{kind, is_node, children_of, count, text, text_len, size, height, same_numbers, same}
use Rattle.definitions.specs.Lines.{newlines_in, newlines, line_at, after_newline, start_at, is_past_text, is_no_line, line_of, line_start}
use Rattle.definitions.specs.Hash.{rotate_left5, add_word, add_words, token_hash, sharable_over, node_hash, hash, sharable}
use Rattle.definitions.specs.Entry.{Entry, tree_at, trees_at, child_places, own_bytes, text_bytes}
use Rattle.definitions.specs.Sheet.{u32_at, event_count, text_length, word_at, operand_at, code_of, kind_of}
use Rattle.definitions.specs.Refusal.{is_malformed, is_no_register, is_not_zero, is_acceptable, is_unreadable, is_left_over, is_no_node, is_unfinished, is_too_deep, is_too_many, exceeds_limits, is_too_large, exceeds_room, is_overfull, is_full, limited}
use Rattle.definitions.specs.NodeCache.{push, matches, find_from, reuse, share}
use Rattle.definitions.specs.Builder as builder
use Rattle.definitions.specs.Run.{taken, finished, ends_at, follows, run_from, run}
use Rattle.definitions.specs.Run as sheetRun
use Rattle.definitions.proofs.Samples.{Case, All, done, ◌and◌, token_of, start, finish, run_on, entries_t}

-- the line of an offset, and the start of a line, in the text of an element
abbrev line : List Entry → ℕ → ℕ → Result ℕ
line es n x = line_of (tree_at es n) x

abbrev begins : List Entry → ℕ → ℕ → Result ℕ
begins es n k = line_start (tree_at es n) k

abbrev number : ℕ → Result ℕ
number n = ok n

-- the root 3 is over "A\n", which is 0, and over the node 2, which is over "B\r\n", which is 1
abbrev two : List Entry
two = (run_on [] (start 1 ∷ token_of 2 2 ∷ start 3 ∷ token_of 2 3 ∷ finish ∷ finish ∷ []) (65 ∷ 10 ∷ 66 ∷ 13 ∷ 10 ∷ [])).entries

-- byte 13 counts for nothing
abbrev counts : Case
counts = (newlines (tree_at two 0) ≡ 1) ∷ (newlines (tree_at two 1) ≡ 1) ∷ (newlines (tree_at two 2) ≡ 1) ∷ (newlines (tree_at two 3) ≡ 2) ∷ []

-- a newline is in the line that it ends, and one at the end of the text opens a last, empty line
abbrev lines : Case
lines =
    (line two 3 0 ≡ number 1)
    ∷ (line two 3 1 ≡ number 1)
    ∷ (line two 3 2 ≡ number 2)
    ∷ (line two 3 4 ≡ number 2)
    ∷ (line two 3 5 ≡ number 3)
    ∷ (line two 3 6 ≡ refused 5)
    ∷ (line two 2 2 ≡ number 1)
    ∷ []

abbrev starts : Case
starts =
    (begins two 3 0 ≡ refused 5)
    ∷ (begins two 3 1 ≡ number 0)
    ∷ (begins two 3 2 ≡ number 2)
    ∷ (begins two 3 3 ≡ number 5)
    ∷ (begins two 3 4 ≡ refused 5)
    ∷ (begins two 2 2 ≡ number 3)
    ∷ []

-- a text without a newline, and one without a byte, is one line
abbrev childless : List Entry
childless = (run_on [] (start 1 ∷ finish ∷ []) []).entries

abbrev one_line : Case
one_line =
    (line entries_t 3 5 ≡ number 1)
    ∷ (line entries_t 3 6 ≡ refused 5)
    ∷ (begins entries_t 3 1 ≡ number 0)
    ∷ (begins entries_t 3 2 ≡ refused 5)
    ∷ (line childless 0 0 ≡ number 1)
    ∷ (line childless 0 1 ≡ refused 5)
    ∷ (begins childless 0 1 ≡ number 0)
    ∷ (begins childless 0 2 ≡ refused 5)
    ∷ []

-- two newlines in a row have an empty line between them
abbrev blank_line : List Entry
blank_line = (run_on [] (start 1 ∷ token_of 2 2 ∷ finish ∷ []) (10 ∷ 10 ∷ [])).entries

abbrev blank_lines : Case
blank_lines =
    (line blank_line 1 0 ≡ number 1)
    ∷ (line blank_line 1 1 ≡ number 2)
    ∷ (line blank_line 1 2 ≡ number 3)
    ∷ (begins blank_line 1 2 ≡ number 1)
    ∷ (begins blank_line 1 3 ≡ number 2)
    ∷ []

abbrev pub line_examples : List Case
line_examples = counts ∷ lines ∷ starts ∷ one_line ∷ blank_lines ∷ []

pub line_examples_hold : All line_examples
unfolding
    option.bind option.or_else prelude.option and_then all any kind is_node children_of count text text_len size height same_numbers same
    rotate_left5 add_word add_words token_hash sharable_over node_hash hash sharable trees_at child_places own_bytes text_bytes
    u32_at event_count text_length word_at operand_at code_of kind_of
    is_malformed is_no_register is_not_zero is_acceptable is_unreadable is_left_over is_no_node is_unfinished is_too_deep is_too_many exceeds_limits is_too_large exceeds_room is_overfull is_full limited
    push matches find_from reuse share
    builder.waits builder.token builder.opens builder.start_node builder.closes builder.finish_node builder.finish
    sheetRun.event taken finished ends_at follows run_from run
    newlines_in newlines line_at after_newline start_at is_past_text is_no_line line_of line_start
line_examples_hold = refl and refl and refl and refl and refl and refl and refl and refl and refl and refl and refl and refl and refl and refl and refl and refl and refl and refl and refl and refl and refl and refl and refl and refl and refl and refl and refl and refl and refl and refl and done
