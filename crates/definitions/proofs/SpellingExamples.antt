-- Worked examples of what calls spell, and of the list of spellings. Assumes nothing.
use Prim.Native.Nat.{ℕ}
use mathlib.Core.Path.{◌≡◌, refl}
use mathlib.Core.List.{List, [], ◌∷◌, map, foldl}
use mathlib.Core.Bool.{Bool, true, false}
use Rattle.definitions.specs.Prelude.{all, option}
use Rattle.definitions.specs.Tree.{Tree, node, nil, cons, kind, children_of, trees, forest, same_numbers, same}
use Rattle.definitions.specs.Hash.{rotate_left5, add_word, add_words, token_hash, sharable_over, node_hash, hash, sharable}
use Rattle.definitions.specs.Sheet.{u32_at, event_count, word_at, operand_at, code_of, kind_of}
use Rattle.definitions.specs.Run.{taken}
use Rattle.definitions.specs.Spelling.{Spelling, earlier, shared_place, with_event, event_place, with_edit}
use Rattle.definitions.specs.TreeBuilder.{new, waits, still, closes, opens, step, Yield, events_from}
use Rattle.definitions.specs.TreeEdit.{put, new_ancestors}
use Rattle.definitions.specs.EditCall.{Edit, spells}
use Rattle.definitions.specs.Log.{Log, nothing, after_event, after_edit}
use Rattle.definitions.proofs.Samples.{Case, All, done, ◌and◌, token_of, finish, checkpoint, start_at, sheet_of, bs, blank, twelve, tree_t}

abbrev yield : ℕ → Tree → Yield
yield n t = record { number = n; tree = t }

-- "BS", a node over it and over " " that starts at the checkpoint before it, and a finish: what each yields is told by its word
abbrev wrapped : List ℕ
wrapped = sheet_of (checkpoint 3 ∷ token_of 2 2 ∷ start_at 6 3 ∷ token_of 3 1 ∷ finish ∷ []) (66 ∷ 83 ∷ 32 ∷ [])

abbrev over_both : Tree
over_both = node 6 (cons bs (cons blank nil))

abbrev events : Case
events =
    (events_from wrapped (9 ∷ 0 ∷ 9 ∷ 1 ∷ 2 ∷ []) 0 5 new (66 ∷ 83 ∷ 32 ∷ []) ≡ yield 0 bs ∷ yield 1 blank ∷ yield 2 over_both ∷ [])
    ∷ (events_from wrapped (9 ∷ 0 ∷ 9 ∷ 1 ∷ 2 ∷ []) 0 2 new (66 ∷ 83 ∷ 32 ∷ []) ≡ yield 0 bs ∷ [])
    ∷ []

-- an event that shares adds nothing, and has the place of the event before it: "BS" twice, then twice a node over four, which is not sharable; an edit's
-- spelling is shared by none
abbrev four : Tree
four = node 1 (cons bs (cons bs (cons bs (cons bs nil))))

abbrev spelled : Tree → Bool → Spelling
spelled t e = record { tree = t; event = e }

abbrev twice : Log
twice = foldl after_event nothing (yield 0 bs ∷ yield 0 bs ∷ yield 1 four ∷ yield 2 four ∷ [])

abbrev shared : Case
shared =
    (twice.spellings ≡ spelled bs true ∷ spelled four true ∷ spelled four true ∷ [])
    ∷ (map (λ e. e.place) twice.events ≡ 0 ∷ 0 ∷ 1 ∷ 2 ∷ [])
    ∷ (with_event (spelled bs false ∷ []) bs ≡ spelled bs false ∷ spelled bs true ∷ [])
    ∷ (event_place (spelled bs false ∷ []) bs ≡ 1)
    ∷ []

-- an element below another: each ancestor is spelled anew, the lowest first; at the root itself none is
abbrev outer : Tree
outer = node 9 (cons blank (cons over_both nil))

abbrev corrected : Tree
corrected = node 6 (cons bs (cons twelve nil))

abbrev replaced : Case
replaced =
    (put outer (1 ∷ 1 ∷ []) twelve ≡ node 9 (cons blank (cons corrected nil)))
    ∷ (new_ancestors outer (1 ∷ 1 ∷ []) twelve ≡ corrected ∷ node 9 (cons blank (cons corrected nil)) ∷ [])
    ∷ (put outer [] twelve ≡ twelve)
    ∷ (new_ancestors outer [] twelve ≡ [])
    ∷ []

-- the edits of T, which is spelled last of four
abbrev four_spelled : List Spelling
four_spelled = spelled bs true ∷ spelled blank true ∷ spelled twelve true ∷ spelled tree_t true ∷ []

abbrev edits : Case
edits =
    ((spells (Edit.replace_child 3 0 2) four_spelled).tree ≡ node 1 (cons twelve (cons blank (cons twelve nil))))
    ∷ ((spells (Edit.replace_child 3 3 2) four_spelled).tree ≡ tree_t)
    ∷ ((spells (Edit.insert_child 3 1 2) four_spelled).tree ≡ node 1 (cons bs (cons twelve (cons blank (cons twelve nil)))))
    ∷ ((spells (Edit.remove_child 3 1) four_spelled).tree ≡ node 1 (cons bs (cons twelve nil)))
    ∷ ((spells (Edit.splice_children 3 1 3 (0 ∷ 1 ∷ [])) four_spelled).tree ≡ node 1 (cons bs (cons bs (cons blank nil))))
    ∷ (spells (Edit.replace_with 3 1 (1 ∷ 7 ∷ []) 2) four_spelled ≡ record { adds = node 1 (cons bs (cons twelve (cons twelve nil))) ∷ []; place = 4; tree = node 1 (cons bs (cons twelve (cons twelve nil))) })
    ∷ (spells (Edit.replace_with 3 0 (1 ∷ 7 ∷ []) 2) four_spelled ≡ record { adds = []; place = 2; tree = twelve })
    ∷ (with_edit four_spelled (bs ∷ []) ≡ spelled bs true ∷ spelled blank true ∷ spelled twelve true ∷ spelled tree_t true ∷ spelled bs false ∷ [])
    ∷ ((after_edit (record { spellings = four_spelled; events = []; edits = [] }) (Edit.remove_child 3 1) 4).edits ≡ record { number = 4; place = 4; tree = node 1 (cons bs (cons twelve nil)) } ∷ [])
    ∷ []

abbrev pub spelling_examples : List Case
spelling_examples = events ∷ shared ∷ replaced ∷ edits ∷ []

pub spelling_examples_hold : All spelling_examples
unfolding
    all option kind children_of trees forest same_numbers same rotate_left5 add_word add_words token_hash sharable_over node_hash hash sharable
    u32_at event_count word_at operand_at code_of kind_of taken earlier shared_place with_event event_place waits still closes opens step events_from put new_ancestors after_event after_edit
spelling_examples_hold = refl and refl and refl and refl and refl and refl and refl and refl and refl and refl and refl and refl and refl and refl and refl and refl and refl and refl and refl and done
