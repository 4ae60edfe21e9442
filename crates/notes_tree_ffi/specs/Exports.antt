-- WHAT EACH EXPORTED CALL PROMISES. In all of them `words` are the lent words, and x is the outcome that is returned.
use Rattle.std.specs.Prelude.{ℕ, ◌≡◌, List, [], ◌∷◌, Bool, get_or}
use Rattle.std.proofs.Math.Option.{Option, none, some}
use Rattle.std.proofs.Math.ListN.{get_elem?}
use denote.Triple.Both.{Both}
use Rattle.green.specs.Store.{Store, limits, entries}
use Rattle.green.specs.Answers.{fields_of, summarized, child_of, placed}
use Rattle.green_new.specs.Done.{Done}
use Rattle.preorder.specs.declared.state.Step.{Step}
use Rattle.preorder.specs.Walks.{next_of, WalkStepped, WalkBegun}
use Rattle.preorder_many.specs.declared.state.Given.{Given}
use Rattle.preorder_many.specs.Many as many
use Rattle.syntax_text_chunks.specs.declared.chunks.Part.{Part}
use Rattle.syntax_text_chunks.specs.Chunks.{part_of, PartLies, ChunkStepped}
use Rattle.query.specs.declared.question.Question.{Question}
use Rattle.query.specs.declared.reply.Reply.{Reply}
use Rattle.query.specs.Answered.{Answered}
use Rattle.sheet_run.specs.RunDone.{RunDone, YieldsDone}
use Rattle.notes_tree.specs.History.{Write, Call, Edit, makes}
use Rattle.notes_tree.specs.Demand3.{WalkCall, WalkAnswer, why_no_more, WalkDone}
use Rattle.abi.specs.Outcomes.{with_words, unknown_outcome, OutputWritten, ended_told, made_told, reply_told, summary_told, child_told, event_told, moved_told, given_told, chunk_told}
use Rattle.abi.specs.WalkWords.{walk_coming, walk_depth, walk_start, walk_root, walk_tokens, WalkInWords, moved_on, begun_in, skipped_in}
use Rattle.notes_tree_ffi.specs.Goes.{Carries, walk_state, WalkNextDone, WalkSkipDone, ChunkStepDone}
use Rattle.utility_types.specs.Numbers.{OrRefusal}
use Rattle.preorder.specs.declared.state.Ahead.{Ahead}
use Rattle.green.specs.declared.element.Summary.{Summary}
use Rattle.green.specs.declared.node.Child.{Child}
use Rattle.sheet.specs.Ended.{Ended}

-- a lent list as the function was called, and as it returns
abbrev pub LentList : Type 0
LentList = Both (List ℕ) (List ℕ)

-- THE RUN OF A SHEET: how it ended, what it did to the store and to the lent yields, and that it is a call of the history
pub record RunExported (s : Both Store Store) (yields : LentList) (sheet source : List ℕ) (words : LentList) (x : ℕ) : Type 0 where
  pub ended : Ended
  pub done : RunDone s sheet source ended
  pub yielded : YieldsDone s.entry yields sheet source
  pub carries : Carries s (Call.write (Write.run sheet source ended yields.exit))
  pub written : OutputWritten (ended_told ended) words.entry words.exit x

-- THE EDITS, each at the place that is its code; numbers that an edit does not use do not matter
abbrev pub edits : ℕ → ℕ → ℕ → List ℕ → List ℕ → List Edit
edits n from to news path =
    Edit.replace_child n from to ∷ Edit.insert_child n from to ∷ Edit.remove_child n from ∷ Edit.splice_children n from to news ∷ Edit.replace_with n from path to ∷ []

abbrev pub edit_of : ℕ → ℕ → ℕ → ℕ → List ℕ → List ℕ → Option Edit
edit_of code n from to news path = get_elem? (edits n from to news path) code

pub record Edited (s : Both Store Store) (e : Edit) (words : LentList) (x : ℕ) : Type 0 where
  pub made : OrRefusal ℕ
  pub done : Done s.entry s.exit (makes e (limits s.entry) (entries s.entry)) made
  pub carries : Carries s (Call.write (Write.edit e made))
  pub written : OutputWritten (made_told made) words.entry words.exit x

-- there is no edit of that code
pub record NoEdit (s : Both Store Store) (words : LentList) (x : ℕ) : Type 0 where
  pub store : s.exit ≡ s.entry
  pub written : OutputWritten (with_words unknown_outcome []) words.entry words.exit x

pub record EditExported (s : Both Store Store) (o : Option Edit) (words : LentList) (x : ℕ) : Type 0 where
  pub known : (e : Edit) → o ≡ some e → Edited s e words x
  pub foreign : o ≡ none → NoEdit s words x

-- WHAT A RECORD KEEPS, and a node's child
pub record ElementExported (s : Store) (n : ℕ) (words : LentList) (x : ℕ) : Type 0 where
  pub of : OrRefusal Summary
  pub is : summarized of ≡ fields_of (entries s) n
  pub written : OutputWritten (summary_told of) words.entry words.exit x

pub record ChildExported (s : Store) (n k : ℕ) (words : LentList) (x : ℕ) : Type 0 where
  pub of : OrRefusal Child
  pub is : placed of ≡ child_of (entries s) n k
  pub written : OutputWritten (child_told of) words.entry words.exit x

-- ANY QUESTION: what `query` promises of the two lent paths and its reply
pub record Replied (s : Store) (root depth : ℕ) (path other : LentList) (q : Question) (words : LentList) (x : ℕ) : Type 0 where
  pub reply : OrRefusal Reply
  pub answered : Answered s root depth path.entry other.entry q path.exit other.exit reply
  pub written : OutputWritten (reply_told reply) words.entry words.exit x

-- there is no question of that code
pub record NoQuestion (path other words : LentList) (x : ℕ) : Type 0 where
  pub path_kept : path.exit ≡ path.entry
  pub other_kept : other.exit ≡ other.entry
  pub written : OutputWritten (with_words unknown_outcome []) words.entry words.exit x

pub record QueryExported (s : Store) (root depth : ℕ) (path other : LentList) (o : Option Question) (words : LentList) (x : ℕ) : Type 0 where
  pub known : (q : Question) → o ≡ some q → Replied s root depth path other q words x
  pub foreign : o ≡ none → NoQuestion path other words x

-- A WALK: its beginning, its steps, a skip, and many steps at once: what the functions of `preorder` and `preorder_many` promise, which are calls of the
-- theorem's lists. The walk's words keep their invariant
pub record WalkBegins (s : Store) (root : ℕ) (tokens : Bool) (depth : ℕ) (l : List ℕ) (walk : LentList) (x : ℕ) : Type 0 where
  pub moved : OrRefusal Ahead
  pub begun : WalkBegun (entries s) root depth l moved
  pub state : walk.exit ≡ begun_in walk.entry root tokens moved
  pub keeps : WalkInWords walk.entry → WalkInWords walk.exit
  pub outcome : x ≡ (moved_told moved).outcome

pub record WalkSteps (s : Store) (walk path words : LentList) (x : ℕ) : Type 0 where
  pub step : Step
  pub stepped : WalkStepped (walk_tokens walk.entry) (walk_start walk.entry) (walk_depth walk.entry) path.entry path.exit (walk_coming walk.entry)
      (next_of (entries s) (walk_root walk.entry) (walk_tokens walk.entry) (walk_start walk.entry) (walk_depth walk.entry) path.entry (walk_coming walk.entry)) step
  pub carried : WalkNextDone (entries s) (walk_root walk.entry) (walk_tokens walk.entry) (walk_start walk.entry) (walk_depth walk.entry) (walk_coming walk.entry) path.entry path.exit step
  pub state : walk.exit ≡ moved_on walk.entry step.coming step.depth
  pub keeps : WalkInWords walk.exit
  pub written : OutputWritten (event_told step.answer) words.entry words.exit x

pub record WalkSkips (walk : LentList) (x : ℕ) : Type 0 where
  pub moved : OrRefusal Ahead
  pub carried : WalkSkipDone (walk_coming walk.entry) (walk_depth walk.entry) moved
  pub state : walk.exit ≡ skipped_in walk.entry moved
  pub keeps : WalkInWords walk.exit
  pub outcome : x ≡ (moved_told moved).outcome

pub record WalkGives (s : Store) (walk path events words : LentList) (x : ℕ) : Type 0 where
  pub given : Given
  pub gave : many.ManyGiven (entries s) (walk_root walk.entry) (walk_tokens walk.entry) (walk_start walk.entry) (many.state path.entry (walk_depth walk.entry) (walk_coming walk.entry))
      (many.state path.exit given.depth given.coming) events.entry events.exit given.count given.stop
  pub carried : WalkDone (entries s) (walk_root walk.entry) (walk_state (walk_tokens walk.entry) (walk_start walk.entry) (walk_depth walk.entry) (walk_coming walk.entry) path.entry) (WalkCall.many events.entry)
      (record {
        answer = WalkAnswer.many given.count (why_no_more given.stop) events.exit;
        state = walk_state (walk_tokens walk.entry) (walk_start walk.entry) given.depth given.coming path.exit;
      })
  pub state : walk.exit ≡ moved_on walk.entry given.coming given.depth
  pub keeps : WalkInWords walk.exit
  pub written : OutputWritten (given_told given.stop given.count) words.entry words.exit x

-- THE CHUNKS of a text: of the two words of their state the first is how many were given, the second what is kept of the next one's place
abbrev pub chunk_given : List ℕ → ℕ
chunk_given w = get_or w 0 0

abbrev pub chunk_kept : List ℕ → ℕ
chunk_kept w = get_or w 1 0

pub record ChunkGives (s : Store) (root depth : ℕ) (l : List ℕ) (start stop : ℕ) (state place : LentList) (text : List ℕ) (words : LentList) (x : ℕ) : Type 0 where
  pub part : Part
  pub outcome : ℕ
  pub stepped : ChunkStepped s root depth l start stop (chunk_given state.entry) place.entry (chunk_kept state.entry) (chunk_given state.exit) place.exit (chunk_kept state.exit) outcome (part_of text part)
  pub carried : ChunkStepDone s root depth l start stop (chunk_given state.entry) place.entry (chunk_kept state.entry) 0 (chunk_given state.exit) place.exit (chunk_kept state.exit) outcome (part_of text part)
  pub lies : PartLies (entries s) root depth l start stop (chunk_given state.entry) outcome text part
  pub written : OutputWritten (chunk_told outcome part.from part.to) words.entry words.exit x
