-- Which outcome and which words each answer is.
use Rattle.std.specs.Prelude.{ℕ, zero, suc, ◌+◌, ◌≡◌, List, [], ◌∷◌, Bool, true, false, Ok, Err, Some, None, Option as Optional}
use Rattle.std.proofs.lemmas.List.Edits.{sets}
use Rattle.green.specs.Store.{Lists}
use Rattle.utility_types.specs.Numbers.{refusal_number, OrRefusal}
use Rattle.utility_types.specs.declared.Refusal.{Refusal}
use Rattle.utility_types.specs.declared.SyntaxElement.{SyntaxElement}
use Rattle.utility_types.specs.declared.WalkEvent.TheVariants.{Enter, Leave}
use Rattle.utility_types.specs.declared.TokenAtOffset.{TokenAtOffset}
use Rattle.utility_types.specs.declared.TokenAtOffset.TheVariants as tokens
use Rattle.utility_types.specs.declared.WalkEvent.{WalkEvent}
use Rattle.preorder_many.specs.declared.state.Stop.{Stop}
use Rattle.preorder_many.specs.declared.state.Stop.TheVariants as stop
use Rattle.query.specs.declared.reply.Reply.{Reply}
use Rattle.query.specs.declared.reply.Reply.TheVariants as reply
use Rattle.preorder.specs.declared.state.Ahead.{Ahead}
use Rattle.green.specs.declared.element.Summary.{Summary}
use Rattle.green.specs.declared.node.Child.{Child}
use Rattle.syntax_text_chunks.specs.declared.chunks.Part.{Part}
use Rattle.sheet.specs.Ended.{Ended}

-- what a call returns, and the words that it writes
pub record Output : Type 0 where
  pub outcome : ℕ
  pub words : List ℕ

abbrev pub with_words : ℕ → List ℕ → Output
with_words n ws = record { outcome = n; words = ws }

-- THE OUTCOMES, as notes_tree.h names them. A refusal by document 01's number n is 100 + n; 99 says that there is no call or question of that code
abbrev pub none_outcome : ℕ
none_outcome = 0

abbrev pub token_outcome : ℕ
token_outcome = 1

abbrev pub node_outcome : ℕ
node_outcome = 2

abbrev pub pair_outcome : ℕ
pair_outcome = 3

abbrev pub text_outcome : ℕ
text_outcome = 4

abbrev pub number_outcome : ℕ
number_outcome = 5

abbrev pub yes_outcome : ℕ
yes_outcome = 6

abbrev pub no_outcome : ℕ
no_outcome = 7

abbrev pub done_outcome : ℕ
done_outcome = 8

abbrev pub path_outcome : ℕ
path_outcome = 9

abbrev pub enter_outcome : ℕ
enter_outcome = 10

abbrev pub leave_outcome : ℕ
leave_outcome = 11

abbrev pub chunk_outcome : ℕ
chunk_outcome = 12

abbrev pub full_outcome : ℕ
full_outcome = 13

abbrev pub unknown_outcome : ℕ
unknown_outcome = 99

abbrev pub refused_by : Refusal → Output
refused_by x = with_words (100 + refusal_number x) []

-- an element: a token or a node; start, end, how many indexes of its path lead to it, kind
abbrev pub element_kind : Bool → ℕ
element_kind true = node_outcome
element_kind false = token_outcome

abbrev pub element_words : SyntaxElement → List ℕ
element_words e = e.start ∷ e.end ∷ e.depth ∷ e.kind.0 ∷ []

abbrev pub element_told : SyntaxElement → Output
element_told e = with_words (element_kind e.is_node) (element_words e)

abbrev pub answer_told : OrRefusal (Optional SyntaxElement) → Output
answer_told (Ok (Some e)) = element_told e
answer_told (Ok None) = with_words none_outcome []
answer_told (Err x) = refused_by x

-- one token, or two, the left one's words first
abbrev pub at_offset_told : TokenAtOffset → Output
at_offset_told tokens.None = with_words none_outcome []
at_offset_told (tokens.Single e) = with_words token_outcome (element_words e)
at_offset_told (tokens.Between e f) = with_words pair_outcome (e.start ∷ e.end ∷ e.depth ∷ e.kind.0 ∷ f.start ∷ f.end ∷ f.depth ∷ f.kind.0 ∷ [])

abbrev pub tokens_told : OrRefusal TokenAtOffset → Output
tokens_told (Ok t) = at_offset_told t
tokens_told (Err x) = refused_by x

abbrev pub truth_told : Bool → Output
truth_told true = with_words yes_outcome []
truth_told false = with_words no_outcome []

-- a reply of the dispatcher: a text is its start and end, a walk that begins is done, a path how many indexes it has
abbrev pub reply_told : OrRefusal Reply → Output
reply_told (Ok reply.None) = with_words none_outcome []
reply_told (Ok (reply.Element e)) = element_told e
reply_told (Ok (reply.Tokens t)) = at_offset_told t
reply_told (Ok (reply.Text from to)) = with_words text_outcome (from ∷ to ∷ [])
reply_told (Ok (reply.Number n)) = with_words number_outcome (n ∷ [])
reply_told (Ok (reply.Truth b)) = truth_told b
reply_told (Ok (reply.Walk a)) = with_words done_outcome []
reply_told (Ok (reply.Path d)) = with_words path_outcome (d ∷ [])
reply_told (Err x) = refused_by x

-- what a call that makes records answers, and the run of a sheet: a refused one says which event it was
abbrev pub made_told : OrRefusal ℕ → Output
made_told (Ok n) = with_words number_outcome (n ∷ [])
made_told (Err x) = refused_by x

abbrev pub ended_told : Ended → Output
ended_told (Ok n) = with_words number_outcome (n ∷ [])
ended_told (Err (x, i)) = with_words (100 + refusal_number x) (i ∷ [])

-- a walk's event: the element's words, then 1 for a node and 0 for a token
abbrev pub bit : Bool → ℕ
bit true = 1
bit false = 0

abbrev pub step_words : SyntaxElement → List ℕ
step_words e = e.start ∷ e.end ∷ e.depth ∷ e.kind.0 ∷ bit e.is_node ∷ []

abbrev pub event_told : OrRefusal (Optional WalkEvent) → Output
event_told (Ok (Some (Enter e))) = with_words enter_outcome (step_words e)
event_told (Ok (Some (Leave e))) = with_words leave_outcome (step_words e)
event_told (Ok None) = with_words none_outcome []
event_told (Err x) = refused_by x

-- a walk that begins or is skipped on
abbrev pub moved_told : OrRefusal Ahead → Output
moved_told (Ok a) = with_words done_outcome []
moved_told (Err x) = refused_by x

-- many events: why no more came, and how many did. Only the first event can be refused (`Stops` in preorder_many), so that a refused call
-- has no events to count, and writes no word
abbrev pub given_told : Stop → ℕ → Output
given_told stop.Full n = with_words full_outcome (n ∷ [])
given_told stop.Over n = with_words none_outcome (n ∷ [])
given_told (stop.Refused x) n = refused_by x

-- a chunk's outcome is 0, the end's 1, else a refusal's number; where the chunk starts and ends in the store's text
abbrev pub chunk_told : ℕ → ℕ → ℕ → Output
chunk_told zero from to = with_words chunk_outcome (from ∷ to ∷ [])
chunk_told (suc zero) from to = with_words none_outcome []
chunk_told (suc (suc o)) from to = with_words (100 + suc (suc o)) []

-- the same of what a chunk step answers
abbrev pub part_told : OrRefusal (Optional Part) → Output
part_told (Ok (Some r)) = with_words chunk_outcome (r.from ∷ r.to ∷ [])
part_told (Ok None) = with_words none_outcome []
part_told (Err x) = refused_by x

-- what a record keeps of its element, and a node's child: its number, and its offset in the node
abbrev pub summary_told : OrRefusal Summary → Output
summary_told (Ok s) = with_words (element_kind s.is_node) (s.kind.0 ∷ s.len ∷ s.size ∷ s.height ∷ s.children ∷ [])
summary_told (Err x) = refused_by x

abbrev pub child_told : OrRefusal Child → Output
child_told (Ok c) = with_words number_outcome (c.number ∷ c.offset ∷ [])
child_told (Err x) = refused_by x

-- IT IS TOLD: the outcome r is returned, and of the lent words just those of the answer are written, from the first on
pub record OutputWritten (t : Output) (m m' : List ℕ) (r : ℕ) : Type 0 where
  pub outcome : r ≡ t.outcome
  pub words : m' ≡ sets m 0 t.words

-- the same from what an `ensures` has
abbrev pub Puts : Lists → Output → ℕ → Type 0
Puts words t r = OutputWritten t words.entry.now words.exit.now r

-- outcome and words of two calls are the same
pub record SameOutput (m₁ m₂ : List ℕ) (x₁ x₂ : ℕ) : Type 0 where
  pub outcome : x₁ ≡ x₂
  pub words : m₁ ≡ m₂
