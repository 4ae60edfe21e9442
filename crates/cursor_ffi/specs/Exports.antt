-- What an exported question promises: document 01's answer, told as an outcome and words, and every index of the lent path.
use Rattle.std.specs.Prelude.{ℕ, ◌+◌, ◌≤◌, ◌≡◌, List, [], ◌∷◌, cond, length, take, drop, Option as Optional}
use Rattle.std.proofs.Math.Option.{Option, none, some, bind}
use Rattle.std.specs.Borrow.{Bor}
use denote.Triple.Both.{Both}
use Rattle.definitions.specs.Prelude.{Result}
use Rattle.definitions.specs.Tree.{Tree, is_node, text, text_len}
use Rattle.definitions.specs.Entry.{Entry, number_at, text_bytes}
use Rattle.definitions.specs.Element.{Element}
use Rattle.definitions.specs.Query as query
use Rattle.green.specs.Store.{Store, entries, Lists}
use Rattle.green.specs.Layout.{first_of}
use Rattle.cursor.specs.Path.{named}
use Rattle.cursor.specs.Answers.{Tells, answer_at_path}
use Rattle.cursor_range.specs.Answers.{TellsTokens}
use Rattle.utility_types.specs.declared.Refusal.TheVariants.{NoSuchElement}
use Rattle.abi.specs.Outcomes.{with_words, chunk_outcome, refused_by, OutputWritten, answer_told, tokens_told}
use Rattle.utility_types.specs.Numbers.{OrRefusal}
use Rattle.utility_types.specs.declared.SyntaxElement.{SyntaxElement}
use Rattle.utility_types.specs.declared.TokenAtOffset.{TokenAtOffset}

-- a is document 01's answer, l and l' the path as it was lent and as it is given back, m and m' the words, x the outcome
pub record QuestionExported (a : Result query.Answer) (l l' m m' : List ℕ) (x : ℕ) : Type 0 where
  pub answer : OrRefusal (Optional SyntaxElement)
  pub tells : Tells l l' a answer
  pub written : OutputWritten (answer_told answer) m m' x

-- the same of the tokens at an offset, which has two paths
pub record TokensExported (a : Result query.Answer) (l l' r r' m m' : List ℕ) (x : ℕ) : Type 0 where
  pub tokens : OrRefusal TokenAtOffset
  pub tells : TellsTokens l l' r r' a tokens
  pub written : OutputWritten (tokens_told tokens) m m' x

-- both from what an `ensures` has
abbrev pub Asks : Store → ℕ → ℕ → Lists → query.Question → Lists → ℕ → Type 0
Asks s root depth path q words x =
    QuestionExported (answer_at_path (entries s) root depth path.entry.now q) path.entry.now path.exit.now words.entry.now words.exit.now x

abbrev pub AsksTokens : Store → ℕ → ℕ → Lists → Lists → ℕ → Lists → ℕ → Type 0
AsksTokens s root depth left right offset words x =
    TokensExported (answer_at_path (entries s) root depth left.entry.now (query.Question.token_at_offset offset)) left.entry.now left.exit.now right.entry.now right.exit.now words.entry.now words.exit.now x

-- THE TEXT OF A TOKEN, which rowan's handle has: document 01 shows texts in chunks. The token that up to 64 indexes name
unfoldable pub token_of : Element → Option Tree
token_of e = cond (is_node e.tree) none (some e.tree)

unfoldable pub named_token : List Entry → ℕ → ℕ → List ℕ → Option Tree
named_token es r depth l = bind (named es r depth l) token_of

-- where its bytes lie in the lent text b: they are the bytes of its own record, from the first one on. They are in use, so that no later call
-- writes them. An empty token has its place, too
pub record TextLies (es : List Entry) (b : List ℕ) (root : ℕ) (p : List ℕ) (t : Tree) (m m' : List ℕ) (x : ℕ) : Type 0 where
  pub number : ℕ
  pub recorded : number_at es root p ≡ some number
  pub used : first_of es number + text_len t ≤ text_bytes es
  pub within : first_of es number + text_len t ≤ length b
  pub bytes : take (text_len t) (drop (first_of es number) b) ≡ text t
  pub written : OutputWritten (with_words chunk_outcome (first_of es number ∷ (first_of es number + text_len t) ∷ [])) m m' x

-- and 4 where a path names no token
pub record TokenText (es : List Entry) (b : List ℕ) (root : ℕ) (p : List ℕ) (o : Option Tree) (m m' : List ℕ) (x : ℕ) : Type 0 where
  pub token : (t : Tree) → o ≡ some t → TextLies es b root p t m m' x
  pub no_token : o ≡ none → OutputWritten (refused_by NoSuchElement) m m' x

abbrev pub AsksText : {A : Type 0} → Store → ℕ → ℕ → Both (Bor (List ℕ)) A → Lists → ℕ → Type 0
AsksText s root depth path words x =
    TokenText (entries s) s.text root (take depth path.entry.now) (named_token (entries s) root depth path.entry.now) words.entry.now words.exit.now x
