-- What `token_at_offset` says, with the two paths that the caller lent, and what they hold after it.
use Rattle.std.specs.Prelude.{ℕ, ◌≤◌, ◌≡◌, List, ◌++◌, take, drop, Ok, Err}
use Rattle.definitions.specs.Prelude.{Result}
use Rattle.definitions.specs.Entry.{Entry}
use Rattle.definitions.specs.Query as query
use Rattle.utility_types.specs.Numbers.{OrRefusal, told}
use Rattle.utility_types.specs.Elements.{tokens_at}
use Rattle.utility_types.specs.declared.SyntaxElement.{SyntaxElement}
use Rattle.utility_types.specs.declared.TokenAtOffset.{TokenAtOffset}
use Rattle.utility_types.specs.declared.TokenAtOffset.TheVariants as answer
use Rattle.green.specs.Store.{Store, entries, Lists}
use Rattle.cursor.specs.declared.position.Cursor.{Cursor}
use Rattle.cursor.specs.Position.{Placed, NamesElement}
use Rattle.cursor.specs.Answers.{answer_at_path}
use Rattle.cursor_range.specs.declared.tokens.Hits.{Hits}
use Rattle.cursor_range.specs.declared.tokens.Hits.TheVariants.{Nothing, Single, Between}

-- the cursors of what is found are in order
abbrev pub AllPlaced : Store → Hits → Type 0
AllPlaced s Nothing = Unit {0}
AllPlaced s (Single a) = Placed s a
AllPlaced s (Between a b) = Placed s a × Placed s b

-- each token that is found, as answers name it
pub data Told (es : List Entry) : Hits → TokenAtOffset → Type 0 where
  nothing : Told es Nothing answer.None
  single : {a : Cursor} {e : SyntaxElement} → NamesElement es a e → Told es (Single a) (answer.Single e)
  between : {a b : Cursor} {e f : SyntaxElement} → NamesElement es a e → NamesElement es b f → Told es (Between a b) (answer.Between e f)

-- the right one of two tokens has its first d indexes in common with the left one
abbrev pub right_path : Hits → ℕ → List ℕ → List ℕ → List ℕ
right_path Nothing d l r = r
right_path (Single a) d l r = r
right_path (Between a b) d l r = take d l ++ drop d r

abbrev pub says_tokens : List ℕ → List ℕ → OrRefusal TokenAtOffset → Result query.Answer
says_tokens l r x = told (λ t. query.Answer.elements (tokens_at l r t)) x

-- an element has at most 64 indexes, and past them its path keeps what it held
abbrev pub Behind : List ℕ → List ℕ → SyntaxElement → Type 0
Behind l l' e = (e.depth ≤ 64) × (drop e.depth l' ≡ drop e.depth l)

-- each path keeps what it held past its token's indexes, and all of it if it has no token
abbrev pub KeptTokens : List ℕ → List ℕ → List ℕ → List ℕ → OrRefusal TokenAtOffset → Type 0
KeptTokens l l' r r' (Ok answer.None) = (l' ≡ l) × (r' ≡ r)
KeptTokens l l' r r' (Ok (answer.Single e)) = Behind l l' e × (r' ≡ r)
KeptTokens l l' r r' (Ok (answer.Between e f)) = Behind l l' e × Behind r r' f
KeptTokens l l' r r' (Err w) = (l' ≡ l) × (r' ≡ r)

-- l and r are the paths as they were lent, and l' and r' as they are given back
pub record TellsTokens (l l' r r' : List ℕ) (a : Result query.Answer) (t : OrRefusal TokenAtOffset) : Type 0 where
  pub says : says_tokens l' r' t ≡ a
  pub kept : KeptTokens l l' r r' t

-- WHAT `token_at_offset` PROMISES, from what an `ensures` has: the paths as the function was called and as it returns
abbrev pub AnswersTokens : Store → ℕ → ℕ → Lists → Lists → ℕ → OrRefusal TokenAtOffset → Type 0
AnswersTokens s root depth left right x t =
    TellsTokens left.entry.now left.exit.now right.entry.now right.exit.now (answer_at_path (entries s) root depth left.entry.now (query.Question.token_at_offset x)) t
