-- The questions that are answered alike, and what is promised of each kind.
use Rattle.std.specs.Prelude.{ℕ, ◌≡◌, List, Option as Optional}
use Rattle.std.specs.Borrow.{Bor}
use denote.Triple.Both.{Both}
use Rattle.definitions.specs.Prelude.{Result}
use Rattle.definitions.specs.Query as query
use Rattle.green.specs.Store.{Store, entries, Lists}
use Rattle.utility_types.specs.declared.Direction.TheVariants.{Next, Prev}
use Rattle.cursor.specs.declared.path.Path.{Path}
use Rattle.cursor.specs.Answers.{Tells}
use Rattle.query.specs.declared.question.Question.{Question}
use Rattle.query.specs.declared.question.Question.TheVariants as question
use Rattle.query.specs.declared.question.ElementQuestion.{ElementQuestion}
use Rattle.query.specs.declared.question.ElementQuestion.TheVariants as element
use Rattle.query.specs.declared.question.TextQuestion.{TextQuestion}
use Rattle.query.specs.declared.question.TextQuestion.TheVariants as text
use Rattle.query.specs.declared.question.PairQuestion.{PairQuestion}
use Rattle.query.specs.declared.question.PairQuestion.TheVariants as pair
use Rattle.query.specs.declared.question.Kind.{Kind}
use Rattle.query.specs.declared.question.Kind.TheVariants as kind
use Rattle.query.specs.declared.reply.Reply.{Reply}
use Rattle.query.specs.Answered.{has_answer, question_of, Answered}
use Rattle.utility_types.specs.Numbers.{OrRefusal}
use Rattle.utility_types.specs.declared.SyntaxElement.{SyntaxElement}

-- the question that each is
abbrev pub element_in : ElementQuestion → Question
element_in element.Here = question.Here
element_in element.Parent = question.Parent
element_in (element.Child Next tokens) = question.FirstChild tokens
element_in (element.Child Prev tokens) = question.LastChild tokens
element_in (element.Sibling Next tokens) = question.NextSibling tokens
element_in (element.Sibling Prev tokens) = question.PrevSibling tokens
element_in element.FirstToken = question.FirstToken
element_in element.LastToken = question.LastToken
element_in element.NextToken = question.NextToken
element_in element.PrevToken = question.PrevToken
element_in (element.ChildOrTokenAtRange a b) = question.ChildOrTokenAtRange a b
element_in (element.CoveringElement a b) = question.CoveringElement a b

abbrev pub text_in : TextQuestion → Question
text_in (text.Len a b) = question.TextLen a b
text_in (text.Slice a b from to) = question.Slice a b from to
text_in (text.Contains a b c) = question.Contains a b c
text_in (text.Find a b c) = question.Find a b c
text_in (text.CharAt a b x) = question.CharAt a b x

abbrev pub pair_in : PairQuestion → Question
pair_in (pair.EqualText a b r d a' b') = question.EqualText a b r d a' b'
pair_in (pair.SameElement r d) = question.SameElement r d

abbrev pub question_in : Kind → Question
question_in (kind.Element q) = element_in q
question_in (kind.TokenAtOffset x) = question.TokenAtOffset x
question_in kind.NodeText = question.Text
question_in (kind.Walk tokens) = question.Walk tokens
question_in (kind.Text q) = text_in q
question_in (kind.Pair q) = pair_in q
question_in (kind.WhereIs n) = question.WhereIs n

-- x answers q, whatever the second path is
pub record ElementAnswered (s : Store) (root depth : ℕ) (l : List ℕ) (q : Question) (l' : List ℕ) (x : OrRefusal (Optional SyntaxElement)) : Type 0 where
  pub answer : Result query.Answer
  pub question : (m : List ℕ) → question_of (entries s) root depth l m q ≡ has_answer answer
  pub tells : Tells l l' answer x

-- the same from what an `ensures` has, and of a reply that changes no path
abbrev pub AnswersElement : Store → ℕ → ℕ → Lists → Question → OrRefusal (Optional SyntaxElement) → Type 0
AnswersElement s root depth path q x = ElementAnswered s root depth path.entry.now q path.exit.now x

abbrev pub RepliesText : Store → Path → Question → OrRefusal Reply → Type 0
RepliesText s p q x = (m : List ℕ) → Answered s p.root p.depth p.indexes.now m q p.indexes.now m x

abbrev pub RepliesPair : {A : Type 0} → Store → Path → Both (Bor (List ℕ)) A → Question → OrRefusal Reply → Type 0
RepliesPair s p other q x = Answered s p.root p.depth p.indexes.now other.entry.now q p.indexes.now other.entry.now x
