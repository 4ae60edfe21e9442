-- Which question and which edit a code and its operands are.
use Rattle.std.specs.Prelude.{ℕ, zero, suc, min, List, [], ◌∷◌, Bool, true, false, get_or, Some, None, Option as Optional}
use Rattle.std.proofs.Math.Option.{Option, none, some}
use Rattle.std.proofs.Math.ListN.{get_elem?}
use Rattle.query.specs.declared.question.Question.{Question}
use Rattle.query.specs.declared.question.Question.TheVariants as question

-- operand i of m
abbrev pub operand : List ℕ → ℕ → ℕ
operand m i = get_or m i 0

-- 0 says nodes only, any other number with tokens
abbrev pub flag : ℕ → Bool
flag zero = false
flag (suc n) = true

-- a character's number; one that does not fit in 32 bits is the greatest that does, which no character has either
abbrev pub character : ℕ → ℕ
character x = min x 4294967295

-- THE QUESTIONS, each at the place that is its code; a text's start and end are the first operands
abbrev pub questions : List ℕ → List Question
questions m =
    question.Here
    ∷ question.Parent
    ∷ question.FirstChild false
    ∷ question.LastChild false
    ∷ question.FirstChild true
    ∷ question.LastChild true
    ∷ question.NextSibling false
    ∷ question.PrevSibling false
    ∷ question.NextSibling true
    ∷ question.PrevSibling true
    ∷ question.FirstToken
    ∷ question.LastToken
    ∷ question.NextToken
    ∷ question.PrevToken
    ∷ question.TokenAtOffset (operand m 0)
    ∷ question.ChildOrTokenAtRange (operand m 0) (operand m 1)
    ∷ question.CoveringElement (operand m 0) (operand m 1)
    ∷ question.SameElement (operand m 0) (operand m 1)
    ∷ question.WhereIs (operand m 0)
    ∷ question.Text
    ∷ question.Slice (operand m 0) (operand m 1) (operand m 2) (operand m 3)
    ∷ question.TextLen (operand m 0) (operand m 1)
    ∷ question.Contains (operand m 0) (operand m 1) (character (operand m 2))
    ∷ question.Find (operand m 0) (operand m 1) (character (operand m 2))
    ∷ question.CharAt (operand m 0) (operand m 1) (operand m 2)
    ∷ question.EqualText (operand m 0) (operand m 1) (operand m 2) (operand m 3) (operand m 4) (operand m 5)
    ∷ []

abbrev pub coded_question : ℕ → List ℕ → Option Question
coded_question code m = get_elem? (questions m) code

abbrev pub coded_as : Optional Question → Option Question
coded_as (Some q) = some q
coded_as None = none
