-- The numbers of the calls of a script.
use Rattle.std.specs.Prelude.{ℕ, ◌≡◌, ◌≢◌, Option, None, Some}
use Rattle.std.specs.declared.result.Result.{Result}
use Rattle.std.specs.declared.result.Result.TheVariants.{Ok, Err}
use Rattle.script.specs.declared.op.Op.{Op}
use Rattle.script.specs.declared.op.Op.TheVariants.{Store, Run, RunEvents, ReplaceChild, InsertChild, RemoveChild, SpliceChildren, ReplaceWith, Here, Parent, FirstChild, LastChild, FirstChildOrToken, LastChildOrToken, NextSibling, PrevSibling, NextSiblingOrToken, PrevSiblingOrToken, FirstToken, LastToken, NextToken, PrevToken, TokenAtOffset, ChildOrTokenAtRange, CoveringElement, SameElement, WhereIs, WalkBegin, WalkNext, WalkSkip, WalkMany, TextOf, TextSlice, TextLength, ChunkBegin, ChunkNext, TextContains, TextFind, TextCharAt, TextEqual, Element, Mark, Record}
use Rattle.script.specs.declared.op.NotOffered.{NotOffered}

abbrev pub number_of : Op → ℕ
number_of Store = 1
number_of Run = 2
number_of RunEvents = 3
number_of ReplaceChild = 10
number_of InsertChild = 11
number_of RemoveChild = 12
number_of SpliceChildren = 13
number_of ReplaceWith = 14
number_of Here = 20
number_of Parent = 21
number_of FirstChild = 22
number_of LastChild = 23
number_of FirstChildOrToken = 24
number_of LastChildOrToken = 25
number_of NextSibling = 26
number_of PrevSibling = 27
number_of NextSiblingOrToken = 28
number_of PrevSiblingOrToken = 29
number_of FirstToken = 30
number_of LastToken = 31
number_of NextToken = 32
number_of PrevToken = 33
number_of TokenAtOffset = 34
number_of ChildOrTokenAtRange = 35
number_of CoveringElement = 36
number_of SameElement = 37
number_of WhereIs = 38
number_of WalkBegin = 40
number_of WalkNext = 41
number_of WalkSkip = 42
number_of WalkMany = 43
number_of TextOf = 50
number_of TextSlice = 51
number_of TextLength = 52
number_of ChunkBegin = 53
number_of ChunkNext = 54
number_of TextContains = 55
number_of TextFind = 56
number_of TextCharAt = 57
number_of TextEqual = 58
number_of Element = 60
number_of Mark = 61
number_of Record = 64

-- what a number is read as: the call of that number, or the number itself if it is none's
abbrev pub Numbers : ℕ → Result Op NotOffered → Type 0
Numbers number (Ok op) = number_of op ≡ number
Numbers number (Err e) = (e.0 ≡ number) × ((op : Op) → number_of op ≢ number)

-- what a call of a number asks: nothing where the number is none's
abbrev pub ReadAs : ℕ → Option Op → Type 0
ReadAs number (Some op) = number_of op ≡ number
ReadAs number None = (op : Op) → number_of op ≢ number
