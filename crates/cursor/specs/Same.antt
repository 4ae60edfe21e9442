-- What same-element is asked, and what it answers.
use Rattle.std.specs.Prelude.{ℕ, List, Bool, cond, ◌||◌, take}
use Rattle.definitions.specs.Prelude.{Result, refused}
use Rattle.definitions.specs.Entry.{Entry}
use Rattle.definitions.specs.Identity.{same_element}
use Rattle.utility_types.specs.Numbers.{OrRefusal, told}
use Rattle.utility_types.specs.Paths.{is_too_long}
use Rattle.cursor.specs.declared.path.Path.{Path}

abbrev pub says_same : OrRefusal Bool → Result Bool
says_same x = told (λ b. b) x

-- what is asked of two paths
unfoldable pub same_asked : List Entry → ℕ → ℕ → List ℕ → ℕ → ℕ → List ℕ → Result Bool
same_asked es r d l r' d' l' = cond (is_too_long d || is_too_long d') (refused 4) (same_element es r (take d l) r' (take d' l'))

abbrev pub same_paths : List Entry → Path → Path → Result Bool
same_paths es p q = same_asked es p.root p.depth p.indexes.now q.root q.depth q.indexes.now
