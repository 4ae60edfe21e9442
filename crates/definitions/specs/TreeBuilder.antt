-- A builder over trees: what the events of a sheet spell, read off the sheet and its text.
use Rattle.std.specs.Prelude.{ℕ, zero, suc, List, [], ◌∷◌, ◌++◌, cond, length, get_or, set, take, drop, replicate, eqb}
use Rattle.std.proofs.Math.Option
use Rattle.std.proofs.Math.Option.{Option, none, some}
use Rattle.definitions.specs.Prelude.{option}
use Rattle.definitions.specs.Tree.{Tree, token, node, forest}
use Rattle.definitions.specs.Sheet.{word_at, operand_at, code_of, kind_of}
use Rattle.definitions.specs.Builder.{Parent}
use Rattle.definitions.specs.Run.{taken_at}

-- open nodes, the innermost first, each with its kind and the length that it remembers; the trees that wait; the registers
pub record TreeBuilder : Type 0 where
  pub parents : List Parent
  pub children : List Tree
  pub checkpoints : List (Option ℕ)

-- a new builder
abbrev pub new : TreeBuilder
new = record { parents = []; children = []; checkpoints = replicate 64 none }

-- what an event spells, if it spells an element, and the builder after it
pub record Step : Type 0 where
  pub spells : Option Tree
  pub builder : TreeBuilder

-- a tree is spelled, and waits behind those before it
unfoldable pub waits : List Parent → List Tree → List (Option ℕ) → Tree → Step
waits ps before cs t = record { spells = some t; builder = record { parents = ps; children = before ++ (t ∷ []); checkpoints = cs } }

-- nothing is spelled, and what waits stays
unfoldable pub still : List Parent → List Tree → List (Option ℕ) → Step
still ps ts cs = record { spells = none; builder = record { parents = ps; children = ts; checkpoints = cs } }

-- finishing a node: the kind of its start, over the elements that came since
unfoldable pub closes : TreeBuilder → List Parent → Step
closes b [] = record { spells = none; builder = b }
closes b (p ∷ ps) = waits ps (take p.first b.children) b.checkpoints (node p.kind (forest (drop p.first b.children)))

unfoldable pub opens : TreeBuilder → ℕ → ℕ → Step
opens b k first = still (record { kind = k; first = first } ∷ b.parents) b.children b.checkpoints

-- an accepted event of code c, kind k and operand x, with the text that is left: a token event spells a token;
-- a checkpoint is the number of trees that wait; a start at one remembers it
unfoldable pub step : TreeBuilder → ℕ → ℕ → ℕ → List ℕ → Step
step b c k x left =
    cond (eqb c 1) (waits b.parents b.children b.checkpoints (token k (take x left)))
    (cond (eqb c 2) (opens b k (length b.children))
    (cond (eqb c 3) (closes b b.parents)
    (cond (eqb c 4) (still b.parents b.children (set b.checkpoints x (some (length b.children))))
    (opens b k (Option.get_or (get_or b.checkpoints x none) 0)))))

abbrev pub step_at : List ℕ → ℕ → TreeBuilder → List ℕ → Step
step_at sheet i b left = step b (code_of (word_at sheet i)) (kind_of (word_at sheet i)) (operand_at sheet i) left

-- an element that an event spells, and the number that it yields
pub record Yield : Type 0 where
  pub number : ℕ
  pub tree : Tree

abbrev pub yield_of : ℕ → Option Tree → List Yield
yield_of n o = option [] (λ t. record { number = n; tree = t } ∷ []) o

-- the token and finish-node events among m accepted events of a sheet, event i the first of them; event i yields word i
unfoldable pub events_from : List ℕ → List ℕ → ℕ → ℕ → TreeBuilder → List ℕ → List Yield
events_from sheet yields i zero b left = []
events_from sheet yields i (suc m) b left =
    let s = step_at sheet i b left in
    yield_of (get_or yields i 0) s.spells ++ events_from sheet yields (suc i) m s.builder (drop (taken_at sheet i) left)
