-- An event that is told of some of a store's places, as they were lent on, is told of the store. Assumes nothing.
use Prim.Native.Nat.{ℕ}
use mathlib.Core.Path.{◌≡◌}
use mathlib.Core.List.{List}
use Rattle.definitions.specs.Prelude.{Result}
use Rattle.definitions.specs.Builder.{Accepted}
use Rattle.green.specs.Store.{Store, store}
use Rattle.builder.specs.EventDone.{EventDone}
use Rattle.builder.specs.declared.state.GreenNodeBuilder.{GreenNodeBuilder}
use Rattle.builder.specs.declared.state.EventAnswer.{EventAnswer}

pub of_parts : {s : Store} {b b' : GreenNodeBuilder} {x : Result Accepted} {a : EventAnswer} {r r' c c' t t' u u' : List ℕ}
    → EventDone s (store r' c' t' u') b b' x a → r ≡ r' → c ≡ c' → t ≡ t' → u ≡ u' → EventDone s (store r c t u) b b' x a
of_parts d e f g h = rw (e, f, g, h) d
