-- What numbers name stays where entries come behind those that there were; and lists of numbers in parts. Assumes nothing.
use Prim.Native.Nat.{ℕ, zero, suc, ◌≤◌}
use native.Mathlib.Omega.{arith}
use mathlib.Core.Path.{◌≡◌, refl, ap, ◌∙◌}
use mathlib.Core.List.{List, [], ◌∷◌, ◌++◌, map}
use mathlib.Core.Bool.{true}
use lib.ListN.{length, take, drop, get_or-append}
use Rattle.definitions.specs.Entry.{Entry, absent, entry_at, tree_at, trees_at}
use Rattle.definitions.specs.WellFormed.{AllBelow, AllEvents}
use Rattle.definitions.proofs.Sharing.{event_there}
use Rattle.definitions.proofs.Growing.{Grows}

pub weaken : (i j : ℕ) (ns : List ℕ) → i ≤ j → AllBelow i ns → AllBelow j ns
unfolding AllBelow
weaken i j [] h b = tt
weaken i j (n ∷ ns) h b = (omega (arith, b.0), weaken i j ns h b.1)

-- numbers that stand below a list name the same in a longer one
pub trees_at_append : (es xs : List Entry) (ns : List ℕ) → AllBelow (length es) ns → trees_at (es ++ xs) ns ≡ trees_at es ns
unfolding trees_at AllBelow
trees_at_append es xs [] h = refl
trees_at_append es xs (n ∷ ns) h = cc (get_or-append es xs absent n h.0, trees_at_append es xs ns h.1)

-- what events made keeps its entry
pub entry_kept : (es es' : List Entry) (n : ℕ) → Grows es es' → (entry_at es n).event ≡ true → entry_at es' n ≡ entry_at es n
entry_kept es es' n g h = ap (λ x. entry_at x n) g.1 ∙ get_or-append es g.0 absent n (event_there es n h)

pub trees_kept : (es es' : List Entry) (ns : List ℕ) → Grows es es' → AllEvents es ns → map (λ n. tree_at es' n) ns ≡ map (λ n. tree_at es n) ns
unfolding AllEvents
trees_kept es es' [] g h = refl
trees_kept es es' (n ∷ ns) g h = cc (ap (λ x. x.tree) (entry_kept es es' n g h.0), trees_kept es es' ns g h.1)

pub events_append : (es xs : List Entry) (ns : List ℕ) → AllEvents es ns → AllEvents (es ++ xs) ns
unfolding AllEvents
events_append es xs [] h = tt
events_append es xs (n ∷ ns) h = (rw (get_or-append es xs absent n (event_there es n h.0)) h.0, events_append es xs ns h.1)

pub events_kept : (es es' : List Entry) (ns : List ℕ) → Grows es es' → AllEvents es ns → AllEvents es' ns
events_kept es es' ns g h = rw g.1 (events_append es g.0 ns h)

-- what events made, in parts
pub events_both : (es : List Entry) (ms ns : List ℕ) → AllEvents es ms → AllEvents es ns → AllEvents es (ms ++ ns)
unfolding AllEvents
events_both es [] ns a b = b
events_both es (m ∷ ms) ns a b = (a.0, events_both es ms ns a.1 b)

pub events_take : (es : List Entry) (i : ℕ) (ns : List ℕ) → AllEvents es ns → AllEvents es (take i ns)
unfolding AllEvents
events_take es zero ns a = tt
events_take es (suc i) [] a = tt
events_take es (suc i) (n ∷ ns) a = (a.0, events_take es i ns a.1)

pub events_drop : (es : List Entry) (i : ℕ) (ns : List ℕ) → AllEvents es ns → AllEvents es (drop i ns)
unfolding AllEvents
events_drop es zero ns a = a
events_drop es (suc i) [] a = tt
events_drop es (suc i) (n ∷ ns) a = events_drop es i ns a.1
