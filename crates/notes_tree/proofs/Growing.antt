-- What makes records adds entries behind those that there were: a run, an edit, an event by itself, and a token by itself. Assumes nothing.
use Prim.Native.Nat.{ℕ}
use mathlib.Core.Path.{◌≡◌, refl, ap, ◌∙◌}
use mathlib.Core.List.{List}
use mathlib.Core.Bool.{true}
use Rattle.definitions.specs.Prelude.{Result, ok, refused}
use Rattle.definitions.specs.Entry.{Entry}
use Rattle.definitions.specs.NodeCache.{Made, share}
use Rattle.definitions.specs.Builder.{State, Accepted}
use Rattle.definitions.specs.Run.{event}
use Rattle.definitions.specs.EditCall.{makes}
use Rattle.definitions.proofs.Growing.{Grows, grows_none, event_accepts, run_grows}
use Rattle.laws.proofs.SharedEvents.{share_gets}
use Rattle.laws.proofs.TreeEdits.{edit_makes}
use Rattle.green.specs.Store.{Store, limits, entries}
use Rattle.green.specs.Valid.{Valid}
use Rattle.green_new.specs.Done.{entries_after, Done}
use Rattle.builder.specs.Builder.{state_of}
use Rattle.builder.specs.declared.state.GreenNodeBuilder.{GreenNodeBuilder}
use Rattle.builder.specs.EventDone.{state_after, EventDone}
use Rattle.builder.specs.declared.state.EventAnswer.{EventAnswer}
use Rattle.notes_tree.specs.History.{Write, Wrote}
use Rattle.utility_types.specs.Numbers.{OrRefusal}

-- a call that is a function of the entries
result_grows : (es : List Entry) (x : Result Made) → ((m : Made) → x ≡ ok m → Grows es m.entries) → Grows es (entries_after es x)
result_grows es (ok m) h = h m refl
result_grows es (refused r) h = grows_none es

state_grows : (s : State) (x : Result Accepted) → ((a : Accepted) → x ≡ ok a → Grows s.entries a.state.entries) → Grows s.entries (state_after s x).entries
state_grows s (ok a) h = h a refl
state_grows s (refused r) h = grows_none s.entries

pub wrote_grows : {s s' : Store} {w : Write} → Valid s → Wrote s s' w → Grows (entries s) (entries s')
wrote_grows {s} v (Wrote.run {sheet} {text} yields f d y) = let g = run_grows (limits s) (entries s) sheet text in (g.0, d.spells ∙ g.1)
wrote_grows {s} v (Wrote.edit {e} d) =
    let g = result_grows (entries s) (makes e (limits s) (entries s)) (λ m h. (edit_makes (limits s) (entries s) v.formed e m h).grows) in
    (g.0, d.spells ∙ g.1)

pub wrote_valid : {s s' : Store} {w : Write} → Wrote s s' w → Valid s'
wrote_valid (Wrote.run yields f d y) = d.valid
wrote_valid (Wrote.edit d) = d.valid

-- one event of a builder, as `sheet::event::event` ensures it, and so `step` of a sheet's event
pub event_grows : {s s' : Store} {b b' : GreenNodeBuilder} {r : EventAnswer} (c k x : ℕ) (left : List ℕ) → EventDone s s' b b' (event (limits s) (state_of s b) c k x left) r → Grows (entries s) (entries s')
event_grows {s} {s'} {b} c k x left d =
    let o = event (limits s) (state_of s b) c k x left in
    let g = state_grows (state_of s b) o (λ a h. (event_accepts (limits s) (state_of s b) a c k x left h).grows) in
    (g.0, ap (λ y. y.entries) d.leaves ∙ g.1)

-- an element that is shared, as `token` of the node cache ensures it
pub share_grows : {s s' : Store} {r : OrRefusal ℕ} (e : Entry) → e.event ≡ true → Done s s' (share (limits s) (entries s) e) r → Grows (entries s) (entries s')
share_grows {s} e made d =
    let g = result_grows (entries s) (share (limits s) (entries s) e) (λ m h. (share_gets (limits s) (entries s) e m made h).grows) in
    (g.0, d.spells ∙ g.1)
