-- What the functions ensure carries every history on, and a store that was reached is in order. Assumes nothing.
use Prim.Native.Nat.{ℕ}
use mathlib.Core.Path.{◌≡◌}
use mathlib.Core.List.{List}
use mathlib.Core.Bool.{Bool}
use lib.ListN.{length}
use Rattle.definitions.specs.Entry.{Entry}
use Rattle.green.specs.Store.{Store, limits, entries, both}
use Rattle.green.specs.Valid.{Valid}
use Rattle.green_new.specs.Done.{Done}
use Rattle.sheet_run.specs.RunDone.{RunDone, YieldsDone}
use Rattle.notes_tree.specs.History.{Edit, makes, Write, Wrote, Call, Performed, History}
use Rattle.preorder.specs.declared.state.Coming.{Coming}
use Rattle.preorder.specs.declared.state.Step.{Step}
use Rattle.preorder.specs.Walks.{next_of, WalkStepped}
use Rattle.preorder.specs.Walks as walks
use Rattle.syntax_text_chunks.specs.Chunks.{ChunkStepped}
use Rattle.notes_tree.specs.Demand3.{WalkDone, ChunkDone}
use Rattle.notes_tree.proofs.Demand3.{demand3}
use Rattle.notes_tree_ffi.specs.Goes.{HasHistory, HistoryGoesOn, WalkNextDone, WalkSkipDone, ChunkStepDone}
use Rattle.utility_types.specs.Numbers.{OrRefusal}
use Rattle.preorder.specs.declared.state.Ahead.{Ahead}
use Rattle.sheet.specs.Ended.{Ended}

pub reached_valid : {s : Store} → HasHistory s → Valid s
reached_valid h = (demand3 h.history).valid

pub run_on_lem : {s s' : Store} {sheet text yields' : List ℕ} {r : Ended} (yields : List ℕ) → length yields ≡ 4096
    → RunDone (both s s') sheet text r → YieldsDone s (both yields yields') sheet text → HistoryGoesOn s s' (Call.write (Write.run sheet text r yields'))
run_on_lem yields f d y = record { history = λ calls h. History.call h (Performed.write (Wrote.run yields f d y)) }

pub edit_on : (e : Edit) {s s' : Store} {r : OrRefusal ℕ} → Done s s' (makes e (limits s) (entries s)) r → HistoryGoesOn s s' (Call.write (Write.edit e r))
edit_on e d = record { history = λ calls h. History.call h (Performed.write (Wrote.edit {e = e} d)) }

-- calls that carry on a walk
pub next_on : {es : List Entry} {n : ℕ} {tokens : Bool} {start depth : ℕ} {coming : Coming} {l l' : List ℕ} {r : Step}
    → WalkStepped tokens start depth l l' coming (next_of es n tokens start depth l coming) r → length l' ≡ 64 → WalkNextDone es n tokens start depth coming l l' r
next_on s f = WalkDone.next f s

pub skip_on : {coming : Coming} {depth : ℕ} {r : OrRefusal Ahead} → walks.WalkSkipped depth coming r → WalkSkipDone coming depth r
skip_on {r = r} f = record { at = λ es n tokens start l. WalkDone.skip r f; short = f.short }

pub chunk_on : {s : Store} {n depth : ℕ} {l : List ℕ} {start stop given : ℕ} {place : List ℕ} {kept given' : ℕ} {place' : List ℕ} {kept' outcome outcome' : ℕ} {bytes : List ℕ}
    → ChunkStepped s n depth l start stop given place kept given' place' kept' outcome' bytes → length place' ≡ 64
    → ChunkStepDone s n depth l start stop given place kept outcome given' place' kept' outcome' bytes
chunk_on d f = ChunkDone.step _ _ _ _ _ f d
