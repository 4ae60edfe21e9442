-- The run of a sheet, event by event: what is left gives the end, the state and the events; and how many events there are. Assumes nothing.
use Prim.Native.Nat.{ℕ, zero, suc, ◌+◌, ◌≤◌, ◌-◌, ◌<◌}
use native.Mathlib.Omega.{arith}
use native.Mathlib.Numerals.{add-one}
use mathlib.Core.Path.{◌≡◌, refl, ◌∙◌}
use mathlib.Core.List.{List, [], ◌++◌, ◌∷◌, append_assoc}
use mathlib.Core.Bool.{Bool, true, false, cond}
use lib.ListN.{length, drop}
use lib.Seq.{drop-drop}
use Rattle.definitions.specs.Prelude.{Result, ok, refused}
use Rattle.definitions.specs.Entry.{Entry, Limits}
use Rattle.definitions.specs.Sheet.{event_count}
use Rattle.definitions.specs.Refusal.{is_malformed}
use Rattle.definitions.specs.Builder.{State, new, Accepted}
use Rattle.definitions.specs.Run.{event_at, taken_at, Run, stops, refused_at, ends_at, follows, run_from, run}
use Rattle.definitions.proofs.Sheets.{well_formed}

-- the events so far, and a run from the next on, come to what the whole comes to
pub record Rest (done : List Accepted) (r whole : Run) : Type 0 where
  pub end : r.end ≡ whole.end
  pub entries : r.entries ≡ whole.entries
  pub builder : r.builder ≡ whole.builder
  pub events : done ++ r.events ≡ whole.events

pub record Running (l : Limits) (sheet text : List ℕ) (whole : Run) (n i at : ℕ) (s : State) (done : List Accepted) : Type 0 where
  pub within : i ≤ n
  pub rest : Rest done (run_from l sheet i (n - i) s (drop at text)) whole

module _ (l : Limits) (sheet text : List ℕ) (es : List Entry) where
  pub running_start : is_malformed sheet text ≡ false → Running l sheet text (run l es sheet text) (event_count sheet) 0 0 (record { entries = es; builder = new }) []
  unfolding run
  running_start h =
      let n : event_count sheet - 0 ≡ event_count sheet = omega arith in
      record { within = omega arith; rest = rw (h, n) (record { end = refl; entries = refl; builder = refl; events = refl }) }

  pub malformed : is_malformed sheet text ≡ true → run l es sheet text ≡ stops (record { entries = es; builder = new }) (refused_at 1 0)
  unfolding run
  malformed h = rw h

module _ {l : Limits} {sheet text : List ℕ} {whole : Run} {n i at : ℕ} {s : State} {done : List Accepted} (r : Running l sheet text whole n i at s done) where
  one_more : i < n → n - i ≡ suc (n - (i + 1))
  one_more h = omega arith

  pub running_refused : i < n → (k : ℕ) → event_at l sheet i s (drop at text) ≡ refused k → Rest done (stops s (refused_at k i)) whole
  unfolding run_from follows
  running_refused h k e = rw (one_more h, e) at r.rest

  pub running_accepted : i < n → (a : Accepted) → event_at l sheet i s (drop at text) ≡ ok a
      → Running l sheet text whole n (i + 1) (at + taken_at sheet i) a.state (done ++ (a ∷ []))
  unfolding run_from follows
  running_accepted h a e =
      let d : drop (taken_at sheet i) (drop at text) ≡ drop (at + taken_at sheet i) text = drop-drop (taken_at sheet i) at text in
      let q = rw (one_more h, e, add-one) at r.rest in
      record {
        within = omega arith;
        rest = rw (← d, add-one) (record { end = q.end; entries = q.entries; builder = q.builder; events = append_assoc done (a ∷ []) _ ∙ q.events });
      }

  pub running_over : n ≤ i → Rest done (ends_at s n (drop at text)) whole
  unfolding run_from
  running_over h =
      let z : n - i ≡ 0 = omega arith in
      let q : i ≡ n = omega (arith, r.within) in
      rw (← q) (rw z at r.rest)

follows_most : (s : State) (i m : ℕ) (rest : State → Run) → ((s' : State) → length (rest s').events ≤ m) → (r : Result Accepted) → length (follows s i rest r).events ≤ suc m
unfolding follows
follows_most s i m rest h (ok a) = omega (arith, h a.state)
follows_most s i m rest h (refused k) = omega arith

from_most : (l : Limits) (sheet : List ℕ) (i m : ℕ) (s : State) (left : List ℕ) → length (run_from l sheet i m s left).events ≤ m
unfolding run_from ends_at
from_most l sheet i zero s left = omega arith
from_most l sheet i (suc m) s left = follows_most s i m _ (λ s'. from_most l sheet (suc i) m s' (drop (taken_at sheet i) left)) (event_at l sheet i s left)

pub events_most : (l : Limits) (es : List Entry) (sheet text : List ℕ) → length (run l es sheet text).events ≤ 4096
unfolding run
events_most l es sheet text = go (is_malformed sheet text) refl
  where
    start : State
    start = record { entries = es; builder = new }

    go : (b : Bool) → is_malformed sheet text ≡ b → length (cond b (stops start (refused_at 1 0)) (run_from l sheet 0 (event_count sheet) start text)).events ≤ 4096
    go true e = omega arith
    go false e = omega (arith, from_most l sheet 0 (event_count sheet) start text, well_formed sheet text e)
