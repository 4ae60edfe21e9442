-- An accepted event keeps the entries that there were, lets what it yields wait, and takes no more text than is left; and so a run. Assumes nothing.
use Prim.Native.Nat.{ℕ, suc, zero, ◌≤◌}
use native.Mathlib.Omega.{arith}
use mathlib.Core.Path.{◌≡◌, refl, sym, ap, ◌∙◌}
use mathlib.Core.List.{List, [], ◌∷◌, ◌++◌, append-nil, append_assoc}
use mathlib.Core.Bool.{Bool, true, false, cond, ◌||◌}
use mathlib.Core.Option.{Option, none, some, none-ne-some, some-injective}
use lib.ListN.{length, drop, get_or, take}
use lib.Dec.{eqb}
use borrow.Author.Tests.{ltb-false}
use Rattle.definitions.specs.Prelude.{Result, ok, refused, and_then, option, any}
use Rattle.definitions.specs.Entry.{Entry, Limits, token_entry, node_entry}
use Rattle.definitions.specs.Refusal.{is_too_large, is_full, limited, is_malformed, is_too_many, is_too_deep, is_unfit, is_unreadable, is_not_zero, is_no_register}
use Rattle.definitions.specs.NodeCache.{Made, push, reuse, share}
use Rattle.definitions.specs.Sheet.{event_count, word_at, operand_at, code_of, kind_of}
use Rattle.definitions.specs.Builder.{State, Accepted, Parent, waits, token, opens, start_node, closes, finish_node, checkpoint, innermost, start_node_at, new}
use Rattle.definitions.specs.Run.{refused_at, Run, stops, event_at, taken_at, ends_at, follows, run_from, run, event, taken}
use Rattle.definitions.proofs.Limits.{or_false}
use Rattle.definitions.proofs.Results.{ok_injective, ok≢refused, cond_ok, and_then_ok, either_ok}

-- the entries that there were come first
abbrev pub Grows : List Entry → List Entry → Type 0
Grows es es' = (xs : List Entry) × (es' ≡ es ++ xs)

pub grows_none : (es : List Entry) → Grows es es
grows_none es = ([], sym (append-nil es))

pub grows_on : (es es' es'' : List Entry) → Grows es es' → Grows es' es'' → Grows es es''
grows_on es es' es'' g h = (g.0 ++ h.0, h.1 ∙ ap (λ x. x ++ h.0) g.1 ∙ append_assoc es g.0 h.0)

-- an accepted call passed no limit
pub limited_ok : {A : Type 0} (l : Limits) (es new : List Entry) (x : Result A) (a : A) → limited l es new x ≡ ok a → x ≡ ok a
unfolding limited
limited_ok l es new x a h = cond_ok (is_full l (es ++ new)) 15 x a h

pub push_made : (l : Limits) (es new : List Entry) (n : ℕ) (m : Made) → push l es new n ≡ ok m → record { number = n; entries = es ++ new } ≡ m
unfolding push
push_made l es new n m h =
    let z : ok (record { number = n; entries = es ++ new }) ≡ ok m = limited_ok l es new _ m (cond_ok (any (λ x. is_too_large x.tree) new) 14 _ m h) in
    cc

-- an event accepted over these entries: what it yields waits last
pub record Accepts (es : List Entry) (a : Accepted) : Type 0 where
  pub grows : Grows es a.state.entries
  pub waits : (n : ℕ) → a.yields ≡ some n → (before : List ℕ) × (a.state.builder.children ≡ before ++ (n ∷ []))

push_grows : (l : Limits) (es new : List Entry) (n : ℕ) (m : Made) → push l es new n ≡ ok m → Grows es m.entries
unfolding push
push_grows l es new n m e = (new, sym (ap (λ x. x.entries) (push_made l es new n m e)))

share_grows : (l : Limits) (es : List Entry) (e : Entry) (m : Made) → share l es e ≡ ok m → Grows es m.entries
unfolding share option
share_grows l es e m h = go (reuse es e.tree) h
  where
    go : (o : Option ℕ) → option (push l es (e ∷ []) (length es)) (λ n. ok (record { number = n; entries = es })) o ≡ ok m → Grows es m.entries
    go none q = push_grows l es (e ∷ []) (length es) m q
    go (some n) q = let z : ◌≡◌ {A = Made} (record { number = n; entries = es }) m = cc in ([], sym (ap (λ x. x.entries) z) ∙ sym (append-nil es))

-- an element was shared, and waits
made_waits : (es : List Entry) (ps : List Parent) (before : List ℕ) (cs : List (Option ℕ)) (a : Accepted) (m : Made) → Grows es m.entries → waits ps before cs m ≡ ok a
    → Accepts es a
unfolding waits
made_waits es ps before cs a m g q =
    let z = ok_injective q in
    record {
      grows = (g.0, sym (ap (λ y. y.state.entries) z) ∙ g.1);
      waits = λ n y. (before, let e : m.number ≡ n = some-injective m.number n (ap (λ x. x.yields) z ∙ y) in rw (← e) (sym (ap (λ x. x.state.builder.children) z)));
    }

waits_grow : (l : Limits) (es : List Entry) (e : Entry) (ps : List Parent) (before : List ℕ) (cs : List (Option ℕ)) (a : Accepted)
    → and_then (share l es e) (waits ps before cs) ≡ ok a → Accepts es a
waits_grow l es e ps before cs a h =
    let m = and_then_ok (share l es e) (waits ps before cs) a h in
    made_waits es ps before cs a m.0 (share_grows l es e m.0 m.1) m.2

module _ (l : Limits) (s : State) (a : Accepted) where
  ok_same : {x : Accepted} → x.state.entries ≡ s.entries → x.yields ≡ none → ok x ≡ ok a → Accepts s.entries a
  ok_same {x} p w q =
      let z = ok_injective q in
      record {
        grows = ([], sym (ap (λ y. y.state.entries) z) ∙ p ∙ sym (append-nil s.entries));
        waits = λ n y. absurd (none-ne-some n (sym w ∙ ap (λ x. x.yields) z ∙ y));
      }

  opens_grow : (k c : ℕ) → opens s k c ≡ ok a → Accepts s.entries a
  unfolding opens
  opens_grow k c h = ok_same refl refl (cond_ok (is_too_deep (suc (length s.builder.parents))) 14 _ a h)

  token_grows : (k : ℕ) (b : List ℕ) → token l s k b ≡ ok a → Accepts s.entries a
  unfolding token
  token_grows k b h =
      waits_grow l s.entries (token_entry k b) s.builder.parents s.builder.children s.builder.checkpoints a
      (cond_ok (is_too_many (suc (length s.builder.children))) 14 _ a h)

  closes_grow : (ps : List Parent) → closes l s ps ≡ ok a → Accepts s.entries a
  unfolding closes
  closes_grow [] h = absurd (ok≢refused (sym h))
  closes_grow (p ∷ ps) h =
      waits_grow l s.entries (node_entry true s.entries p.kind (drop p.first s.builder.children)) ps (take p.first s.builder.children) s.builder.checkpoints a
      (cond_ok (is_too_many (suc p.first)) 14 _ a h)

  start_at_grows : (k r : ℕ) → start_node_at s k r ≡ ok a → Accepts s.entries a
  unfolding start_node_at option
  start_at_grows k r h =
      go (get_or s.builder.checkpoints r none)
      (cond_ok (is_unfit (get_or s.builder.checkpoints r none) (length s.builder.children) (innermost s.builder.parents)) 12 _ a h)
    where
      go : (o : Option ℕ) → option (refused 12) (opens s k) o ≡ ok a → Accepts s.entries a
      go none q = absurd (ok≢refused (sym q))
      go (some c) q = opens_grow k c q

  pub event_accepts : (c k x : ℕ) (left : List ℕ) → event l s c k x left ≡ ok a → Accepts s.entries a
  unfolding event start_node finish_node checkpoint
  event_accepts c k x left h =
      either_ok (eqb c 1) _ _ (λ q. token_grows k (take x left) (cond_ok (is_unreadable x left) 3 _ a q))
      (either_ok (eqb c 2) _ _ (λ q. opens_grow k (length s.builder.children) (cond_ok (is_not_zero x) 2 _ a q))
      (either_ok (eqb c 3) _ _ (λ q. closes_grow s.builder.parents (cond_ok (is_not_zero k || is_not_zero x) 2 _ a q))
      (either_ok (eqb c 4) _ _ (λ q. ok_same refl refl (cond_ok (is_not_zero k || is_no_register x) 2 _ a q))
      (either_ok (eqb c 5) _ _ (λ q. start_at_grows k x (cond_ok (is_no_register x) 2 _ a q))
      (λ q. absurd (ok≢refused (sym q))))))) h

  -- a token that is taken stands in the text that is left
  readable : (k x : ℕ) (left : List ℕ) (b : Bool) → is_unreadable x left ≡ b → cond b (refused 3) (token l s k (take x left)) ≡ ok a → x ≤ length left
  unfolding is_unreadable
  readable k x left true e q = absurd (ok≢refused (sym q))
  readable k x left false e q = ltb-false (length left) x (or_false _ _ e).0

  takes : (b : Bool) (k x : ℕ) (left : List ℕ) (r : Result Accepted) → cond b (cond (is_unreadable x left) (refused 3) (token l s k (take x left))) r ≡ ok a
      → cond b x 0 ≤ length left
  takes true k x left r q = readable k x left (is_unreadable x left) refl q
  takes false k x left r q = omega arith

  pub event_takes : (c k x : ℕ) (left : List ℕ) → event l s c k x left ≡ ok a → taken c x ≤ length left
  unfolding event taken
  event_takes c k x left h = takes (eqb c 1) k x left _ h

follows_grows : (s : State) (i : ℕ) (rest : State → Run) (o : Result Accepted)
    → ((a : Accepted) → o ≡ ok a → Grows s.entries (rest a.state).entries) → Grows s.entries (follows s i rest o).entries
unfolding follows
follows_grows s i rest (ok a) h = h a refl
follows_grows s i rest (refused r) h = grows_none s.entries

run_from_grows : (l : Limits) (sheet : List ℕ) (m i : ℕ) (s : State) (left : List ℕ) → Grows s.entries (run_from l sheet i m s left).entries
unfolding run_from ends_at
run_from_grows l sheet zero i s left = grows_none s.entries
run_from_grows l sheet (suc m) i s left =
    follows_grows s i (λ s'. run_from l sheet (suc i) m s' (drop (taken_at sheet i) left)) (event_at l sheet i s left)
    (λ a h.
    let f = event_accepts l s a (code_of (word_at sheet i)) (kind_of (word_at sheet i)) (operand_at sheet i) left h in
    grows_on s.entries a.state.entries _ f.grows (run_from_grows l sheet m (suc i) a.state (drop (taken_at sheet i) left)))

pub run_grows : (l : Limits) (es : List Entry) (sheet text : List ℕ) → Grows es (run l es sheet text).entries
unfolding run
run_grows l es sheet text = go (is_malformed sheet text)
  where
    start : State
    start = record { entries = es; builder = new }

    go : (t : Bool) → Grows es (cond t (stops start (refused_at 1 0)) (run_from l sheet 0 (event_count sheet) start text)).entries
    go true = grows_none es
    go false = run_from_grows l sheet (event_count sheet) 0 start text
