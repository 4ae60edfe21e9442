-- Where a number occurs below another. Assumes nothing.
use Prim.Native.Nat.{ℕ, zero, suc, ◌+◌, ◌≤◌, ◌<◌}
use native.Mathlib.Omega.{arith}
use mathlib.Core.Path.{◌≡◌, refl, sym, ap, subst, ◌∙◌}
use mathlib.Core.List.{List, [], ◌∷◌}
use mathlib.Core.Bool.{Bool, true, false, ◌||◌, or-true}
use mathlib.Core.Option.{Option, none, some, bind, none-ne-some, some-injective}
use lib.ListN.{length, get_or, get_elem?, take, drop, set}
use lib.Seq.{slice, slice_empty, take-set-le, drop-set-lt, take-take}
use lib.Dec.{ltb}
use borrow.Author.Tests.{ltb-true, ltb-false}
use Rattle.definitions.specs.Tree.{Tree, token, node, is_node, children_of}
use Rattle.definitions.specs.Entry.{Entry, entry_at, tree_at, trees_at, number_at}
use Rattle.definitions.specs.Refusal.{is_absent, is_no_node}
use Rattle.definitions.specs.Identity.{unnamed, somewhere, nowhere}
use Rattle.definitions.proofs.Laws.{false≢true}
use Rattle.definitions.proofs.Limits.{absent, present}
use Rattle.green.specs.Store.{Store, entries}
use Rattle.green.specs.Valid.{AllBelow, Valid}
use Rattle.green.proofs.Known.{count_records}
use Rattle.cursor.specs.declared.position.Cursor.{Cursor}
use Rattle.cursor.specs.Position.{Placed, child_count, ChildAt}
use Rattle.cursor.specs.Path.{IsRootNode}
use Rattle.cursor.proofs.Telling.{slice_set}
use Rattle.cursor.proofs.Paths.{root_refused, root_accepted}
use Rattle.definitions.proofs.Lists.{some_at}
use Rattle.utility_types.specs.declared.Refusal.{Refusal}
use Rattle.utility_types.specs.declared.Refusal.TheVariants.{NoSuchElement}
use Rattle.cursor.specs.Occurs.{OccurrenceFound, Absent, Searched, Occurs, WhereIsAnswer}
use Rattle.std.specs.Prelude.{Ok, Err, Some, None, Option as Optional}
use Rattle.utility_types.specs.Numbers.{OrRefusal}

-- a path that goes on goes on from a child
module _ (es : List Entry) (n m i : ℕ) (p : List ℕ) (e : number_at es m (i ∷ p) ≡ some n) where
  pub record Step : Type 0 where
    pub child : ℕ
    pub here : get_elem? (entry_at es m).children i ≡ some child
    pub rest : number_at es child p ≡ some n

  pub step : Step
  unfolding number_at bind
  step = go (get_elem? (entry_at es m).children i) refl
    where
      go : (o : Option ℕ) → get_elem? (entry_at es m).children i ≡ o → Step
      go none h = absurd (none-ne-some n (rw h at e))
      go (some c) h = record { child = c; here = h; rest = rw h at e }

below_some : (m : ℕ) (ns : List ℕ) (i : ℕ) {c : ℕ} → AllBelow m ns → get_elem? ns i ≡ some c → c < m
unfolding AllBelow
below_some m [] i b e = absurd (none-ne-some _ e)
below_some m (x ∷ ns) zero b e = let z = some-injective _ _ e in omega (arith, b.0)
below_some m (x ∷ ns) (suc i) b e = below_some m ns i b.1 e

-- what occurs at or below a number is not above it
lower : {s : Store} → Valid s → (n m : ℕ) → m < length (entries s) → (p : List ℕ) → number_at (entries s) m p ≡ some n → n ≤ m
unfolding number_at
lower v n m h [] e = let z = some-injective _ _ e in omega arith
lower {s} v n m h (i ∷ p) e =
    let x = step (entries s) n m i p e in
    let c : x.child < m = below_some m (entry_at (entries s) m).children i (v.formed m h).below x.here in
    omega (arith, lower v n x.child (omega arith) p x.rest)

some_within : (ns : List ℕ) (i : ℕ) {c : ℕ} → get_elem? ns i ≡ some c → (i < length ns) × (get_or ns i 0 ≡ c)
some_within [] i e = absurd (none-ne-some _ e)
some_within (x ∷ ns) zero e = (omega arith, some-injective _ _ e)
some_within (x ∷ ns) (suc i) e = let z = some_within ns i e in (omega (arith, z.0), z.1)

childless : (es : List Entry) (t : Tree) (ns : List ℕ) → is_node t ≡ false → children_of t ≡ trees_at es ns → ns ≡ []
unfolding is_node children_of trees_at
childless es (token k b) [] h e = refl
childless es (token k b) (n ∷ ns) h e = absurd (let z : ◌≡◌ {A = ℕ} 0 1 = cc in omega arith)
childless es (node k f) ns h e = absurd (false≢true (sym h))

-- n occurs nowhere at m if it is not m, nor occurs below a child of m
not_here : (es : List Entry) (n m : ℕ) → (m ≡ n → ⊥) → ((j : ℕ) → j < length (entry_at es m).children → Absent es n (get_or (entry_at es m).children j 0)) → Absent es n m
unfolding number_at
not_here es n m d a [] e = d (some-injective _ _ e)
not_here es n m d a (i ∷ p) e =
    let x = step es n m i p e in
    let w = some_within (entry_at es m).children i x.here in
    a i w.0 p (rw w.1 x.rest)

module _ {s : Store} {c : Cursor} {n : ℕ} (l : List ℕ) where
  pub found_here : Placed s c → c.number ≡ n → Occurs (entries s) n c l l (Some c.depth)
  unfolding number_at
  found_here h e = record { searched = record { below = omega arith; most = omega (arith, h.deep); here = rw (slice_empty c.depth l) (ap some e); front = refl; back = refl } }

  pub too_low : Placed s c → c.number < n → Occurs (entries s) n c l l None
  too_low h e = record { searched = (refl, λ p q. let z = lower h.known.valid n c.number h.known.within p q in omega arith) }

  pub at_token_lem : Placed s c → (c.number ≡ n → ⊥) → is_node (tree_at (entries s) c.number) ≡ false → Occurs (entries s) n c l l None
  at_token_lem h d t =
      let z = childless (entries s) (tree_at (entries s) c.number) (entry_at (entries s) c.number).children t (h.known.valid.formed c.number h.known.within).over in
      record { searched = (refl, not_here (entries s) n c.number d (λ j g. absurd (let y : length (entry_at (entries s) c.number).children ≡ 0 = rw z refl in omega arith))) }

-- the children of a node that were searched: the path is as it was
pub record NotYetFound (s : Store) (n : ℕ) (c : Cursor) (l l' : List ℕ) (i : ℕ) : Type 0 where
  pub within : i ≤ child_count (entries s) c
  pub same : l' ≡ l
  pub none : (j : ℕ) → j < i → Absent (entries s) n (get_or (entry_at (entries s) c.number).children j 0)

pub none_passed : {s : Store} {n : ℕ} {c : Cursor} {l : List ℕ} → NotYetFound s n c l l 0
none_passed = record { within = omega arith; same = refl; none = λ j h. absurd (omega arith) }

module _ {s : Store} {n : ℕ} {c : Cursor} {l l' : List ℕ} {i : ℕ} (g : NotYetFound s n c l l' i) where
  pub same_length : length l' ≡ length l
  same_length = ap length g.same

  module _ (h : i < child_count (entries s) c) {r : Cursor} (a : ChildAt s c i r) {l'' : List ℕ} {x : Optional ℕ} (o : Occurs (entries s) n r l' l'' x) where
    pub pass : x ≡ None → NotYetFound s n c l l'' (i + 1)
    pass e =
        let z = subst (Searched (entries s) n r l' l'') e o.searched in
        record {
          within = omega arith;
          same = z.0 ∙ g.same;
          none = λ j q. up_to j q z.1 (ltb j i) refl;
        }
      where
        up_to : (j : ℕ) → j < i + 1 → Absent (entries s) n r.number → (b : Bool) → ltb j i ≡ b → Absent (entries s) n (get_or (entry_at (entries s) c.number).children j 0)
        up_to j q y true t = g.none j (ltb-true j i t)
        up_to j q y false t =
            let k : i ≡ j = let w = ltb-false j i t in omega arith in
            subst (Absent (entries s) n) (a.number ∙ ap (λ v. get_or (entry_at (entries s) c.number).children v 0) k) y

    module _ {d : ℕ} (e : x ≡ Some d) (room : 64 ≤ length l'') where
      f : OccurrenceFound (entries s) n r l' l'' d
      f = subst (Searched (entries s) n r l' l'') e o.searched

      deep : c.depth < d
      deep = omega (arith, a.depth, f.below)

      pub found_below : Occurs (entries s) n c l (set l'' c.depth i) (Some d)
      unfolding number_at bind
      found_below =
          let ns = (entry_at (entries s) c.number).children in
          let z : slice c.depth d (set l'' c.depth i) ≡ i ∷ slice r.depth d l'' = rw a.depth (slice_set l'' c.depth d i deep (omega (arith, f.most))) in
          record {
            searched = record {
              below = omega (arith, deep);
              most = f.most;
              here = rw (z, some_at ns i h, ← a.number) f.here;
              front = take-set-le c.depth l'' c.depth i (omega arith) ∙ sym (take-take c.depth r.depth l'' (omega (arith, a.depth)))
                  ∙ ap (take c.depth) f.front ∙ take-take c.depth r.depth l' (omega (arith, a.depth)) ∙ ap (take c.depth) g.same;
              back = drop-set-lt d l'' c.depth i deep ∙ f.back ∙ ap (drop d) g.same;
            };
          }

  pub none_below : (c.number ≡ n → ⊥) → child_count (entries s) c ≤ i → Occurs (entries s) n c l l' None
  none_below d h = record { searched = (g.same, not_here (entries s) n c.number d (λ j q. g.none j (omega arith))) }

-- where_is, by its tests
module _ {s : Store} (v : Valid s) (n r : ℕ) (l : List ℕ) where
  pub number_refused : get_or s.used 0 0 ≤ n → WhereIsAnswer (entries s) n r l l (Err NoSuchElement)
  number_refused h = record { says = unnamed (rw (absent (entries s) n (omega (arith, count_records s v))) refl); kept = refl }

  module _ {y : OrRefusal Cursor} (d : IsRootNode s r y) where
    pub root_no_node : {why : Refusal} → y ≡ Err why → WhereIsAnswer (entries s) n r l l (Err why)
    root_no_node e = rw (root_refused d e).1 (record { says = unnamed (rw ((root_refused d e).0, or-true (is_absent (entries s) n)) refl); kept = refl })

    module _ (h : n < get_or s.used 0 0) {c : Cursor} (e : y ≡ Ok c) where
      both_there : (is_absent (entries s) n || is_no_node (entries s) r) ≡ false
      both_there = rw (present (entries s) n (omega (arith, count_records s v)), (root_accepted d e).0) refl

      module _ {l' : List ℕ} {x : Optional ℕ} (o : Occurs (entries s) n c l l' x) where
        pub where_answered : WhereIsAnswer (entries s) n r l l' (Ok x)
        where_answered = go x (subst (λ (c : Cursor). Searched (entries s) n c l l' x) (root_accepted d e).2 o.searched)
          where
            go : (z : Optional ℕ) → Searched (entries s) n (record { number = r; start = 0; depth = 0 }) l l' z → WhereIsAnswer (entries s) n r l l' (Ok z)
            go None f = record { says = nowhere both_there f.1; kept = f.0 }
            go (Some d) f = record { says = somewhere both_there f.here; kept = (f.most, f.back) }
