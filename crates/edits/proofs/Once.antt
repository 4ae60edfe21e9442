-- A contract of a deciding function leaves one answer. Assumes nothing.
use Prim.Native.Nat.{ℕ}
use native.Mathlib.Omega.{arith}
use mathlib.Core.Path.{◌≡◌, sym, ◌∙◌}
use mathlib.Core.List.{List, [], ◌∷◌, ◌++◌}
use mathlib.Core.Bool.{true, false}
use lib.ListN.{length, length-append}
use borrow.Author.Tests.{lt-ltb}
use Rattle.definitions.specs.Prelude.{Result}
use Rattle.definitions.specs.Tree.{kind}
use Rattle.definitions.specs.Entry.{Entry, tree_at, node_entry, Lent, Limits, within}
use Rattle.definitions.specs.Refusal.{exceeds_room, is_overfull}
use Rattle.definitions.specs.NodeCache.{Made}
use Rattle.definitions.proofs.Results.{refused_injective}
use Rattle.utility_types.specs.Numbers.{refusal_number}
use Rattle.utility_types.specs.declared.Refusal.{Refusal}
use Rattle.green.specs.Store.{Store, entries}
use Rattle.green_new.proofs.Making.{push_full}
use Rattle.edits.specs.Splice.{Refuses, Awaits}
use Rattle.edits.specs.declared.decide.Needed.{Needed}

-- nothing is lent
abbrev nothing : Lent
nothing = record { records = 0; children = 0; text = 0 }

full : (es : List Entry) (e : Entry) → is_overfull nothing (es ++ (e ∷ [])) ≡ true
unfolding is_overfull exceeds_room
full es e = rw (lt-ltb 0 (length (es ++ (e ∷ []))) (omega (arith, length-append es (e ∷ []))))

pub one_refusal : {call : Limits → Result Made} {r q : Refusal} → Refuses call r → Refuses call q → refusal_number r ≡ refusal_number q
one_refusal a b = refused_injective (sym (a.always (within nothing)) ∙ b.always (within nothing))

-- what is needed, part by part
needs : (count len size height hash : ℕ) → Needed
needs count len size height hash = record { count = count; measure = record { len = len; size = size; height = height; hash = hash } }

module _ {s : Store} {n : ℕ} {ns : List ℕ} {call : Limits → Result Made} {x : Needed} (a : Awaits s n ns call x) where
  pub one_need : {y : Needed} → Awaits s n ns call y → x ≡ y
  unfolding needs
  one_need {y} b =
      let p = a.fresh.measure in
      let q = b.fresh.measure in
      let e : needs x.count x.measure.len x.measure.size x.measure.height x.measure.hash ≡ needs y.count y.measure.len y.measure.size y.measure.height y.measure.hash =
      cc (a.count, b.count, p.len, q.len, p.size, q.size, p.height, q.height, p.hash, q.hash) in
      e

  pub not_refused : {r : Refusal} → Refuses call r → ⊥
  not_refused b =
      let e = node_entry false (entries s) (kind (tree_at (entries s) n)) ns in
      b.not_room (refused_injective (sym (b.always (within nothing)) ∙ a.made (within nothing) ∙ push_full nothing (entries s) e (length (entries s)) a.small (full (entries s) e)))
