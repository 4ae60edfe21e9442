-- A walk begun at trees that are spelled alike: equal answers and equal states. Demand 3's share of it.
-- What is assumed of the call is what its contract ensures. Assumes nothing else.
use Prim.Native.Nat.{ℕ, ◌≤◌}
use native.Mathlib.Omega.{arith}
use mathlib.Core.Path.{◌≡◌, refl, sym, ap, ◌∙◌}
use mathlib.Core.List.{List}
use mathlib.Core.Bool.{Bool}
use lib.ListN.{length}
use Rattle.definitions.specs.Prelude.{Result, ok, refused}
use Rattle.definitions.specs.Entry.{Entry}
use Rattle.definitions.specs.Preorder.{Walk}
use Rattle.preorder.specs.Walks.{begin_of}
use Rattle.preorder.proofs.Alike.{coming_same, ok≢refused, same_depth}
use Rattle.preorder_lent.specs.declared.Preorder.{Preorder}
use Rattle.preorder_lent.specs.Lent.{WalkValid, walk_in, outcome_as, lent_begun_as, OverIfRefused, LentWalkBegun}
use Rattle.std.specs.Prelude.{Ok, Err}
use Rattle.utility_types.specs.Numbers.{OrRefusal}

ok_same : {v w : Walk} → ◌≡◌ {A = Result Walk} (ok v) (ok w) → v ≡ w
ok_same e = cc

refused_same : {i j : ℕ} → ◌≡◌ {A = Result Walk} (refused i) (refused j) → i ≡ j
refused_same e = cc

-- but for the root, a walk is told by what it spells and by its path
pub record SameState (w w' : Preorder) : Type 0 where
  pub tokens : w.with_tokens ≡ w'.with_tokens
  pub start : w.start ≡ w'.start
  pub depth : w.depth ≡ w'.depth
  pub coming : w.coming ≡ w'.coming
  pub path : w.path ≡ w'.path

module _ (w w' : Preorder) (v : WalkValid w) (v' : WalkValid w') (l : List ℕ) (room : 64 ≤ length l) (p : w.path ≡ l) (p' : w'.path ≡ l) where
  same_walk : walk_in w ≡ walk_in w' → SameState w w'
  same_walk e = record {
    tokens = ap (λ x. x.tokens) e;
    start = ap (λ x. x.depth) e;
    depth = same_depth w.depth w'.depth w.path w'.path (omega (arith, ap length p)) (omega (arith, ap length p')) (ap (λ x. x.path) e);
    coming = coming_same w.coming w'.coming (ap (λ x. x.coming) e);
    path = p ∙ sym p';
  }

  begun_same : (tokens : Bool) (a a' : OrRefusal (Unit {0})) → lent_begun_as w a ≡ lent_begun_as w' a' → OverIfRefused tokens w a → OverIfRefused tokens w' a' → (outcome_as a ≡ outcome_as a') × SameState w w'
  begun_same tokens (Ok x) (Ok y) e o o' = (refl, same_walk (ok_same e))
  begun_same tokens (Ok y) (Err x) e o o' = absurd (ok≢refused e)
  begun_same tokens (Err x) (Ok y) e o o' = absurd (ok≢refused (sym e))
  begun_same tokens (Err x) (Err y) e o o' = (ap refused (refused_same e), same_walk (o ∙ sym o'))

-- THE CLAIM
pub begun_alike : {es es' : List Entry} {r r' : ℕ} {tokens : Bool} {depth : ℕ} (l : List ℕ) → 64 ≤ length l → begin_of es r tokens depth l ≡ begin_of es' r' tokens depth l
    → {w w' : Preorder} {a a' : OrRefusal (Unit {0})} → LentWalkBegun es r tokens depth l w a → LentWalkBegun es' r' tokens depth l w' a' → (outcome_as a ≡ outcome_as a') × SameState w w'
begun_alike {tokens = tokens} l room e {w} {w'} {a} {a'} b b' =
    begun_same w w' b.valid b'.valid l room b.path b'.path tokens a a' (b.says ∙ e ∙ sym b'.says) b.over b'.over
