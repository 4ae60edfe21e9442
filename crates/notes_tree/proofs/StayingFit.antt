-- What is lent beside a store stays fit for use while records are made in it. Assumes nothing.
use Prim.Native.Nat.{ℕ, ◌≤◌, ◌<◌}
use native.Mathlib.Omega.{arith}
use mathlib.Core.Path.{◌≡◌, refl, sym, ap, ◌∙◌}
use mathlib.Core.List.{List}
use mathlib.Core.Bool.{Bool, true, false}
use mathlib.Core.Option.{none, none-ne-some, some-injective}
use lib.ListN.{length, take, length-append, get_or-append}
use borrow.Author.Tests.{lt-ltb}
use Rattle.definitions.specs.Tree.{is_node}
use Rattle.definitions.specs.Entry.{absent, tree_at, is_node_at, token_entry}
use Rattle.definitions.specs.Element.{Element, element_at}
use Rattle.definitions.proofs.Growing.{Grows}
use Rattle.definitions.specs.NodeCache.{share}
use Rattle.definitions.specs.Run.{event}
use Rattle.green.specs.Store.{Store, limits, entries, both}
use Rattle.green_new.specs.Done.{Done}
use Rattle.green.specs.Valid.{Valid}
use Rattle.cursor.specs.declared.position.Cursor.{Cursor}
use Rattle.cursor.specs.Position.{Placed}
use Rattle.syntax_text.specs.Text.{nowhere_at, astray_at, Checks}
use Rattle.syntax_text_chunks.specs.Chunks.{top_of, ChunkComing, KeptPlace, ChunkKept}
use Rattle.notes_tree.specs.History.{Write, Wrote}
use Rattle.notes_tree.specs.StillFit.{StillFit}
use Rattle.notes_tree.proofs.Finding.{passing}
use Rattle.builder.specs.Builder.{builder_of, state_of, BuilderValid}
use Rattle.builder.specs.declared.state.GreenNodeBuilder.{GreenNodeBuilder}
use Rattle.builder.specs.EventDone.{EventDone}
use Rattle.builder.specs.declared.state.EventAnswer.{EventAnswer}
use Rattle.sheet_run.specs.RunDone.{StepDone}
use Rattle.sheet_run.specs.declared.Outcome.{Outcome}
use Rattle.definitions.proofs.Kept.{events_kept}
use Rattle.notes_tree.proofs.Growing.{wrote_valid, wrote_grows, event_grows, share_grows}
use Rattle.notes_tree.proofs.Keeping.{coming_as}
use Rattle.std.specs.Prelude.{Ok}
use Rattle.utility_types.specs.Numbers.{OrRefusal}

-- WHATEVER MAKES RECORDS: the store s' is in order, and its entries are those of s and more
module _ {s s' : Store} (v : Valid s) (v' : Valid s') (g : Grows (entries s) (entries s')) where
  longer : length (entries s) ≤ length (entries s')
  longer = omega (arith, ap length g.1, length-append (entries s) g.0)

  tree_stays : (n : ℕ) → n < length (entries s) → tree_at (entries s) n ≡ tree_at (entries s') n
  tree_stays n h = sym (ap (λ x. tree_at x n) g.1 ∙ ap (λ x. x.tree) (get_or-append (entries s) g.0 absent n h))

  placed_still : (c : Cursor) → Placed s c → Placed s' c × (tree_at (entries s) c.number ≡ tree_at (entries s') c.number)
  placed_still c p =
      let w = tree_stays c.number p.known.within in
      (record { known = record { valid = v'; within = omega (arith, longer, p.known.within) }; deep = rw (← w) p.deep; far = rw (← w) p.far }, w)

  module _ (r depth : ℕ) (l : List ℕ) (a b : ℕ) (h : r < length (entries s)) (d : Cursor) (e : Checks s' r depth l a b (Ok d)) where
    unnamed : is_node (tree_at (entries s') r) ≡ false → none ≡ element_at (tree_at (entries s') r) (take depth l)
    unfolding element_at
    unnamed k = rw k refl

    root_node : (t : Bool) → is_node (tree_at (entries s') r) ≡ t → is_node_at (entries s) r ≡ true
    root_node true k = rw (lt-ltb r (length (entries s)) h, tree_stays r h, k) refl
    root_node false k = absurd (none-ne-some _ (unnamed k ∙ e.held.there))

    earlier_nowhere : nowhere_at (entries s) r depth l a b ≡ false
    unfolding nowhere_at
    earlier_nowhere = rw (tree_stays r h) e.nowhere

    earlier_astray : astray_at (entries s) r depth l a b ≡ false
    unfolding astray_at
    earlier_astray = rw (tree_stays r h) (e.astray refl)

    stays : {given : ℕ} {q : List ℕ} {m : ℕ} → KeptPlace s r depth l a b given q m → ChunkComing s' a b (top_of d) given q m
    stays k =
        let c = passing v r depth l a b (root_node (is_node (tree_at (entries s') r)) refl) earlier_nowhere earlier_astray in
        let z = some-injective _ _ (sym c.checks.held.there ∙ ap (λ y. element_at y (take depth l)) (tree_stays r h) ∙ e.held.there) in
        coming_as s s' a b (top_of c.cursor) (top_of d) _ _ _ (ap (λ (y : Element). y.start) z) (ap (λ (y : Element). y.tree) z) placed_still (k.coming c.cursor c.checks)

  pub kept_grown : (r depth : ℕ) (l : List ℕ) (a b given : ℕ) (q : List ℕ) (k : ℕ) → ChunkKept s r depth l a b given q k → ChunkKept s' r depth l a b given q k
  kept_grown r depth l a b given q k x m e = let y = x m e in record { known = omega (arith, longer, y.known); coming = λ d f. stays r depth l a b y.known d f y }

  -- a builder that nobody has written
  grown_builder : (b : GreenNodeBuilder) → BuilderValid s b → BuilderValid s' b
  grown_builder b h = record {
    valid = v';
    nested = h.nested;
    events = events_kept (entries s) (entries s') (builder_of b).children g h.events;
  }

  pub grown_fit : StillFit s s'
  grown_fit = record {
    builders = grown_builder;
    chunks = λ n c k. kept_grown n c.depth c.path c.start c.stop c.given c.place c.kept k;
  }

-- Each call that makes records leaves it fit: those of a history, an event of any builder by itself, and a token that is shared by itself
pub wrote_fit : {s s' : Store} {w : Write} → Valid s → Wrote s s' w → StillFit s s'
wrote_fit v d = grown_fit v (wrote_valid d) (wrote_grows v d)

pub event_fit : {s s' : Store} {b b' : GreenNodeBuilder} {r : EventAnswer} (c k x : ℕ) (left : List ℕ) → Valid s → EventDone s s' b b' (event (limits s) (state_of s b) c k x left) r → StillFit s s'
event_fit c k x left v d = grown_fit v d.builder_valid.valid (event_grows c k x left d)

pub step_fit : {s s' : Store} {b b' : GreenNodeBuilder} {sheet source : List ℕ} {i at : ℕ} {r : Outcome} → Valid s → StepDone (both s s') (both b b') sheet source i at r → StillFit s s'
step_fit v d = event_fit _ _ _ _ v d.stepped

pub token_fit : {s s' : Store} {r : OrRefusal ℕ} (k : ℕ) (bytes : List ℕ) → Valid s → Done s s' (share (limits s) (entries s) (token_entry k bytes)) r → StillFit s s'
token_fit k bytes v d = grown_fit v d.valid (share_grows (token_entry k bytes) refl d)
