-- What a contract sees of a lent store.
use Rattle.std.specs.Prelude.{ℕ, ◌≡◌, List}
use Rattle.std.specs.Borrow.{Bor, MutBor}
use denote.Triple.Both.{Both}
use Rattle.green.specs.Store as lists
use Rattle.green.specs.declared.Store.{Store}
use Rattle.green.specs.declared.store_mut.StoreMut.{StoreMut}

-- the four lent places, as lists
abbrev pub view : Store → lists.Store
view s = lists.store s.records.now s.children.now s.text.now s.used.now

-- the same of what is lent to be written: to any event, to what makes a token and only reads child places, and to what makes a node and only reads text
abbrev pub view_events : StoreMut (MutBor (List ℕ)) (MutBor (List ℕ)) → lists.Store
view_events s = lists.store s.records.now s.children.now s.text.now s.used.now

abbrev pub view_tokens : StoreMut (Bor (List ℕ)) (MutBor (List ℕ)) → lists.Store
view_tokens s = lists.store s.records.now s.children.now s.text.now s.used.now

abbrev pub view_nodes : StoreMut (MutBor (List ℕ)) (Bor (List ℕ)) → lists.Store
view_nodes s = lists.store s.records.now s.children.now s.text.now s.used.now

-- of a `&mut` of them, what an `ensures` has: as the function was called, and as it returns
abbrev pub event_stores : Both (MutBor (StoreMut (MutBor (List ℕ)) (MutBor (List ℕ)))) (MutBor (StoreMut (MutBor (List ℕ)) (MutBor (List ℕ)))) → Both lists.Store lists.Store
event_stores s = lists.both (view_events s.entry.now) (view_events s.exit.now)

abbrev pub token_stores : Both (MutBor (StoreMut (Bor (List ℕ)) (MutBor (List ℕ)))) (MutBor (StoreMut (Bor (List ℕ)) (MutBor (List ℕ)))) → Both lists.Store lists.Store
token_stores s = lists.both (view_tokens s.entry.now) (view_tokens s.exit.now)

abbrev pub node_stores : Both (MutBor (StoreMut (MutBor (List ℕ)) (Bor (List ℕ)))) (MutBor (StoreMut (MutBor (List ℕ)) (Bor (List ℕ)))) → Both lists.Store lists.Store
node_stores s = lists.both (view_nodes s.entry.now) (view_nodes s.exit.now)

-- a call leaves a lent store over the same records and counts
pub record SamePlaces {C T : Type 0} (s s' : StoreMut C T) : Type 0 where
  pub records : s.records.ghost_name ≡ s'.records.ghost_name
  pub used : s.used.ghost_name ≡ s'.used.ghost_name

-- the same of all that is lent, and as many places are lent as before
pub record SameEventPlaces (s s' : StoreMut (MutBor (List ℕ)) (MutBor (List ℕ))) : Type 0 where
  pub places : SamePlaces s s'
  pub children : s.children.ghost_name ≡ s'.children.ghost_name
  pub text : s.text.ghost_name ≡ s'.text.ghost_name
  pub lengths : lists.SameLengths (view_events s) (view_events s')

-- child places that are only read stay
pub record SameTokenPlaces (s s' : StoreMut (Bor (List ℕ)) (MutBor (List ℕ))) : Type 0 where
  pub places : SamePlaces s s'
  pub children : s'.children ≡ s.children
  pub text : s.text.ghost_name ≡ s'.text.ghost_name
  pub lengths : lists.SameLengths (view_tokens s) (view_tokens s')

-- text that is only read stays
pub record SameNodePlaces (s s' : StoreMut (MutBor (List ℕ)) (Bor (List ℕ))) : Type 0 where
  pub places : SamePlaces s s'
  pub children : s.children.ghost_name ≡ s'.children.ghost_name
  pub text : s'.text ≡ s.text
  pub lengths : lists.SameLengths (view_nodes s) (view_nodes s')
