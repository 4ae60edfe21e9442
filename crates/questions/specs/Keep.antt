-- What keeping a reply does to the slots.
use Rattle.std.specs.Prelude.{ℕ, ◌≡◌, ◌≤◌, ◌<◌, List, Bool, Ok, Err, Some, slice_set}
use Rattle.preorder.specs.declared.state.Ahead.{Ahead}
use Rattle.utility_types.specs.Numbers.{OrRefusal}
use Rattle.query.specs.declared.reply.Reply.{Reply}
use Rattle.query.specs.declared.reply.Reply.TheVariants as reply
use Rattle.questions.specs.declared.asked.Asked.{Asked}
use Rattle.questions.specs.declared.asked.Keeping.{Keeping}
use Rattle.questions.specs.declared.asked.Keeping.TheVariants.{Walk, Text}
use Rattle.questions.specs.declared.slots.Slots.{Slots}
use Rattle.questions.specs.declared.walk.Walk as walk
use Rattle.questions.specs.declared.text.Text as text

-- the walk that begins, from what was asked, by the path that was lent
pub record WalkKept (a : Asked) (tokens : Bool) (path : List ℕ) (x : Ahead) (w : walk.Walk) : Type 0 where
  pub root : w.root ≡ a.root
  pub with_tokens : w.tokens ≡ tokens
  pub start : w.start ≡ a.depth
  pub indexes : w.path ≡ path
  pub coming : w.coming ≡ x.coming
  pub depth : w.depth ≡ x.depth

-- a text of the node that was asked, no chunk of which was given
pub record TextKept (a : Asked) (path : List ℕ) (from to : ℕ) (t : text.Text) : Type 0 where
  pub root : t.root ≡ a.root
  pub depth : t.depth ≡ a.depth
  pub indexes : t.path ≡ path
  pub range : (t.start ≡ from) × (t.end ≡ to)
  pub given : t.given ≡ 0

-- it is put into slot n, and all other slots are as they were
abbrev pub WalkSet : ℕ → Asked → Bool → List ℕ → Ahead → Slots → Slots → Type 0
WalkSet n a tokens path x old new = (new.texts ≡ old.texts) × ((w : walk.Walk) × ((new.walks ≡ slice_set old.walks n (Some w)) × WalkKept a tokens path x w))

abbrev pub TextSet : ℕ → Asked → List ℕ → ℕ → ℕ → Slots → Slots → Type 0
TextSet n a path from to old new = (new.walks ≡ old.walks) × ((t : text.Text) × ((new.texts ≡ slice_set old.texts n (Some t)) × TextKept a path from to t))

-- a walk that begins, of at most 64 indexes, and a text are kept; of another reply or a refusal nothing is
abbrev pub Keeps : Keeping → Asked → List ℕ → OrRefusal Reply → Slots → Slots → Type 0
Keeps k a path (Err w) old new = new ≡ old
Keeps (Walk slot tokens) a path (Ok (reply.Walk x)) old new = (x.depth ≤ 64 → WalkSet slot.number a tokens path x old new) × (64 < x.depth → new ≡ old)
Keeps (Text slot) a path (Ok (reply.Text from to)) old new = TextSet slot.number a path from to old new
Keeps k a path (Ok r) old new = new ≡ old
