-- A question that needs a node, put to what a path leads to. Assumes nothing.
use Prim.Native.Nat.{ℕ}
use mathlib.Core.Path.{◌≡◌, refl, sym, ap, ◌∙◌}
use mathlib.Core.List.{List}
use mathlib.Core.Bool.{Bool, true, false, cond}
use mathlib.Core.Option.{Option, none, some, bind, none-ne-some}
use lib.ListN.{take}
use Rattle.definitions.specs.Prelude.{Result, refused}
use Rattle.definitions.specs.Tree.{is_node}
use Rattle.definitions.specs.Entry.{Entry, tree_at}
use Rattle.definitions.specs.Element.{Element}
use Rattle.definitions.specs.Query as query
use Rattle.definitions.specs.Query.{Question, ask, of_node}
use Rattle.utility_types.specs.declared.Refusal.{Refusal}
use Rattle.utility_types.specs.declared.Refusal.TheVariants.{NoSuchElement}
use Rattle.green.specs.Store.{Store, entries}
use Rattle.cursor.specs.declared.position.Cursor.{Cursor}
use Rattle.cursor.specs.declared.path.Remember.{Remember}
use Rattle.cursor.specs.declared.path.Place.{Place}
use Rattle.cursor.specs.Position.{at, Inner}
use Rattle.cursor.specs.Path.{named, named_node, node_located_at, NodeFacts, Leads, LeadsToNode}
use Rattle.cursor.specs.Answers.{Tells, answer_at_path}
use Rattle.cursor.proofs.Named.{Names}
use Rattle.cursor.proofs.Asking.{answer_none, answer_of_lem, refused_by_lem, refused_named, refused_4, located_named, located_facts}
use Rattle.std.specs.Prelude.{Ok, Err}
use Rattle.utility_types.specs.Numbers.{OrRefusal}

pub of_node_node : (e : Element) → is_node e.tree ≡ true → (a : Result query.Answer) → of_node e a ≡ a
unfolding of_node
of_node_node e t a = rw t

pub of_node_token : (e : Element) → is_node e.tree ≡ false → (a : Result query.Answer) → of_node e a ≡ refused 4
unfolding of_node
of_node_token e t a = rw t

-- locate_node, by its tests
module _ {s : Store} {remember : Remember} {r depth : ℕ} {l : List ℕ} {x : OrRefusal Place} (d : Leads s remember r depth l x) where
  pub refused_no_node : {why : Refusal} → x ≡ Err why → LeadsToNode s r depth l (Err why)
  unfolding named_node bind
  refused_no_node h = record { says = rw (← (refused_named d h).is) refl; facts = refused_4 d h }

  module _ {p : Place} (h : x ≡ Ok p) where
    pub token_no_node : is_node (tree_at (entries s) p.at.number) ≡ false → LeadsToNode s r depth l (Err NoSuchElement)
    unfolding named_node bind
    token_no_node t = record { says = rw (← (located_named d h).is, t) refl; facts = refl }

    pub node_located : Inner s p.at → LeadsToNode s r depth l (Ok p.at)
    unfolding named_node bind
    node_located i = record {
      says = rw (← (located_named d h).is, i.node) refl;
      facts = record { inner = i; deep = (located_facts d h).deep; number = (located_facts d h).number };
    }

-- a node is named, or a token, or nothing
module _ (o : Option Element) where
  abbrev node_of : Option Element
  node_of = bind o (λ e. cond (is_node e.tree) (some e) none)

  node_of_lem : {e : Element} → some e ≡ node_of → some e ≡ o
  unfolding bind
  node_of_lem {e} n = go o n
    where
      kept : (y : Element) (b : Bool) → some e ≡ cond b (some y) none → some e ≡ some y
      kept y true n = n
      kept y false n = absurd (none-ne-some e (sym n))

      go : (o : Option Element) → some e ≡ bind o (λ y. cond (is_node y.tree) (some y) none) → some e ≡ o
      go none n = absurd (none-ne-some e (sym n))
      go (some y) n = kept y (is_node y.tree) n

  -- what holds of nothing and of every token holds where no node is named
  no_node_of : {P : Type 0} → none ≡ node_of → (none ≡ o → P) → ((e : Element) → some e ≡ o → is_node e.tree ≡ false → P) → P
  unfolding bind
  no_node_of {P} n f g = go o refl n
    where
      token : (y : Element) → o ≡ some y → (b : Bool) → is_node y.tree ≡ b → none ≡ cond b (some y) none → P
      token y e true t n = absurd (none-ne-some y n)
      token y e false t n = g y (sym e) t

      go : (p : Option Element) → o ≡ p → none ≡ bind p (λ y. cond (is_node y.tree) (some y) none) → P
      go none e n = f (sym e)
      go (some y) e n = token y e (is_node y.tree) refl n

module _ {s : Store} {r depth : ℕ} {l : List ℕ} {x : OrRefusal Cursor} (d : LeadsToNode s r depth l x) where
  abbrev es : List Entry
  es = entries s

  pub no_node_4 : {why : Refusal} → x ≡ Err why → why ≡ NoSuchElement
  no_node_4 h = rw h at d.facts

  pub no_node_named : {why : Refusal} → x ≡ Err why → {P : Type 0} → (Names es r depth l none → P) → ((e : Element) → Names es r depth l (some e) → is_node e.tree ≡ false → P) → P
  unfolding named_node
  no_node_named h f g =
      no_node_of (named es r depth l) (sym (ap (node_located_at es depth l) h) ∙ d.says) (λ n. f (record { is = n })) (λ e n. g e (record { is = n }))

  -- a question that refuses every token is refused
  pub no_node_asked : {why : Refusal} → x ≡ Err why → (q : Question) → ((e : Element) → Names es r depth l (some e) → is_node e.tree ≡ false → ask (tree_at es r) e q ≡ refused 4)
      → answer_at_path es r depth l q ≡ refused 4
  no_node_asked h q f = no_node_named h (λ n. answer_none n q) (λ e n t. answer_of_lem n q ∙ f e n t)

  -- and by the refusal that locate_node answered
  pub no_node_told : {why : Refusal} → x ≡ Err why → (q : Question) → ((e : Element) → Names es r depth l (some e) → is_node e.tree ≡ false → ask (tree_at es r) e q ≡ refused 4)
      → Tells l l (answer_at_path es r depth l q) (Err why)
  no_node_told h q f = refused_by_lem (no_node_4 h) (no_node_asked h q f)

  module _ {c : Cursor} (h : x ≡ Ok c) where
    pub node_facts : NodeFacts s r depth l c
    node_facts = rw h at d.facts

    pub node_named : Names es r depth l (some (at es (take depth l) c))
    unfolding named_node
    node_named = record { is = node_of_lem (named es r depth l) (sym (ap (node_located_at es depth l) h) ∙ d.says) }

    -- one that needs a node is answered
    pub node_asked : (q : Question) {a : Result query.Answer} → ask (tree_at es r) (at es (take depth l) c) q ≡ of_node (at es (take depth l) c) a → answer_at_path es r depth l q ≡ a
    node_asked q {a} e = answer_of_lem node_named q ∙ e ∙ of_node_node (at es (take depth l) c) node_facts.inner.node a
