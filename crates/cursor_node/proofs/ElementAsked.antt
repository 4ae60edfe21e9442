-- The element of a path and its parent as they are asked for. Assumes nothing.
use Prim.Native.Nat.{ℕ, ◌<◌}
use native.Mathlib.Omega.{arith}
use mathlib.Core.Path.{◌≡◌, refl, sym, ap, ◌∙◌}
use mathlib.Core.List.{List}
use mathlib.Core.Option.{none, some}
use lib.ListN.{get_or, take}
use Rattle.definitions.specs.Prelude.{ok, option}
use Rattle.definitions.specs.Tree.{Tree}
use Rattle.definitions.specs.Entry.{Entry, tree_at}
use Rattle.definitions.specs.Element.{Element}
use Rattle.definitions.specs.Cursor.{parent, index_of}
use Rattle.definitions.specs.Query.{Question, ask, maybe}
use Rattle.definitions.specs.Query as query
use Rattle.green.specs.Store.{Store, entries}
use Rattle.utility_types.specs.declared.SyntaxElement.{SyntaxElement}
use Rattle.cursor.specs.declared.position.Cursor.{Cursor}
use Rattle.cursor.specs.declared.path.Remember.TheVariants.{Parent}
use Rattle.cursor.specs.declared.path.Place.{Place}
use Rattle.cursor.specs.Position.{at, NamesElement}
use Rattle.cursor.specs.Path.{branch_of, Above, Leads}
use Rattle.cursor.specs.Answers.{Tells, answer_at_path}
use Rattle.cursor.proofs.Paths.{above_level}
use Rattle.cursor.proofs.Named.{leads_along, root_is_node}
use Rattle.cursor.proofs.Asking.{located_facts, located_named, answer_of_lem}
use Rattle.cursor.proofs.Branching.{no_parent, the_parent}
use Rattle.std.specs.Prelude.{Ok, Some, None}
use Rattle.utility_types.specs.Numbers.{OrRefusal}

module _ {s : Store} {r depth : ℕ} {l : List ℕ} {x : OrRefusal Place} (d : Leads s Parent r depth l x) {p : Place} (h : x ≡ Ok p) where
  abbrev es : List Entry
  es = entries s

  abbrev t : Tree
  t = tree_at es r

  abbrev it : Element
  it = at es (take depth l) p.at

  -- element_at
  pub here_asked : {y : SyntaxElement} → NamesElement es p.at y
      → Tells l l (answer_at_path es r depth l Question.here) (Ok (Some y))
  unfolding ask
  here_asked {y} e = record {
    says = sym (answer_of_lem (located_named d h) Question.here ∙ ap (λ z. ok (query.Answer.element z)) (rw (← (located_facts d h).deep) (sym (e.0 l))));
    kept = (omega (arith, e.1, (located_facts d h).placed.deep), refl);
  }

  -- the path's element is the root
  module _ (n : p.remembered ≡ None) where
    pub root_orphan : parent t (take depth l) ≡ none
    root_orphan = no_parent t (take depth l) it (leads_along (located_named d h)) ((located_facts d h).branch ∙ ap (branch_of es l) n)

    pub parent_none : Tells l l (answer_at_path es r depth l Question.parent) (Ok None)
    unfolding ask maybe option
    parent_none = record { says = sym (answer_of_lem (located_named d h) Question.parent ∙ rw root_orphan refl); kept = refl }

  -- it is a child of the node that is remembered
  module _ {c : Cursor} (n : p.remembered ≡ Some c) where
    pub parent_above : Above s Parent depth l c
    parent_above = rw n at (located_facts d h).remembered

    pub parent_is : (parent t (take depth l) ≡ some (at es (take c.depth l) c)) × (index_of (take depth l) ≡ get_or l c.depth 0)
    parent_is =
        the_parent t (root_is_node (located_named d h)) (take depth l) it (leads_along (located_named d h))
        (record { node = at es (take c.depth l) c; index = get_or l c.depth 0 }) ((located_facts d h).branch ∙ ap (branch_of es l) n)

    pub parent_level : c.depth < 64
    parent_level = above_level parent_above

    pub parent_asked : {y : SyntaxElement} → NamesElement es c y
        → Tells l l (answer_at_path es r depth l Question.parent) (Ok (Some y))
    unfolding ask maybe option
    parent_asked {y} e = record {
      says = sym (answer_of_lem (located_named d h) Question.parent ∙ rw parent_is.0 (ap (λ z. ok (query.Answer.element z)) (sym (e.0 l))));
      kept = (omega (arith, e.1, parent_level), refl);
    }
