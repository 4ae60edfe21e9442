-- The first and the last child as they are asked for. Assumes nothing.
use Prim.Native.Nat.{ℕ}
use mathlib.Core.Path.{◌≡◌, refl, sym, ap, ◌∙◌}
use mathlib.Core.List.{List}
use mathlib.Core.Bool.{Bool}
use lib.ListN.{take}
use Rattle.definitions.specs.Tree.{Tree}
use Rattle.definitions.specs.Entry.{Entry, tree_at}
use Rattle.definitions.specs.Element.{Element, children}
use Rattle.definitions.specs.Cursor.{offered, first_child, last_child}
use Rattle.definitions.specs.Query.{ask, of_node, maybe}
use Rattle.green.specs.Store.{Store, entries}
use Rattle.utility_types.specs.declared.Direction.{Direction}
use Rattle.utility_types.specs.declared.Refusal.{Refusal}
use Rattle.utility_types.specs.declared.Direction.TheVariants.{Next, Prev}
use Rattle.cursor.specs.declared.position.Cursor.{Cursor}
use Rattle.cursor.specs.Position.{at, child_count}
use Rattle.cursor.specs.Path.{LeadsToNode}
use Rattle.cursor.specs.Answers.{Tells, answer_at_path}
use Rattle.cursor.proofs.Positions.{children_count}
use Rattle.cursor.proofs.AskingNodes.{of_node_token, no_node_told, node_facts, node_asked}
use Rattle.cursor_node.specs.Children.{ahead, nearest, child_question}
use Rattle.cursor_node.proofs.Nearest.{all_ahead}
use Rattle.std.specs.Prelude.{Ok, Err}
use Rattle.utility_types.specs.Numbers.{OrRefusal}

child_ask : (d : Direction) (t : Tree) (e : Element) (tokens : Bool) → ask t e (child_question d tokens) ≡ of_node e (maybe (nearest d (offered tokens (children e))))
unfolding ask first_child last_child
child_ask Next t e tokens = refl
child_ask Prev t e tokens = refl

module _ {s : Store} {r depth : ℕ} {l : List ℕ} {x : OrRefusal Cursor} (d : LeadsToNode s r depth l x) (y : Direction) (tokens : Bool) where
  abbrev es : List Entry
  es = entries s

  pub no_children : {why : Refusal} → x ≡ Err why → Tells l l (answer_at_path es r depth l (child_question y tokens)) (Err why)
  no_children h = no_node_told d h (child_question y tokens) (λ e n t. child_ask y (tree_at es r) e tokens ∙ of_node_token e t _)

  pub child_asked : {c : Cursor} → x ≡ Ok c → {n : ℕ} → n ≡ child_count es c
      → maybe (nearest y (offered tokens (ahead y (children (at es (take c.depth l) c)) n))) ≡ answer_at_path es r depth l (child_question y tokens)
  child_asked {c} h e =
      let f = node_facts d h in
      sym (node_asked d h (child_question y tokens) (child_ask y (tree_at es r) (at es (take depth l) c) tokens)
      ∙ ap (λ z. maybe (nearest y (offered tokens (children (at es (take z l) c))))) (sym f.deep)
      ∙ ap (λ z. maybe (nearest y (offered tokens z))) (sym (all_ahead y (children (at es (take c.depth l) c)) (e ∙ sym (children_count f.inner (take c.depth l))))))
