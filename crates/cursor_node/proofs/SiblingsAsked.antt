-- An element's siblings as they are asked for. Assumes nothing.
use Prim.Native.Nat.{ℕ, suc, ◌+◌, ◌-◌, ◌<◌}
use native.Mathlib.Omega.{arith}
use mathlib.Core.Path.{◌≡◌, refl, sym, ap, ◌∙◌}
use mathlib.Core.List.{List}
use mathlib.Core.Bool.{Bool, true, false}
use mathlib.Core.Option.{bind}
use lib.ListN.{length, get_or, take, drop}
use Rattle.definitions.specs.Prelude.{Result, refused, option}
use Rattle.definitions.specs.Tree.{Tree, is_node}
use Rattle.definitions.specs.Entry.{Entry, tree_at}
use Rattle.definitions.specs.Element.{Element, children}
use Rattle.definitions.specs.Cursor.{offered, parent, index_of, next_sibling, prev_sibling}
use Rattle.definitions.specs.Query.{ask, maybe, of_sibling}
use Rattle.definitions.specs.Query as query
use Rattle.definitions.proofs.Laws.{false≢true}
use Rattle.green.specs.Store.{Store, entries}
use Rattle.utility_types.specs.declared.Direction.{Direction}
use Rattle.utility_types.specs.declared.Refusal.{Refusal}
use Rattle.utility_types.specs.declared.Refusal.TheVariants.{NoSuchElement}
use Rattle.utility_types.specs.declared.Direction.TheVariants.{Next, Prev}
use Rattle.cursor.specs.declared.position.Cursor.{Cursor}
use Rattle.cursor.specs.declared.path.Remember.TheVariants.{Parent}
use Rattle.cursor.specs.declared.path.Place.{Place}
use Rattle.cursor.specs.Position.{at, child_count}
use Rattle.cursor.specs.Path.{Leads}
use Rattle.cursor.specs.Answers.{answer_at_path}
use Rattle.cursor.proofs.Positions.{children_count}
use Rattle.cursor.proofs.Asking.{answer_none, answer_of_lem, refused_named, refused_4, located_named}
use Rattle.cursor.proofs.AskingNodes.{of_node_node, of_node_token}
use Rattle.cursor_node.specs.Children.{ahead, nearest}
use Rattle.cursor_node.specs.Siblings.{sibling_question, siblings_left, IsParentAndIndex}
use Rattle.cursor_node.proofs.ElementAsked.{root_orphan, parent_above, parent_is}
use Rattle.std.specs.Prelude.{Ok, Err, Some, None}
use Rattle.utility_types.specs.Numbers.{OrRefusal}

-- with tokens every element is offered, otherwise nodes only
abbrev pub IsOffered : Bool → Tree → Type 0
IsOffered tokens t = tokens ≡ false → is_node t ≡ true

pub with_tokens_offered : {tokens : Bool} → tokens ≡ true → (t : Tree) → IsOffered tokens t
with_tokens_offered e t f = absurd (false≢true (sym f ∙ e))

of_sibling_offered : (tokens : Bool) (e : Element) → IsOffered tokens e.tree → (a : Result query.Answer) → of_sibling tokens e a ≡ a
unfolding of_sibling
of_sibling_offered true e m a = refl
of_sibling_offered false e m a = of_node_node e (m refl) a

of_sibling_token : (tokens : Bool) (e : Element) → tokens ≡ false → is_node e.tree ≡ false → (a : Result query.Answer) → of_sibling tokens e a ≡ refused 4
unfolding of_sibling
of_sibling_token true e f t a = absurd (false≢true (sym f))
of_sibling_token false e f t a = of_node_token e t a

-- the elements of a list that lie ahead of the one at i
abbrev beside : Direction → List Element → ℕ → List Element
beside Next xs i = drop (suc i) xs
beside Prev xs i = take i xs

beside_ahead : (d : Direction) (xs : List Element) {n i : ℕ} → n ≡ length xs → i < n → beside d xs i ≡ ahead d xs (siblings_left d n i)
beside_ahead Next xs {n} {i} e h = let z : suc i ≡ length xs - (n - (i + 1)) = omega arith in ap (λ j. drop j xs) z
beside_ahead Prev xs e h = refl

sibling_ask : (d : Direction) (t : Tree) (e : Element) (tokens : Bool)
    → ask t e (sibling_question d tokens) ≡ of_sibling tokens e (maybe (bind (parent t e.path) (λ u. nearest d (offered tokens (beside d (children u) (index_of e.path))))))
unfolding ask next_sibling prev_sibling
sibling_ask Next t e tokens = refl
sibling_ask Prev t e tokens = refl

-- parent_and_index, by its tests
module _ {s : Store} {r depth : ℕ} {l : List ℕ} {x : OrRefusal Place} (d : Leads s Parent r depth l x) (tokens : Bool) where
  abbrev es : List Entry
  es = entries s

  pub refused_siblings : {why : Refusal} → x ≡ Err why → IsParentAndIndex s r depth l tokens (Err why)
  refused_siblings h = record { facts = (refused_4 d h, λ y. answer_none (refused_named d h) (sibling_question y tokens)) }

  module _ {p : Place} (h : x ≡ Ok p) where
    abbrev it : Element
    it = at es (take depth l) p.at

    siblings_asked : (y : Direction) → answer_at_path es r depth l (sibling_question y tokens)
        ≡ of_sibling tokens it (maybe (bind (parent (tree_at es r) (take depth l)) (λ u. nearest y (offered tokens (beside y (children u) (index_of (take depth l)))))))
    siblings_asked y = answer_of_lem (located_named d h) (sibling_question y tokens) ∙ sibling_ask y (tree_at es r) it tokens

    pub token_siblings : tokens ≡ false → is_node (tree_at es p.at.number) ≡ false → IsParentAndIndex s r depth l tokens (Err NoSuchElement)
    token_siblings f z = record { facts = (refl, λ y. siblings_asked y ∙ of_sibling_token tokens it f z _) }

    module _ (m : IsOffered tokens (tree_at es p.at.number)) where
      pub root_siblings : p.remembered ≡ None → IsParentAndIndex s r depth l tokens (Ok None)
      unfolding maybe option bind
      root_siblings n = record { facts = λ y. siblings_asked y ∙ of_sibling_offered tokens it m _ ∙ rw (root_orphan d h n) refl }

      pub child_siblings : {c : Cursor} → p.remembered ≡ Some c → {i : ℕ} → i ≡ get_or l c.depth 0 → IsParentAndIndex s r depth l tokens (Ok (Some (c, i)))
      unfolding bind
      child_siblings {c} n {i} e =
          let a = parent_above d h n in
          let w : i < child_count es c = rw e a.index in
          record {
            facts = record {
              inner = a.inner;
              index = w;
              siblings = λ y. siblings_asked y ∙ of_sibling_offered tokens it m _ ∙ rw ((parent_is d h n).0, (parent_is d h n).1, ← e)
                  (ap (λ z. maybe (nearest y (offered tokens z))) (beside_ahead y (children (at es (take c.depth l) c)) (sym (children_count a.inner (take c.depth l))) w));
            };
          }
