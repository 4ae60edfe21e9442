-- What `notes_token_text` tells is demand 3's row for the text of a token (`token_texts`): the bytes between its two words, or its refusal. Assumes nothing.
use Prim.Native.Nat.{ℕ, ◌-◌, ◌≤◌}
use mathlib.Core.Path.{◌≡◌, refl, sym, ◌∙◌}
use mathlib.Core.List.{List}
use mathlib.Core.Bool.{Bool, true, false, cond, not, ◌||◌, ◌&&◌}
use mathlib.Core.Option.{Option, none, some, bind}
use lib.Dec.{eqb, ltb}
use lib.ListN.{length, take}
use Rattle.definitions.specs.Prelude.{Result, ok, refused, option}
use Rattle.definitions.specs.Tree.{Tree, is_node, text}
use Rattle.definitions.specs.Entry.{Entry, tree_at}
use Rattle.definitions.specs.Refusal.{is_no_node}
use Rattle.definitions.specs.Element.{Element, root, along, element_at}
use Rattle.definitions.specs.SyntaxText.{token_text}
use Rattle.cursor.specs.Path.{named}
use Rattle.abi.specs.Outcomes.{chunk_outcome}
use Rattle.notes_tree.specs.Demand3.{token_text_asked}
use Rattle.cursor_ffi.specs.Exports.{token_of, named_token, TokenText}
use Rattle.cursor_ffi.proofs.Alike.{bytes_told, text_told}

-- the answer that an outcome x and its words m give, b being the lent text
abbrev pub text_answer : List ℕ → ℕ → List ℕ → Result (List ℕ)
text_answer b x m = cond (eqb x chunk_outcome) (ok (bytes_told b x m)) (refused (x - 100))

-- the text of a token, or 4
abbrev text_in : Option Tree → Result (List ℕ)
text_in o = option (refused 4) (λ t. ok (text t)) o

of_element : (e : Element) → cond (is_node e.tree) (refused 4) (ok (text e.tree)) ≡ text_in (token_of e)
unfolding token_of option
of_element e = go (is_node e.tree)
  where
    go : (n : Bool) → cond n (refused 4) (ok (text e.tree)) ≡ option (refused 4) (λ t. ok (text t)) (cond n none (some e.tree))
    go true = refl
    go false = refl

of_way : (o : Option Element) → option (refused 4) (λ e. cond (is_node e.tree) (refused 4) (ok (text e.tree))) o ≡ text_in (bind o token_of)
unfolding option bind
of_way none = refl
of_way (some e) = of_element e

-- a is over 64 indexes, b and t that the root is there and is a node
by_tests : (a b t : Bool) (o : Option Element)
    → cond a (refused 4) (cond (not (b && t)) (refused 4) (option (refused 4) (λ e. cond (is_node e.tree) (refused 4) (ok (text e.tree))) (cond t o none)))
    ≡ text_in (bind (cond (a || not (b && t)) none o) token_of)
unfolding option bind
by_tests true b t o = refl
by_tests false true true o = of_way o
by_tests false true false o = refl
by_tests false false t o = refl

asked_named : (es : List Entry) (r depth : ℕ) (l : List ℕ) → token_text_asked es r depth l ≡ text_in (named_token es r depth l)
unfolding token_text_asked token_text element_at is_no_node named_token named
asked_named es r depth l = by_tests (ltb 64 depth) (ltb r (length es)) (is_node (tree_at es r)) (along (take depth l) (root (tree_at es r)))

pub text_asked_lem : (es : List Entry) (b : List ℕ) (r depth : ℕ) (l m m' : List ℕ) (x : ℕ) → 2 ≤ length m
    → TokenText es b r (take depth l) (named_token es r depth l) m m' x → text_answer b x m' ≡ token_text_asked es r depth l
unfolding option
text_asked_lem es b r depth l m m' x h k = go (named_token es r depth l) refl ∙ sym (asked_named es r depth l)
  where
    go : (o : Option Tree) → named_token es r depth l ≡ o → text_answer b x m' ≡ text_in (named_token es r depth l)
    go (some t) e = let c = k.token t e in rw e (rw (sym (text_told h c)) (rw c.written.outcome refl))
    go none e = let c = k.no_token e in rw (e, c.outcome) refl
