-- Where a token's text lies. Assumes nothing.
use Prim.Native.Nat.{ℕ, ◌+◌, ◌-◌, ◌≤◌}
use native.Mathlib.Omega.{arith}
use mathlib.Core.Path.{◌≡◌, refl, sym, ap, subst, ◌∙◌}
use mathlib.Core.List.{List, [], ◌∷◌}
use mathlib.Core.Bool.{true, false}
use mathlib.Core.Option.{Option, none, some, bind, none-ne-some, some-injective}
use lib.ListN.{length, take, drop, length-take, length-drop}
use Rattle.definitions.specs.Tree.{Tree, is_node, text, text_len}
use Rattle.definitions.specs.Entry.{Entry, tree_at, entry_at, number_at, text_bytes}
use Rattle.definitions.proofs.Laws.{text_length}
use Rattle.definitions.specs.Element.{Element}
use Rattle.green.specs.Store.{Store, entries}
use Rattle.green.specs.Layout.{first_of, own_count}
use Rattle.green.proofs.Answering.{token_bound, token_used, token_part}
use Rattle.cursor.specs.declared.position.Cursor.{Cursor}
use Rattle.cursor.specs.Position.{Placed}
use Rattle.cursor.proofs.Named.{Names}
use Rattle.utility_types.specs.declared.Refusal.TheVariants.{NoSuchElement}
use Rattle.abi.specs.Outcomes.{with_words, chunk_outcome, refused_by, OutputWritten}
use Rattle.cursor_ffi.specs.Exports.{token_of, named_token, TextLies, TokenText}

by_name : {es : List Entry} {r depth : ℕ} {l : List ℕ} {o : Option Element} → Names es r depth l o → named_token es r depth l ≡ bind o token_of
unfolding named_token
by_name n = ap (λ o. bind o token_of) (sym n.is)

no_text : {o : Option Tree} → o ≡ none → {es : List Entry} {b : List ℕ} {root : ℕ} {p m : List ℕ} {x : ℕ} → x ≡ (refused_by NoSuchElement).outcome → TokenText es b root p o m m x
no_text h e = record { token = λ t g. absurd (none-ne-some t (sym h ∙ g)); no_token = λ g. record { outcome = e; words = refl } }

-- a path names nothing, a node, or a token
pub nothing_there : {es : List Entry} {r depth : ℕ} {l : List ℕ} → Names es r depth l none → {b m : List ℕ} {x : ℕ} → x ≡ (refused_by NoSuchElement).outcome → TokenText es b r (take depth l) (named_token es r depth l) m m x
unfolding bind
nothing_there n = no_text (by_name n)

module _ {es : List Entry} {r depth : ℕ} {l : List ℕ} {e : Element} (n : Names es r depth l (some e)) where
  pub node_there : is_node e.tree ≡ true → {b m : List ℕ} {x : ℕ} → x ≡ (refused_by NoSuchElement).outcome → TokenText es b r (take depth l) (named_token es r depth l) m m x
  unfolding token_of bind
  node_there h = no_text (by_name n ∙ rw h refl)

  module _ (h : is_node e.tree ≡ false) where
    token_is : named_token es r depth l ≡ some e.tree
    unfolding token_of bind
    token_is = by_name n ∙ rw h refl

    pub token_there : {b m m' : List ℕ} {x : ℕ} → TextLies es b r (take depth l) e.tree m m' x → TokenText es b r (take depth l) (named_token es r depth l) m m' x
    token_there {b} {m} {m'} {x} t = record {
      token = λ u g. subst (λ v. TextLies es b r (take depth l) v m m' x) (some-injective _ _ (sym token_is ∙ g)) t;
      no_token = λ g. absurd (none-ne-some _ (sym g ∙ token_is));
    }

-- where the bytes of a token's record lie
module _ {s : Store} {c : Cursor} (p : Placed s c) (h : is_node (tree_at (entries s) c.number) ≡ false) {f k : ℕ} (first : f ≡ first_of (entries s) c.number)
    (count : k ≡ own_count (entry_at (entries s) c.number)) where
  text_used : f + k ≤ text_bytes (entries s)
  text_used = omega (arith, token_used s c.number p.known h, first, count)

  pub text_within : f + k ≤ length s.text
  text_within = omega (arith, token_bound s c.number p.known h, first, count)

  text_here : take (f + k - f) (drop f s.text) ≡ text (tree_at (entries s) c.number)
  text_here = token_part s c.number p.known h f k first count

  all : k ≡ text_len (tree_at (entries s) c.number)
  all = omega (arith, ap length text_here, text_length (tree_at (entries s) c.number), length-take (f + k - f) (drop f s.text), length-drop f s.text, text_within)

  pub text_lies : {root : ℕ} {q : List ℕ} → number_at (entries s) root q ≡ some c.number → {m m' : List ℕ} {x : ℕ} → OutputWritten (with_words chunk_outcome (f ∷ (f + k) ∷ [])) m m' x
      → TextLies (entries s) s.text root q (tree_at (entries s) c.number) m m' x
  text_lies r w = record {
    number = c.number;
    recorded = r;
    used = rw (← first, ← all) text_used;
    within = rw (← first, ← all) text_within;
    bytes = rw (← first, ← all) (let z : f + k - f ≡ k = omega arith in subst (λ j. take j (drop f s.text) ≡ text (tree_at (entries s) c.number)) z text_here);
    written = rw (← first, ← all) w;
  }
