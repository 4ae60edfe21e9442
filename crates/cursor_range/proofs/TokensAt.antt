-- The tokens at an offset, in a tree and among a node's children. Assumes nothing.
use Prim.Native.Nat.{ℕ, zero, suc, ◌+◌, ◌-◌, ◌≤◌, ◌<◌}
use native.Mathlib.Omega.{arith}
use native.Mathlib.Nat.{add-zero}
use native.Mathlib.Numerals.{add-one}
use mathlib.Core.Path.{◌≡◌, sym, ap, ◌∙◌}
use mathlib.Core.List.{List, [], ◌∷◌, ◌++◌, append-nil}
use lib.ListN.{length, get_or, drop}
use lib.Seq.{drop-cons, drop-length}
use Rattle.definitions.specs.Prelude.{filter}
use Rattle.definitions.specs.Tree.{text_len}
use Rattle.definitions.specs.Entry.{Entry, entry_at, tree_at, trees_at}
use Rattle.definitions.specs.Element.{Element}
use Rattle.definitions.specs.Cursor.{tokens_in, tokens_of, tokens, token_at_offset}
use Rattle.definitions.proofs.Laws.{filter_append}
use Rattle.definitions.proofs.TokensAt.{tree_none, is_at, One, tree_first, node_tokens, tree_last}
use Rattle.green.specs.Store.{Store, entries}
use Rattle.cursor.specs.declared.position.Cursor.{Cursor}
use Rattle.cursor.specs.Position.{at, Inner}
use Rattle.cursor_range.specs.Search.{start_of}
use Rattle.cursor_range.specs.Offset.{Misses, OnlyChildInRange, ChildrenMeeting, child_at}
use Rattle.cursor_range.proofs.Searching.{start_rises}
use Rattle.cursor_range.proofs.Starts.{first_start, next_start}

module _ {s : Store} {c : Cursor} (i : Inner s c) (x : ℕ) (p : List ℕ) where
  abbrev es : List Entry
  es = entries s

  abbrev ns : List ℕ
  ns = (entry_at es c.number).children

  -- the tokens at x in the children from k on
  abbrev from : ℕ → List Element
  from k = filter (is_at x) (tokens_of (trees_at es (drop k ns)) p k (start_of es c k))

  from_all : token_at_offset x (at es p c) ≡ from 0
  unfolding token_at_offset tokens
  from_all =
      ap (filter (is_at x))
      (node_tokens (tree_at es c.number) i.node p c.start
      ∙ ap (λ f. tokens_of f p 0 c.start) (i.placed.known.valid.formed c.number i.placed.known.within).over
      ∙ ap (λ o. tokens_of (trees_at es ns) p 0 o) (sym (first_start es c)))

  from_next : (k : ℕ) → k < length ns → from k ≡ token_at_offset x (child_at es p c k) ++ from (suc k)
  unfolding token_at_offset tokens trees_at tokens_of
  from_next k h =
      let rest : ℕ → List Element = λ j. tokens_of (trees_at es (drop (suc k) ns)) p j (start_of es c k + text_len (tree_at es (get_or ns k 0))) in
      rw (drop-cons ns k 0 h, next_start i k h)
      (filter_append (is_at x) (tokens_in (tree_at es (get_or ns k 0)) (p ++ (k ∷ [])) (start_of es c k)) (rest (k + 1))
      ∙ ap (λ j. token_at_offset x (child_at es p c k) ++ filter (is_at x) (rest j)) (add-one k))

  from_end : from (length ns) ≡ []
  unfolding trees_at tokens_of filter
  from_end = rw (drop-length ns)

  -- past children that x misses
  from_past : (k n : ℕ) → k + n ≤ length ns → Misses x (start_of es c k) (start_of es c (k + n)) → from k ≡ from (k + n)
  unfolding token_at_offset tokens
  from_past k zero h m = rw (add-zero k)
  from_past k (suc n) h m =
      let e : k + suc n ≡ suc k + n = omega arith in
      let l : k < length ns = omega arith in
      let a = start_rises es c (suc k) (suc k + n) (omega arith) in
      let b = start_rises es c k (suc k) (omega arith) in
      let m' = rw e at m in
      from_next k l
      ∙ rw (tree_none (tree_at es (get_or ns k 0)) x (start_of es c k) (p ++ (k ∷ [])) (λ u v w. m' (omega (arith, next_start i k l)) v (omega (arith, next_start i k l))), e)
      (from_past (suc k) n (omega arith) (λ u v w. m' (omega arith) (omega arith) w))

  from_to : (k m : ℕ) → k ≤ m → m ≤ length ns → Misses x (start_of es c k) (start_of es c m) → from k ≡ from m
  from_to k m l h q = let e : k + (m - k) ≡ m = omega arith in rw e at (from_past k (m - k) (omega arith) (rw e q))

  -- the tokens at x are those of the children that hold it
  pub one_child : {k : ℕ} → OnlyChildInRange es c x k → token_at_offset x (at es p c) ≡ token_at_offset x (child_at es p c k)
  one_child {k} a =
      from_all
      ∙ from_to 0 k (omega arith) (omega (arith, a.holds.within)) a.before
      ∙ from_next k a.holds.within
      ∙ rw (from_to (suc k) (length ns) a.holds.within (omega arith) a.after, from_end) (append-nil _)

  module _ {k m : ℕ} (g : ChildrenMeeting es c x k m) where
    pub two_children : token_at_offset x (at es p c) ≡ token_at_offset x (child_at es p c k) ++ token_at_offset x (child_at es p c m)
    two_children =
        from_all
        ∙ from_to 0 k (omega arith) (omega (arith, g.within, g.order)) (λ y z w. omega (arith, g.left))
        ∙ from_next k (omega (arith, g.within, g.order))
        ∙ rw (
          from_to (suc k) m g.order (omega (arith, g.within)) (λ y z w. omega (arith, g.ends, g.starts)),
          from_next m g.within,
          from_to (suc m) (length ns) g.within (omega arith) (λ y z w. omega (arith, g.right)),
          from_end,
        )
        (ap (λ l. token_at_offset x (child_at es p c k) ++ l) (append-nil _))

    -- each has one
    pub left_one : One (token_at_offset x (child_at es p c k))
    unfolding token_at_offset tokens
    left_one =
        let e = next_start i k (omega (arith, g.within, g.order)) in
        tree_last (tree_at es (get_or ns k 0)) x (start_of es c k) (p ++ (k ∷ [])) (omega (arith, g.left, g.ends)) (omega (arith, g.ends))

    pub right_one : One (token_at_offset x (child_at es p c m))
    unfolding token_at_offset tokens
    right_one =
        let e = next_start i m g.within in
        tree_first (tree_at es (get_or ns m 0)) x (start_of es c m) (p ++ (m ∷ [])) (omega (arith, g.starts, g.right)) (omega (arith, g.starts))
