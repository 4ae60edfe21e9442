-- A question about a tree is answered alike at two numbers that name equal trees; and every question of the rows is one. Assumes nothing.
use Prim.Native.Nat.{ℕ}
use mathlib.Core.Path.{◌≡◌, sym, ap₂, ◌∙◌}
use mathlib.Core.List.{List}
use mathlib.Core.Bool.{Bool, true, cond, not, ◌&&◌, ◌||◌}
use lib.Dec.{ltb}
use lib.ListN.{take}
use Rattle.definitions.specs.Prelude.{ok, refused}
use Rattle.definitions.specs.Tree.{Tree, is_node}
use Rattle.definitions.specs.Entry.{Entry, tree_at, is_node_at}
use Rattle.definitions.specs.Refusal.{is_absent, is_no_node}
use Rattle.definitions.specs.Query.{Question, TextQuestion, at, of, answer, answer_at}
use Rattle.definitions.specs.Preorder as preorder
use Rattle.definitions.specs.SyntaxText.{is_nowhere, is_astray, token_text, stepped, next_chunk}
use Rattle.definitions.proofs.Laws.{and_left}
use Rattle.green.specs.Answers.{record_fields, fields_of}
use Rattle.cursor.specs.Answers.{answer_at_path}
use Rattle.preorder.specs.Walks.{begin_of}
use Rattle.syntax_text.specs.Text.{text_at, asked_text, asked_equal, nowhere_at, astray_at}
use Rattle.syntax_text_chunks.specs.Chunks.{chunks_at, asked_chunk}
use Rattle.notes_tree.specs.Demand3.{about_tree, token_text_asked}

module _ (es : List Entry) (n n' : ℕ) (a : is_node_at es n ≡ true) (b : is_node_at es n' ≡ true) (t : tree_at es n ≡ tree_at es n') where
  -- THE LAW
  pub tree_decides : {A : Type 0} (question : Bool → Tree → A) → about_tree question es n ≡ about_tree question es n'
  tree_decides question = ap₂ question (and_left _ _ a ∙ sym (and_left _ _ b)) t

  pub same_kind : is_no_node es n ≡ is_no_node es n'
  unfolding is_no_node
  same_kind = tree_decides (λ there u. not (there && is_node u))

  pub same_fields : fields_of es n ≡ fields_of es n'
  unfolding is_absent
  same_fields = tree_decides (λ there u. cond (not there) (refused 4) (ok (record_fields u)))

  pub same_asked_lem : (depth : ℕ) (l : List ℕ) (q : Question) → answer_at_path es n depth l q ≡ answer_at_path es n' depth l q
  unfolding answer_at_path answer_at is_no_node
  same_asked_lem depth l q = tree_decides (λ there u. cond (ltb 64 depth) (refused 4) (cond (not (there && is_node u)) (refused 4) (answer u (at (take depth l) q))))

  pub same_text : (depth : ℕ) (l : List ℕ) (start stop : ℕ) (q : TextQuestion) → asked_text es n depth l start stop q ≡ asked_text es n' depth l start stop q
  unfolding asked_text answer_at is_no_node
  same_text depth l start stop q = tree_decides (λ there u. cond (ltb 64 depth) (refused 4) (cond (not (there && is_node u)) (refused 4) (answer u (of (text_at depth l start stop) q))))

  -- of two texts: the first root exchanged, with the second or without it; and the second alone
  pub same_equal : (depth : ℕ) (l : List ℕ) (start stop : ℕ) (o o' depth' : ℕ) (l' : List ℕ) (start' stop' : ℕ) → tree_at es o ≡ tree_at es o'
      → asked_equal es n depth l start stop o depth' l' start' stop' ≡ asked_equal es n' depth l start stop o' depth' l' start' stop'
  unfolding asked_equal answer_at is_no_node
  same_equal depth l start stop o o' depth' l' start' stop' e =
      rw e (tree_decides (λ there u.
      cond (ltb 64 depth || ltb 64 depth') (refused 4) (cond (not (there && is_node u)) (refused 4) (answer u (of (text_at depth l start stop) (TextQuestion.equal (tree_at es o') (text_at depth' l' start' stop')))))))

  pub same_second : (o depth : ℕ) (l : List ℕ) (start stop depth' : ℕ) (l' : List ℕ) (start' stop' : ℕ)
      → asked_equal es o depth l start stop n depth' l' start' stop' ≡ asked_equal es o depth l start stop n' depth' l' start' stop'
  unfolding asked_equal
  same_second o depth l start stop depth' l' start' stop' =
      tree_decides (λ there u. cond (ltb 64 depth || ltb 64 depth') (refused 4) (answer_at es o (of (text_at depth l start stop) (TextQuestion.equal u (text_at depth' l' start' stop')))))

  pub same_token_text : (depth : ℕ) (l : List ℕ) → token_text_asked es n depth l ≡ token_text_asked es n' depth l
  unfolding token_text_asked is_no_node
  same_token_text depth l = tree_decides (λ there u. cond (ltb 64 depth) (refused 4) (cond (not (there && is_node u)) (refused 4) (token_text u (take depth l))))

  pub same_begin : (tokens : Bool) (depth : ℕ) (l : List ℕ) → begin_of es n tokens depth l ≡ begin_of es n' tokens depth l
  unfolding begin_of
  same_begin tokens depth l = tree_decides (λ there u. cond (ltb 64 depth) (refused 4) (preorder.begin tokens u (take depth l)))

  -- the chunks of a text, and its two tests
  pub same_chunk : (depth : ℕ) (l : List ℕ) (start stop given : ℕ) → asked_chunk es n depth l start stop given ≡ asked_chunk es n' depth l start stop given
  unfolding asked_chunk is_no_node
  same_chunk depth l start stop given =
      let c = chunks_at depth l start stop given in
      tree_decides (λ there u. cond (ltb 64 depth || not (there && is_node u)) (stepped c (refused 4)) (next_chunk u c))

  pub same_nowhere : (depth : ℕ) (l : List ℕ) (start stop : ℕ) → nowhere_at es n depth l start stop ≡ nowhere_at es n' depth l start stop
  unfolding nowhere_at
  same_nowhere depth l start stop = tree_decides (λ there u. ltb 64 depth || is_nowhere u (text_at depth l start stop))

  pub same_astray : (depth : ℕ) (l : List ℕ) (start stop : ℕ) → astray_at es n depth l start stop ≡ astray_at es n' depth l start stop
  unfolding astray_at
  same_astray depth l start stop = tree_decides (λ there u. is_astray u (text_at depth l start stop))
