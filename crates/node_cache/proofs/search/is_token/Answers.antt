-- `is_token` meets its contract.
use mathlib.Core.Path.{sym, ◌∙◌}
use borrow.Author.Tests.{not-true, not-false}
use Rattle.std.proofs.lemmas.Bool.{eqb-true, eqb-false}
use Rattle.node_cache.proofs.SameToken.{other_hash, a_node, other_kind, by_bytes}
use Rattle.node_cache.proofs.search.is_token.Goals as goal

pub hash_of-requires : goal.hash_of-requires
hash_of-requires c = c.requires.0

pub returns-then-hash_of-hash : goal.returns-then-hash_of-hash
returns-then-hash_of-hash c = other_hash c.requires.0 c.args.kind.0 c.args.src.now c.hash_of.ensures c.requires.1 c.if-hash_of-hash.true

pub is_node-requires : goal.is_node-requires
is_node-requires c = c.requires.0

pub returns-then-is_node : goal.returns-then-is_node
returns-then-is_node c = a_node c.requires.0 c.args.kind.0 c.args.src.now c.is_node.ensures c.if-is_node.true

pub kind_of-its-requires : goal.kind_of-its-requires
kind_of-its-requires c = c.requires.0

pub returns-then-ne : goal.returns-then-ne
returns-then-ne c = other_kind c.requires.0 c.args.kind.0 c.args.src.now c.kind_of-its.ensures (eqb-false _ _ (not-true _ (sym c.ne.ensures ∙ c.if-ne.true)))

pub text_of-requires : goal.text_of-requires
text_of-requires c = (c.requires.0, sym c.is_node.ensures ∙ c.if-is_node.false)

pub returns : goal.returns
returns c = by_bytes c.requires.0 c.args.kind.0 c.args.src.now (sym c.is_node.ensures ∙ c.if-is_node.false) c.kind_of-its.ensures (eqb-true _ _ (not-false _ (sym c.ne.ensures ∙ c.if-ne.false))) c.text_of.ensures c.same_bytes.ensures
