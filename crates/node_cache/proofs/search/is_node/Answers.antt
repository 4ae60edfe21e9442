-- `is_node` meets its contract.
use mathlib.Core.Path.{sym, ◌∙◌}
use borrow.Author.Tests.{not-true, not-false}
use Rattle.std.proofs.lemmas.Bool.{eqb-true, eqb-false}
use Rattle.node_cache.proofs.SameNode.{other_hash, other_tag, other_kind, a_node, by_children}
use Rattle.node_cache.proofs.search.is_node.Goals as goal

pub hash_of-requires : goal.hash_of-requires
hash_of-requires c = c.requires.known

pub returns-then-hash_of-hash : goal.returns-then-hash_of-hash
returns-then-hash_of-hash c = other_hash c.requires.known c.requires.node_sought c.hash_of.ensures c.if-hash_of-hash.true

pub tag_of-requires : goal.tag_of-requires
tag_of-requires c = c.requires.known

pub returns-then-tag_of-ne1 : goal.returns-then-tag_of-ne1
returns-then-tag_of-ne1 c = other_tag c.requires.known c.requires.node_sought c.tag_of.ensures c.if-tag_of-ne1.true

pub kind_of-its-requires : goal.kind_of-its-requires
kind_of-its-requires c = c.requires.known

pub returns-then-ne : goal.returns-then-ne
returns-then-ne c = other_kind c.requires.known c.requires.node_sought c.kind_of-its.ensures (eqb-false _ _ (not-true _ (sym c.ne.ensures ∙ c.if-ne.true)))

pub same_children-requires : goal.same_children-requires
same_children-requires c = a_node c.requires.known c.requires.node_sought c.tag_of.ensures c.if-tag_of-ne1.false

pub returns : goal.returns
returns c = by_children c.requires.known c.requires.node_sought c.tag_of.ensures c.if-tag_of-ne1.false c.kind_of-its.ensures (eqb-true _ _ (not-false _ (sym c.ne.ensures ∙ c.if-ne.false))) c.same_children.ensures
