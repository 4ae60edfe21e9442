-- `token_hash` meets its contract.
use Prim.Native.Nat.{ℕ}
use mathlib.Core.Path.{ap, ◌∙◌}
use Rattle.definitions.specs.Hash.{add_word, token_hash}
use Rattle.definitions.proofs.Hashing.{taken_more, taken_all}
use Rattle.green_new.proofs.measure.token_hash.Goals as goal

pub loop-byte-preserved : goal.loop-byte-preserved
loop-byte-preserved c = taken_more c.loop-byte.invariant c.loop-byte-test.true (c.add_word-h.ensures)

pub returns : goal.returns
unfolding token_hash
returns c = c.add_word.ensures ∙ ap (λ (h : ℕ). add_word h 255) (taken_all c.loop-byte.invariant c.loop-byte-test.false c.kind_hash-h.ensures)
