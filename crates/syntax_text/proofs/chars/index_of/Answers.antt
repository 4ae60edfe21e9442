-- `index_of` meets its contract.
use native.Mathlib.Omega.{arith}
use mathlib.Core.Path.{refl, sym, ◌∙◌}
use Rattle.syntax_text.proofs.Finding.{found_here, not_here, found_nowhere}
use Rattle.syntax_text.proofs.chars.index_of.Goals as goal

pub returns-then-byte-character : goal.returns-then-byte-character
returns-then-byte-character c = found_here _ _ _ c.loop-i-test.true refl c.if-byte-character.true ∙ c.loop-i.invariant.1

pub loop-i-preserved : goal.loop-i-preserved
loop-i-preserved c = (omega arith, sym (not_here _ _ _ c.loop-i-test.true refl c.if-byte-character.false) ∙ c.loop-i.invariant.1)

pub returns : goal.returns
returns c = found_nowhere _ _ _ c.loop-i-test.false ∙ c.loop-i.invariant.1
