use Prim.Native.Nat.{◌≤◌}
use mathlib.Core.Path.{◌≡◌}
use lib.ListN.{length, drop}
use Rattle.definitions.specs.SyntaxText.{find_from}
use Rattle.syntax_text.proofs.chars.index_of.Given as goal

abbrev pub invariant-loop-i : goal.invariant-loop-i
invariant-loop-i l = (l.i ≤ length l.bytes) × (find_from l.character (drop l.i l.bytes) l.i ≡ find_from l.character l.bytes 0)
