-- `recall` meets its contract.
use native.Mathlib.Omega.{arith}
use mathlib.Core.Path.{ap}
use mathlib.Core.List.{◌++◌}
use lib.ListN.{drop}
use Prim.Native.Nat.{◌-◌}
use Rattle.syntax_text_chunks.proofs.Keeping.{kept_anywhere, kept_copied}
use Rattle.syntax_text_chunks.proofs.chunks.recall.Goals as goal

pub returns-then-n-gt64 : goal.returns-then-n-gt64
returns-then-n-gt64 c = kept_anywhere (c.requires.placed.3 _ (omega (arith, c.if-kept-eq0.false))) c.if-n-gt64.true _

pub returns : goal.returns
returns c = kept_copied (c.requires.placed.3 _ (omega (arith, c.if-kept-eq0.false))) c.if-n-gt64.false _ c.requires.in_bounds.0 (ap (λ l. l ++ drop (c.args.kept - 1) c.args.coming.now) c.copy_from_slice.ensures.after)
