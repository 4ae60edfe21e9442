-- `following` meets its contract.
use mathlib.Core.Path.{refl}
use Rattle.syntax_text_chunks.proofs.Chunking.{follows, nothing_follows}
use Rattle.syntax_text_chunks.proofs.chunks.following.Goals as goal

pub returns : goal.returns
returns c = follows c.in_ok-at.ensures _ _ refl c.settle.ensures

pub returns-in_err-at : goal.returns-in_err-at
returns-in_err-at c = rw c.from_residual.ensures (nothing_follows c.in_err-at.ensures _ _ refl)
