-- `settle` meets its contract.
use Rattle.syntax_text_chunks.proofs.Turning.{settled_at}
use Rattle.syntax_text_chunks.proofs.place.settle.Goals as goal

pub returns-in-Found : goal.returns-in-Found
returns-in-Found c = settled_at c.loop-found.invariant c.turn-turned.ensures c.requires.reaches.1 c.in-Found.is
