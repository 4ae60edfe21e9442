-- What is lent beside a store, and stays fit for use while records are made in it.
use Rattle.std.specs.Prelude.{ℕ}
use Rattle.green.specs.Store.{Store}
use Rattle.builder.specs.Builder.{BuilderValid}
use Rattle.builder.specs.declared.state.GreenNodeBuilder.{GreenNodeBuilder}
use Rattle.notes_tree.specs.Demand3.{ChunkState, ChunksFit}

-- from the store s to s', every builder that was in order is so still, whichever builder or call has written, and every chunk state may be carried on
pub record StillFit (s s' : Store) : Type 0 where
  pub builders : (b : GreenNodeBuilder) → BuilderValid s b → BuilderValid s' b
  pub chunks : (n : ℕ) (c : ChunkState) → ChunksFit s n c → ChunksFit s' n c
