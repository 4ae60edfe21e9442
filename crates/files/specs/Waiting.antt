-- The bytes that wait to be written.
use Rattle.std.specs.Prelude.{List, ℕ, []}
use Rattle.std.specs.Io.Buffered.{writer_buffer}
use Rattle.files.specs.declared.out.Writer.{Writer}
use Rattle.files.specs.declared.out.Writer.TheVariants.{Buffered, Bare}

-- only a buffer has any
abbrev pub waiting : Writer → List ℕ
waiting (Buffered writer) = writer_buffer writer
waiting (Bare _) = []
