use Rattle.definitions.proofs.Hashing.{Taken}
use Rattle.green_new.proofs.measure.token_hash.Given as goal

abbrev pub invariant-loop-byte : goal.invariant-loop-byte
invariant-loop-byte l = Taken l.text l.initial.h l.h l.byte-index
