-- `push_token` meets its contract.
use mathlib.Core.Path.{refl}
use native.Mathlib.Omega.{arith}
use Rattle.std.proofs.lemmas.Slice.{put_mid-paste}
use Rattle.green_new.proofs.Tokens.{token_records, token_text_lem, token_counts, token_pushed}
use borrow.Author.Rules.{rules}
use Rattle.green_new.proofs.token.push_token.Goals as goal

pub overflow_add-end : goal.overflow_add-end
overflow_add-end c = omega (arith, token_counts c.requires)

pub slice_bounds-put_bytes-end : goal.slice_bounds-put_bytes-end
slice_bounds-put_bytes-end c = search (rules, token_text_lem c.requires)

pub put_record-requires : goal.put_record-requires
put_record-requires c = token_records c.requires

pub overflow_add-store : goal.overflow_add-store
overflow_add-store c = omega (arith, token_counts c.requires)

pub returns-clause-pushes : goal.returns-clause-pushes
returns-clause-pushes c = token_pushed c.requires _ _ c.put_record.ensures (put_mid-paste _ _ _ _ _ _ c.put_bytes.ensures (omega arith) refl) (omega arith)
