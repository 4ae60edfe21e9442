-- `next_part` meets its contract.
use borrow.Author.Rules.{rules}
use native.Mathlib.Omega.{arith}
use mathlib.Core.Path.{refl}
use Rattle.utility_types.proofs.Passing.{passed_on}
use Rattle.syntax_text.proofs.Testing.{text_within}
use Rattle.syntax_text_chunks.proofs.Placing.{way_number}
use Rattle.syntax_text_chunks.proofs.Giving.{step_refused, top_placed, step_end, chunk_place, given_few, step_chunk}
use Rattle.syntax_text_chunks.proofs.Keeping.{kept_settled, kept_end, kept_leads, kept_token, keep_on, kept_as, lasting, past_kept}
use Rattle.syntax_text_chunks.proofs.chunks.next_part.Goals as goal

pub returns-in_err-at-clause-chunk_next : goal.returns-in_err-at-clause-chunk_next
returns-in_err-at-clause-chunk_next c =
    let z = step_refused c.in_err-at.ensures _ refl refl in
    rw (passed_on _ c.from_residual.ensures.1) (record { says = z.says; kept = c.requires; past = refl; left = z.left _ _ })

pub recall-n-requires-clause-placed : goal.recall-n-requires-clause-placed
recall-n-requires-clause-placed c = (top_placed c.in_ok-at.ensures 0 refl, refl, (text_within c.in_ok-at.ensures refl).ordered, lasting c.in_ok-at.ensures refl c.requires)

pub returns-then-n-gt64-clause-chunk_next : goal.returns-then-n-gt64-clause-chunk_next
returns-then-n-gt64-clause-chunk_next c = record { says = step_end c.in_ok-at.ensures c.args.chunks.now.given refl (kept_settled c.recall-n.ensures) (kept_end c.recall-n.ensures c.if-n-gt64.true); kept = c.requires; past = refl; left = (refl, refl, refl) }

pub go_down-way-requires-clause-leads_on : goal.go_down-way-requires-clause-leads_on
go_down-way-requires-clause-leads_on c = kept_leads c.recall-n.ensures c.if-n-gt64.false

pub overflow_add-chunks : goal.overflow_add-chunks
overflow_add-chunks c = omega (arith, given_few c.in_ok-at.ensures c.args.chunks.now.given refl (kept_token c.recall-n.ensures c.if-n-gt64.false c.go_down-way.ensures) refl)

pub returns-clause-chunk_next : goal.returns-clause-chunk_next
returns-clause-chunk_next c = record {
  says = step_chunk c.in_ok-at.ensures c.args.chunks.now.given refl (kept_token c.recall-n.ensures c.if-n-gt64.false c.go_down-way.ensures) refl c.chunk_of.ensures.lies_in.is;
  kept = kept_as c.in_ok-at.ensures refl (keep_on c.recall-n.ensures c.if-n-gt64.false c.go_down-way.ensures c.following-next.ensures (search rules) c.keep-chunks.ensures);
  past = past_kept c.following-next.ensures (search rules) c.keep-chunks.ensures;
  left = omega (arith, c.keep-chunks.ensures.depth);
}

pub returns-clause-part_given : goal.returns-clause-part_given
returns-clause-part_given c = (
  record {
    there = c.chunk_of.ensures.lies_in.there;
    own = λ _. chunk_place c.in_ok-at.ensures c.args.chunks.now.given refl (kept_token c.recall-n.ensures c.if-n-gt64.false c.go_down-way.ensures) refl (way_number c.go_down-way.ensures) c.chunk_of.ensures.own_part;
  },
  tt,
)
