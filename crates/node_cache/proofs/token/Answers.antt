-- `token` meets its contract.
use Rattle.definitions.specs.Entry.{token_entry}
use mathlib.Core.Path.{ap, ◌∙◌}
use lib.ListN.{length}
use Rattle.green_new.specs.Ready.{has_room}
use Rattle.node_cache.proofs.Events.{event_found}
use Rattle.node_cache.proofs.TokenEvents.{token_hash_lem, token_large, token_full, token_ready, token_made}
use Rattle.node_cache.proofs.token.Goals as goal

pub find_token-found-requires : goal.find_token-found-requires
find_token-found-requires c = token_hash_lem c.of_token-x.ensures

pub returns-in-Some-clause-does : goal.returns-in-Some-clause-does
returns-in-Some-clause-does c = event_found c.requires (token_entry c.args.kind.0 c.args.src.now) _ (rw c.read-lent.ensures at c.find_token-found.ensures) c.in-Some.is

pub returns-then-src-gt-MAX_LEN-clause-does : goal.returns-then-src-gt-MAX_LEN-clause-does
returns-then-src-gt-MAX_LEN-clause-does c = token_large c.requires _ _ _ (rw c.read-lent.ensures at c.find_token-found.ensures) c.in_default.is c.if-src-gt-MAX_LEN.true

pub returns-then-not-has_event_room-clause-does : goal.returns-then-not-has_event_room-clause-does
returns-then-not-has_event_room-clause-does c = token_full c.requires _ _ _ (rw c.read-lent.ensures at c.find_token-found.ensures) c.in_default.is c.if-src-gt-MAX_LEN.false (c.has_event_room.ensures ∙ ap (λ s. has_room s 1 0 (length c.args.src.now)) c.read-lent.ensures) c.if-not-has_event_room.true-raw

pub push_token-requires : goal.push_token-requires
push_token-requires c = token_ready c.requires _ _ _ (rw c.read-lent.ensures at c.find_token-found.ensures) c.in_default.is c.if-src-gt-MAX_LEN.false (c.has_event_room.ensures ∙ ap (λ s. has_room s 1 0 (length c.args.src.now)) c.read-lent.ensures) c.if-not-has_event_room.false-raw c.of_token-x.ensures

pub returns-clause-does : goal.returns-clause-does
returns-clause-does c = token_made c.requires _ _ _ (rw c.read-lent.ensures at c.find_token-found.ensures) c.in_default.is c.if-src-gt-MAX_LEN.false (c.has_event_room.ensures ∙ ap (λ s. has_room s 1 0 (length c.args.src.now)) c.read-lent.ensures) c.if-not-has_event_room.false-raw c.push_token.ensures.pushes
