-- `notes_token_text` meets its contract.
use native.Mathlib.Omega.{arith}
use Rattle.cursor.proofs.Asking.{refused_named, located_facts, located_named}
use Rattle.cursor.proofs.Positions.{inner, leaf}
use Rattle.cursor_ffi.proofs.TokenText.{nothing_there, node_there, token_there, text_within, text_lies}
use Rattle.cursor_ffi.proofs.tokens.notes_token_text.Goals as goal

pub returns-in_default : goal.returns-in_default
returns-in_default c = nothing_there (refused_named c.locate-found.ensures c.in_default.is) c.refused.ensures

pub node_or_token-requires : goal.node_or_token-requires
node_or_token-requires c = (located_facts c.locate-found.ensures c.in-Ok.is).placed

pub returns-in_default-node_or_token : goal.returns-in_default-node_or_token
returns-in_default-node_or_token c = node_there (located_named c.locate-found.ensures c.in-Ok.is) (inner (located_facts c.locate-found.ensures c.in-Ok.is).placed c.node_or_token.ensures c.in_default-node_or_token.is).node c.refused-in_default-node_or_token.ensures

pub first_of-from-requires : goal.first_of-from-requires
first_of-from-requires c = (located_facts c.locate-found.ensures c.in-Ok.is).placed.known

pub count_of-requires : goal.count_of-requires
count_of-requires c = (located_facts c.locate-found.ensures c.in-Ok.is).placed.known

pub overflow_add-to : goal.overflow_add-to
overflow_add-to c = omega (arith, text_within (located_facts c.locate-found.ensures c.in-Ok.is).placed (leaf (located_facts c.locate-found.ensures c.in-Ok.is).placed c.node_or_token.ensures c.in-Token.is) c.first_of-from.ensures c.count_of.ensures, c.well_formed.1.1.0)

pub returns : goal.returns
returns c = token_there (located_named c.locate-found.ensures c.in-Ok.is) (leaf (located_facts c.locate-found.ensures c.in-Ok.is).placed c.node_or_token.ensures c.in-Token.is) (text_lies (located_facts c.locate-found.ensures c.in-Ok.is).placed (leaf (located_facts c.locate-found.ensures c.in-Ok.is).placed c.node_or_token.ensures c.in-Token.is) c.first_of-from.ensures c.count_of.ensures (located_facts c.locate-found.ensures c.in-Ok.is).number c.put_part.ensures)
