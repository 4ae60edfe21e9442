-- `piece` meets its contract.
use native.Mathlib.Omega.{arith}
use Rattle.syntax_text.proofs.Pieces.{piece_from, piece_to}
use Rattle.syntax_text.proofs.piece.piece.Goals as goal

pub slice_bounds-result-count : goal.slice_bounds-result-count
slice_bounds-result-count c = piece_from c.requires.0 c.requires.1 c.text_of-bytes.ensures c.min-to.ensures

pub slice_bounds-result-start : goal.slice_bounds-result-start
slice_bounds-result-start c = omega (arith, piece_from c.requires.0 c.requires.1 c.text_of-bytes.ensures c.min-to.ensures, c.min-to.ensures)

pub returns : goal.returns
returns c = λ o t. piece_to t c.requires.1 c.text_of-bytes.ensures c.min-to.ensures
