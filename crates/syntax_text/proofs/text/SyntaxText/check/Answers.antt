-- `SyntaxText::check` meets its contract.
use mathlib.Core.Path.{refl}
use Rattle.utility_types.proofs.Passing.{passed_on}
use Rattle.syntax_text.proofs.Testing.{nowhere_checked, outside_checked, within_checked}
use Rattle.syntax_text.proofs.text.SyntaxText.check.Goals as goal

pub returns-in_err-at : goal.returns-in_err-at
returns-in_err-at c = rw (passed_on _ c.from_residual.ensures.1) (nowhere_checked c.in_err-at.ensures _ _ refl)

pub returns-then-is_astray : goal.returns-then-is_astray
returns-then-is_astray c = outside_checked c.in_ok-at.ensures _ _ refl c.is_astray.ensures c.if-is_astray.true

pub returns : goal.returns
returns c = within_checked c.in_ok-at.ensures _ _ refl c.is_astray.ensures c.if-is_astray.false c.args.self.node.has_room
