-- `keep` meets its contract.
use Rattle.std.proofs.Common.{arith, refl}
use Rattle.questions.proofs.asked.Asked.keep.Goals as goal

pub returns-in-Walk-Walk : goal.returns-in-Walk-Walk
returns-in-Walk-Walk c =
    rw (c.in-Ok.is, c.in-Walk-Walk.is-0, c.in-Walk-Walk.is-1) (
      λ _. (c.set_walk.ensures.kept, (_, (c.set_walk.ensures.set, record { root = refl; with_tokens = refl; start = refl; indexes = refl; coming = refl; depth = refl }))),
      λ h. absurd (omega (arith, h, c.if-ahead-le64.true)),
    )
