-- `start::refused_start`. Assumes nothing.
use mathlib.Core.Path.{ap}
use Rattle.problem.specs.declared.Masks.{Masks}
use Rattle.hand.specs.declared.StartAnswer.{StartAnswer}
use Rattle.std.specs.Prelude.{Err}
use Rattle.start.proofs.refused_start.Goals as goal

pub returns : goal.returns
returns c =
    let a : Masks → StartAnswer = λ m. record { outcome = Err c.args.r; state = record { masks = m } } in
    ap a c.empty_masks-masks.ensures
