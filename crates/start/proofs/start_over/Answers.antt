-- `start::start_over`. Assumes nothing.
use mathlib.Core.Path.{ap}
use Rattle.problem.specs.declared.Masks.{Masks}
use Rattle.hand.specs.declared.StartAnswer.{StartAnswer}
use Rattle.std.specs.Prelude.{Ok}
use Rattle.start.proofs.start_over.Goals as goal

pub returns : goal.returns
returns c =
    let a : Masks → StartAnswer = λ m. record { outcome = Ok tt; state = record { masks = m } } in
    ap a c.settle-masks.ensures
