-- `replay::cover_asked`: no variable that the table does not hold is active. Assumes nothing.
use mathlib.Core.Bool.{◌&&◌, not}
use lib.Dec.{eqb}
use Rattle.problem.specs.Problem.{cover_asked}
use Rattle.problem.specs.Masks.{state_of}
use Rattle.replay.proofs.Range.{asked_out}
use Rattle.replay.proofs.cover_asked.Goals as goal

pub returns-then-i-lt32 : goal.returns-then-i-lt32
unfolding cover_asked state_of
returns-then-i-lt32 c =
    let a = c.args in
    λ j. c.has.ensures j && (not (eqb a.a a.b) && (c.is_live.ensures j && (c.is_live-then-i-lt32.ensures j && c.none_empty.ensures j)))

pub returns-else-i-lt32 : goal.returns-else-i-lt32
returns-else-i-lt32 c = asked_out c.args.view.ready _ _ _ c.if-i-lt32.false
