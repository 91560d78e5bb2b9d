-- `triangle::triangle`. Assumes nothing.
use mathlib.Core.Path.{sym}
use Rattle.problem.specs.Problem.{triangle}
use Rattle.problem.specs.Masks.{state_of}
use Rattle.bounded.proofs.Guard.{guard_left}
use Rattle.triangle.proofs.Laws.{tried_triangle}
use Rattle.triangle.proofs.triangle.Goals as goal

pub returns-then-has-j : goal.returns-then-has-j
returns-then-has-j c = tried_triangle c.args.view.ready _ _ _ _ c.triangle_rests.ensures c.is_none.ensures

pub returns-else-has-j : goal.returns-else-has-j
unfolding triangle state_of
returns-else-has-j c = sym (guard_left _ _ c.has.ensures c.has-2.ensures c.if-has-j.false)
