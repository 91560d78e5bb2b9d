-- `replay::holds_triangle`: out of range the rule does not hold. Assumes nothing.
use mathlib.Core.Path.{sym}
use Rattle.replay.proofs.Range.{range2, triangle_out}
use Rattle.replay.proofs.holds_triangle.Goals as goal

pub triangle-requires : goal.triangle-requires
triangle-requires c = let a = c.args in let h = range2 a.i 32 a.j 32 c.if-i-j.true in (h.0, h.1)

pub returns-else-i-j : goal.returns-else-i-j
returns-else-i-j c = sym (triangle_out c.args.view.ready _ _ c.if-i-j.false)
