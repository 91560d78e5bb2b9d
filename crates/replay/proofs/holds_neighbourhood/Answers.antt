-- `replay::holds_neighbourhood`: out of range the rule does not hold. Assumes nothing.
use mathlib.Core.Path.{sym}
use Rattle.replay.proofs.Range.{range3, neighbourhood_out}
use Rattle.replay.proofs.holds_neighbourhood.Goals as goal

pub neighbourhood-requires : goal.neighbourhood-requires
neighbourhood-requires c = let a = c.args in let h = range3 a.i 32 a.b 16 a.a 16 c.if-i-b.true in (h.0, h.1, h.2)

pub returns-else-i-b : goal.returns-else-i-b
returns-else-i-b c = sym (neighbourhood_out c.args.view.ready _ _ _ c.if-i-b.false)
