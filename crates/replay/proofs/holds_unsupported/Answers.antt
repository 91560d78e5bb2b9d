-- `replay::holds_unsupported`: out of range the rule does not hold. Assumes nothing.
use mathlib.Core.Path.{sym}
use Rattle.replay.proofs.Range.{range3, unsupported_out}
use Rattle.replay.proofs.holds_unsupported.Goals as goal

pub unsupported-requires : goal.unsupported-requires
unsupported-requires c = let a = c.args in let h = range3 a.i 32 a.b 16 a.k 32 c.if-i-b.true in (h.0, h.1, h.2)

pub returns-else-i-b : goal.returns-else-i-b
returns-else-i-b c = sym (unsupported_out c.args.view.ready _ _ _ c.if-i-b.false)
