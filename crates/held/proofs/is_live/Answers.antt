-- `held::is_live`: no bit is set above a word. Assumes nothing.
use mathlib.Core.Path.{sym}
use Rattle.bounded.proofs.Mask.{bit_high}
use Rattle.problem.specs.Masks.{state_of}
use native.Mathlib.Omega.{arith}
use Rattle.held.proofs.is_live.Goals as goal

pub returns-then-v-lt16 : goal.returns-then-v-lt16
unfolding state_of
returns-then-v-lt16 c = c.has.ensures

pub returns-else-v-lt16 : goal.returns-else-v-lt16
unfolding state_of
returns-else-v-lt16 c = sym (bit_high 16 _ _ (c.requires.0.domain_lt _ c.requires.1) (omega arith))
