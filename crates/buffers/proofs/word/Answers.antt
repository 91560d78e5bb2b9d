-- `buffers::word`: the first byte is worth the most. Assumes nothing.
use native.Mathlib.Omega.{arith}
use Rattle.buffers.proofs.word.Goals as goal

pub returns : goal.returns
returns c = record { is = omega arith; below = omega arith }
