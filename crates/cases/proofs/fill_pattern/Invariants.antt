-- `cases::fill_pattern`: each value is below 251. Assumes nothing.
use Rattle.std.proofs.Common.{◌<◌}
use Rattle.cases.proofs.fill_pattern.Given as goal

abbrev pub invariant-loop-place : goal.invariant-loop-place
invariant-loop-place l = l.x < 251
