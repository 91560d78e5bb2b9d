use mathlib.Core.Path.{◌≡◌}
use Prim.Native.Nat.{◌+◌, ◌≤◌}
use lib.ListN.{length}
use Rattle.replay.proofs.Turn.{Good, turns}
use Rattle.replay.proofs.check_records.Given as goal

-- the reader stands over the trace, within it or just after it, and the whole answer is ahead of the check
abbrev pub invariant-loop-c : goal.invariant-loop-c
invariant-loop-c l = (l.r.src.now ≡ l.trace) × (l.r.at ≤ length l.trace + 1) × Good l.view.table.now l.trace l.view.state.now l.c l.r.at

abbrev pub decreases-loop-c : goal.decreases-loop-c
decreases-loop-c l = turns l.view.table.now l.trace l.view.state.now l.c l.r.at
