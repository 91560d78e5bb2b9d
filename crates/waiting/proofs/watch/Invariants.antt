use Rattle.waiting.proofs.Words.{Watching}
use Rattle.waiting.proofs.watch.Given as goal

abbrev pub invariant-loop-left : goal.invariant-loop-left
invariant-loop-left l = Watching l.rests l.left l.row l.c l.initial.waiting l.waiting

abbrev pub decreases-loop-left : goal.decreases-loop-left
decreases-loop-left l = l.left
