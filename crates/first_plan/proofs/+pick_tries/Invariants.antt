-- Variables left, then values left, fall, as the numbers of their sets.
use Rattle.std.proofs.Common.{◌+◌, ◌*◌, get_or}
use Rattle.first_plan.proofs.+pick_tries.Given as goal

abbrev pub decreases-pick : goal.decreases-pick
decreases-pick l = l.m.now.active * 65537 + 65536

abbrev pub decreases-tries : goal.decreases-tries
decreases-tries l = l.m.now.active * 65537 + get_or l.m.now.domains l.i 0
