-- The sets fall, as numbers.
use Rattle.std.proofs.Common.{◌+◌, ◌*◌}
use Rattle.any_plan.proofs.Branches.{total}
use Rattle.any_plan.proofs.+branch_explore.Given as goal

abbrev pub decreases-branch : goal.decreases-branch
decreases-branch l = 2 * total l.on.now

abbrev pub decreases-explore : goal.decreases-explore
decreases-explore l = 2 * total l.on.now + 1
