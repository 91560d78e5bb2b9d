use Prim.Native.Nat.{◌-◌}
use Rattle.fields.specs.Print.{step_lines}
use Rattle.fields.proofs.Putting.{Putting}
use Rattle.report.specs.Records.{records_in}
use Rattle.report.proofs.Steps.{lines_left}
use Rattle.report.proofs.put_steps.Given as goal

abbrev pub invariant-loop-k : goal.invariant-loop-k
invariant-loop-k l = Putting 30 l.steps l.initial.out l.at (step_lines 1 (records_in l.steps l.trace 1)) l.out l.end l.k (lines_left l.trace l.steps l.place l.k)
