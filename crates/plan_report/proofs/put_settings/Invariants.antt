use Prim.Native.Nat.{◌-◌}
use lib.ListN.{length, drop}
use Rattle.fields.specs.Print.{fields_text}
use Rattle.fields.proofs.Putting.{Putting}
use Rattle.plan_report.proofs.put_settings.Given as goal

abbrev pub invariant-loop-k : goal.invariant-loop-k
invariant-loop-k l = Putting 6 (length l.plan) l.initial.out l.at (fields_text l.plan) l.out l.end l.k (fields_text (drop l.k l.plan))
