-- `plan_report::put_found_line`: by whether there is a plan. Assumes nothing.
use native.Mathlib.Omega.{arith}
use Rattle.plan_report.proofs.put_found_line.Goals as goal

pub returns-then-found : goal.returns-then-found
returns-then-found c = let p = c.put_plan_line.ensures in record { text = rw c.if-found.true p.text; within = omega arith }

pub returns : goal.returns
returns c = let p = c.put_bytes.ensures in record { text = rw c.if-found.false p.text; within = omega arith }
