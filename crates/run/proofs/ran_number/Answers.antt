-- `run::ran_number`: its numbers fit. Assumes nothing.
use mathlib.Core.Path.{sym, ap, subst, ◌∙◌}
use Prim.Native.Nat.{ℕ, ◌+◌, ◌*◌}
use native.Mathlib.Omega.{arith}
use Rattle.run.specs.Call.{ran_number, RunFits}
use Rattle.run.proofs.ran_number.Goals as goal

pub overflow_mul-result : goal.overflow_mul-result
overflow_mul-result c = let l = subst RunFits c.in-Ok.is c.requires in omega arith

pub overflow_add-result : goal.overflow_add-result
overflow_add-result c = let l = subst RunFits c.in-Ok.is c.requires in omega arith

pub overflow_mul-result-in-Ok : goal.overflow_mul-result-in-Ok
overflow_mul-result-in-Ok c = let l = subst RunFits c.in-Ok.is c.requires in omega arith

pub overflow_add-result-in-Ok : goal.overflow_add-result-in-Ok
overflow_add-result-in-Ok c = let l = subst RunFits c.in-Ok.is c.requires in omega arith

pub overflow_mul-result-in-Ok-2 : goal.overflow_mul-result-in-Ok-2
overflow_mul-result-in-Ok-2 c = let l = subst RunFits c.in-Ok.is c.requires in omega arith

pub returns-in-Ok : goal.returns-in-Ok
returns-in-Ok c =
    ap (λ (x : ℕ). 256 * (x + 256 * (c.in-Ok.a.steps + 65536 * c.in-Ok.a.written))) c.end_number.ensures
    ∙ ap ran_number (sym c.in-Ok.is)

pub returns-in-Err : goal.returns-in-Err
returns-in-Err c = c.from.ensures ∙ ap ran_number (sym c.in-Err.is)
