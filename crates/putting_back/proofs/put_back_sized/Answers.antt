-- `putting_back::put_back_sized`: the trace, then the plan. Assumes nothing.
use mathlib.Core.Path.{sym, ap, ◌∙◌}
use Rattle.std.proofs.lemmas.Result.{err_from_is_err_and}
use Rattle.put_back.specs.PutBack.{Checked, after_check, check_trace}
use Rattle.problem.specs.Problem.{full}
use Rattle.problem.specs.Held.{held}
use Rattle.replay.proofs.Walk.{ended_fault}
use Rattle.putting_back.proofs.put_back_sized.Goals as goal

pub check_trace-end-requires : goal.check_trace-end-requires
check_trace-end-requires c = (c.requires.0, c.full_masks-first.ensures)

pub finish-requires : goal.finish-requires
finish-requires c =
    let p = c.requires in
    (p.0, (c.full_masks-first.ensures, (sym c.check_trace-end.ensures ∙ (λ k. record { check = c.in_ok-end.was k; state = c.check_trace-end.result.state }), (p.1.0, p.1.1))))

pub returns-in_err-end : goal.returns-in_err-end
returns-in_err-end c =
    let a = c.args in
    let p = err_from_is_err_and c.from_residual.result c.from_residual.ensures.1 in
    let g = sym (ended_fault (held a.t.now) (full (held a.t.now)) (check_trace (held a.t.now) a.trace.now) c.check_trace-end.result _ c.check_trace-end.ensures c.in_err-end.was) in
    rw (p.1, p.2) (ap (λ (x : Checked). (after_check (held a.t.now) a.plan.now a.out.now x).answer) g, ap (λ (x : Checked). (after_check (held a.t.now) a.plan.now a.out.now x).result) g)

pub returns : goal.returns
returns c = c.finish.ensures
