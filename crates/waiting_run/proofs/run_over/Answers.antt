-- `waiting_run::run_over`: the buffer first, by the sum of the sizes. Assumes nothing.
use mathlib.Core.Path.{ap, sym, ◌∙◌}
use native.Mathlib.Omega.{arith}
use Rattle.problem.specs.Held.{held}
use Rattle.run.specs.Run.{RunResult}
use Rattle.run.proofs.Opened.{run_buffer_refused_over, run_accepted_over}
use Rattle.waiting_run.proofs.run_over.Goals as goal

pub returns-then-b-size_sum : goal.returns-then-b-size_sum
returns-then-b-size_sum c =
    let a = c.args in
    let q = run_buffer_refused_over (held a.t.now) a.b.now (omega (arith, c.if-b-size_sum.true, c.size_sum.ensures.is)) in
    (c.refused.ensures ∙ ap (λ (x : RunResult). x.answer) (sym q), ap (λ (x : RunResult). x.buffer) (sym q))

pub returns : goal.returns
returns c =
    let a = c.args in
    let q = run_accepted_over (held a.t.now) a.b.now (omega (arith, c.if-b-size_sum.false, c.size_sum.ensures.is)) in
    let p = c.run_table.ensures in
    (p.0 ∙ ap (λ (x : RunResult). x.answer) (sym q), p.1 ∙ ap (λ (x : RunResult). x.buffer) (sym q))
