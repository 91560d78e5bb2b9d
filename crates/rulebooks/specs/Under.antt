-- The run and putting back under any rulebook, so that two can be compared over bytes. Under the one in force they are the jobs themselves
-- (proofs/Force.antt). No job reads this file.
use Rattle.std.specs.Prelude.{true, false, ◌&&◌, List, [], ℕ, zero, suc, ◌+◌, ltb, eqb, length}
use Rattle.problem.specs.Problem.{Problem, State, full}
use Rattle.problem.specs.Rulebook.{Rulebook}
use Rattle.problem.specs.Run.{lawful_by, broken_cover, after, run_by}
use Rattle.buffers.specs.Bytes.{byte_at}
use Rattle.trace.specs.Trace.{record_at}
use Rattle.jobs.specs.WithSheet.{with_sheet}
use Rattle.run.specs.Run.{RunResult, run_refused, ran_through, buffer_short}
use Rattle.put_back.specs.PutBack.{PutBackResult, put_back_refused, unlawful_record, Checked, Lawful, Faulty, with_record, after_check}
use Rattle.trace.specs.declared.RecordRead.TheVariants as record·
use Rattle.run.specs.declared.RunRefusal.TheVariants as run
use Rattle.put_back.specs.declared.PutBackRefusal.TheVariants as back

-- ---- the run: `run_over` and `run_job`

unfoldable pub run_over_under : Rulebook → Problem → List ℕ → RunResult
run_over_under book P b = elim (buffer_short P b) [ true ↦ run_refused run.Buffer b | false ↦ ran_through P (run_by book P (full P)) b ]

unfoldable pub run_job_under : Rulebook → (s b : List ℕ) → RunResult
run_job_under book s b = with_sheet s (λ r. run_refused (run.Sheet r) b) (λ P. run_over_under book P b)

-- ---- putting back: `check_from`, `check_trace`, `put_back_over` and `put_back_job`

unfoldable pub check_from_under : Rulebook → ℕ → Problem → List ℕ → State → (k p : ℕ) → Checked
check_from_under book zero P t s k p = Faulty back.Malformed
check_from_under book (suc f) P t s k p =
    elim (record_at t p) [
      | record·.End ↦ Lawful []
      | record·.Malformed ↦ Faulty back.Malformed
      | record·.Read r next ↦
          elim (lawful_by book P s r) [
            | true ↦ with_record r (check_from_under book f P t (after P s r) (k + 1) next)
            | false ↦ Faulty (unlawful_record k (broken_cover P s r))
          ]
    ]

unfoldable pub check_trace_under : Rulebook → Problem → List ℕ → Checked
check_trace_under book P t =
    elim (ltb 0 (length t) && eqb (byte_at t 0) 1) [ true ↦ check_from_under book (suc (length t)) P t (full P) 0 1 | false ↦ Faulty back.TraceFront ]

unfoldable pub put_back_over_under : Rulebook → Problem → (t p b : List ℕ) → PutBackResult
put_back_over_under book P t p b =
    elim (eqb (length p) P.n) [
      | false ↦ put_back_refused back.PlanLength b
      | true ↦ elim (eqb (length b) P.n) [ false ↦ put_back_refused back.ResultLength b | true ↦ after_check P p b (check_trace_under book P t) ]
    ]

unfoldable pub put_back_job_under : Rulebook → (s t p b : List ℕ) → PutBackResult
put_back_job_under book s t p b = with_sheet s (λ r. put_back_refused (back.Sheet r) b) (λ P. put_back_over_under book P t p b)
