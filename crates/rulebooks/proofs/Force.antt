-- Under the rulebook in force, the run and putting back of specs/Under.antt are the jobs. Assumes nothing.
use mathlib.Core.Path.{◌≡◌, refl}
use mathlib.Core.Bool.{true, false, ◌&&◌}
use mathlib.Core.List.{List, []}
use Prim.Native.Nat.{ℕ, zero, suc, ◌+◌}
use lib.Dec.{ltb, eqb}
use lib.ListN.{length}
use Rattle.problem.specs.Problem.{Problem, State, full}
use Rattle.problem.specs.Rulebook.{in_force}
use Rattle.problem.specs.Run.{lawful, broken_cover, after}
use Rattle.buffers.specs.Bytes.{byte_at}
use Rattle.trace.specs.Trace.{record_at}
use Rattle.jobs.specs.WithSheet.{with_sheet}
use Rattle.run.specs.Run.{run_done, run_over, run_job}
use Rattle.put_back.specs.PutBack.{put_back_refused, unlawful_record, Lawful, Faulty, with_record, check_from, check_trace, after_check, put_back_over, put_back_job}
use Rattle.trace.specs.declared.RecordRead.TheVariants as record·
use Rattle.put_back.specs.declared.PutBackRefusal.TheVariants as back
use Rattle.rulebooks.specs.Under.{run_over_under, run_job_under, check_from_under, check_trace_under, put_back_over_under, put_back_job_under}

pub run_in_force : (s b : List ℕ) → run_job_under in_force s b ≡ run_job s b
unfolding run_job_under run_over_under run_job run_over run_done
run_in_force s b = refl

module _ (P : Problem) (t : List ℕ) where
  check_in_force : (f : ℕ) (s : State) (k p : ℕ) → check_from_under in_force f P t s k p ≡ check_from f P t s k p
  unfolding check_from_under check_from
  check_in_force zero s k p = refl
  check_in_force (suc f) s k p = λ i.
      elim (record_at t p) [
        | record·.End ↦ Lawful []
        | record·.Malformed ↦ Faulty back.Malformed
        | record·.Read r next ↦
            elim (lawful P s r) [
              | true ↦ with_record r (check_in_force f (after P s r) (k + 1) next i)
              | false ↦ Faulty (unlawful_record k (broken_cover P s r))
            ]
      ]

  over_in_force : (p b : List ℕ) → put_back_over_under in_force P t p b ≡ put_back_over P t p b
  unfolding put_back_over_under put_back_over check_trace_under check_trace
  over_in_force p b = λ i.
      elim (eqb (length p) P.n) [
        | false ↦ put_back_refused back.PlanLength b
        | true ↦ elim (eqb (length b) P.n) [
          | false ↦ put_back_refused back.ResultLength b
          | true ↦ after_check P p b (elim (ltb 0 (length t) && eqb (byte_at t 0) 1) [ true ↦ check_in_force (suc (length t)) (full P) 0 1 i | false ↦ Faulty back.TraceFront ])
        ]
      ]

pub put_back_in_force : (s t p b : List ℕ) → put_back_job_under in_force s t p b ≡ put_back_job s t p b
unfolding put_back_job_under put_back_job
put_back_in_force s t p b = λ i. with_sheet s (λ r. put_back_refused (back.Sheet r) b) (λ P. over_in_force P t p b i)
