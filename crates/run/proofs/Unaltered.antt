-- "A refusal [..] leaves all lent bytes unchanged": the trace's buffer at exit is as at entry. Assumes nothing.
use mathlib.Core.Path.{◌≡◌, refl, ap}
use mathlib.Core.List.{List}
use mathlib.Core.Logic.{◌⊎◌, inl, inr}
use Prim.Native.Nat.{ℕ, ◌+◌, ◌*◌, ◌≤◌, ◌<◌}
use native.Mathlib.Omega.{arith}
use lib.ListN.{length}
use Rattle.bounded.proofs.Truth.{lt_dec}
use Rattle.problem.specs.Problem.{Problem, size_sum}
use Rattle.sheet.specs.Sheet.{layout}
use Rattle.sheet.specs.Relation.{problem_of}
use Rattle.run.specs.Run.{RunResult, run_done, run_over, run_job}
use Rattle.run.specs.declared.RunRefusal.{RunRefusal}
use Rattle.std.specs.Prelude.{Err}
use Rattle.jobs.proofs.Opened.{sheet_each}
use Rattle.run.proofs.Opened.{run_buffer_refused_over, run_accepted_over}

-- a refused run leaves the trace's buffer as it was
pub run_unaltered_over : (P : Problem) (b : List ℕ) (r : RunRefusal) → (run_over P b).answer.outcome ≡ Err r → (run_over P b).buffer ≡ b
unfolding run_done
run_unaltered_over P b r o = go (lt_dec (length b) (1 + 5 * size_sum P))
  where
    go : (length b < 1 + 5 * size_sum P) ⊎ (1 + 5 * size_sum P ≤ length b) → (run_over P b).buffer ≡ b
    go (inl l) = ap (λ (y : RunResult). y.buffer) (run_buffer_refused_over P b l)
    go (inr l) =
        let q = ap (λ (y : RunResult). y.answer.outcome) (run_accepted_over P b l) in
        let z : ◌≡◌ {A = ℕ} 0 1 = cc in absurd (omega arith)

pub run_unaltered : (s b : List ℕ) (r : RunRefusal) → (run_job s b).answer.outcome ≡ Err r → (run_job s b).buffer ≡ b
unfolding run_job
run_unaltered s b r = sheet_each s _ _ (λ (y : RunResult). y.answer.outcome ≡ Err r → y.buffer ≡ b) (λ _ _ _. refl) (λ _. run_unaltered_over (problem_of layout s) b r)
