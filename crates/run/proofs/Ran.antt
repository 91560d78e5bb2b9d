-- What each answer of a run says: for each number its cause, and no other. Assumes nothing.
use mathlib.Core.Path.{◌≡◌, refl, sym, ap, ◌∙◌}
use mathlib.Core.List.{List}
use mathlib.Core.Logic.{inl, inr, ◌↔◌}
use Prim.Native.Nat.{ℕ, ◌+◌, ◌*◌, ◌≤◌, ◌<◌}
use native.Mathlib.Omega.{arith}
use lib.ListN.{length}
use Rattle.bounded.proofs.Truth.{lt_dec}
use Rattle.bounded.proofs.Causes.{cause_iff, number_iff}
use Rattle.problem.specs.Problem.{Problem, size_sum}
use Rattle.sheet.specs.Sheet.{layout, Keeps}
use Rattle.sheet.specs.Relation.{problem_of}
use Rattle.sheet.proofs.Refusals.{sheet_number_lem}
use Rattle.run.specs.Numbers.{run_number, RunOutcome, ran}
use Rattle.run.specs.Run.{RunResult, run_done, run_over, run_job}
use Rattle.std.specs.Prelude.{Err, Ok}
use Rattle.problem.specs.declared.End.{End}
use Rattle.run.specs.declared.RunRefusal.TheVariants as refusal
use Rattle.run.specs.Causes.{RunCauseOver, whose_run, RunCause}
use Rattle.run.proofs.Opened.{run_buffer_refused_over, run_accepted_over}
use Rattle.jobs.proofs.SheetCause.{Told, sheet_iff}

module _ (P : Problem) (b : List ℕ) where
  cause_runs : (o : RunOutcome) → RunCauseOver P b o → (run_over P b).answer.outcome ≡ o
  unfolding run_done
  cause_runs (Err (refusal.Sheet r)) x = absurd x
  cause_runs (Err refusal.Buffer) l = ap (λ (y : RunResult). y.answer.outcome) (run_buffer_refused_over P b l)
  cause_runs (Ok _) (l, (p, (q, r))) = ap (λ (y : RunResult). y.answer.outcome) (run_accepted_over P b l) ∙ (λ t. ran (sym p t) (sym q t) (sym r t))

  some_cause : (o : RunOutcome) × RunCauseOver P b o
  some_cause = elim (lt_dec (length b) (1 + 5 * size_sum P)) [ inl l ↦ (Err refusal.Buffer, l) | inr l ↦ (ran _ _ _, (l, (refl, (refl, refl)))) ]

  -- A run over a problem answers as it does for its cause and for no other.
  pub ran_iff_over : (o : RunOutcome) → ((run_over P b).answer.outcome ≡ o) ↔ RunCauseOver P b o
  ran_iff_over = cause_iff (run_over P b).answer.outcome (RunCauseOver P b) cause_runs some_cause

-- ---- the parts of an accepted run

abbrev end_in : End → RunOutcome → End
end_in e (Ok a) = a.end
end_in e (Err _) = e

abbrev steps_in : RunOutcome → ℕ
steps_in (Ok a) = a.steps
steps_in (Err _) = 0

abbrev written_in : RunOutcome → ℕ
written_in (Ok a) = a.written
written_in (Err _) = 0

pub ran_parts : {e f : End} {k l m n : ℕ} → ran e k m ≡ ran f l n → (e ≡ f) × (k ≡ l) × (m ≡ n)
ran_parts {e} q = (ap (end_in e) q, ap steps_in q, ap written_in q)

-- ---- over a sheet

told : (o : RunOutcome) → Told (λ r. Err (refusal.Sheet r)) (whose_run o) o
told (Err (refusal.Sheet r)) = refl
told (Err refusal.Buffer) = tt
told (Ok _) = tt

module _ (s b : List ℕ) where
  -- A run answers as it does for its cause and for no other.
  pub ran_iff : (o : RunOutcome) → ((run_job s b).answer.outcome ≡ o) ↔ RunCause s b o
  unfolding run_job
  ran_iff = sheet_iff s _ _ (λ (y : RunResult). y.answer.outcome) whose_run told (λ r. refl) (λ P. RunCauseOver P b) (λ P r x. x) (λ _. ran_iff_over (problem_of layout s) b)

  number_back : (o : RunOutcome) → 10 ≤ run_number o → Err refusal.Buffer ≡ o
  number_back (Ok _) h = absurd (omega arith)
  number_back (Err (refusal.Sheet r)) h = let m = sheet_number_lem r in absurd (omega arith)
  number_back (Err refusal.Buffer) h = refl

  pub ran_10 : (run_number (run_job s b).answer.outcome ≡ 10) ↔ (Keeps layout s × (length b < 1 + 5 * size_sum (problem_of layout s)))
  ran_10 = number_iff (run_job s b).answer.outcome (RunCause s b) ran_iff run_number (λ k. Err refusal.Buffer) (λ k. 10 ≤ k) number_back (Err refusal.Buffer) (omega arith)
