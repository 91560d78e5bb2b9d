-- Why a run answers as it does, and what an accepted run shows.
use Rattle.std.specs.Prelude.{◌≡◌, List, ◌∷◌, ◌++◌, ◌↔◌, ℕ, ◌+◌, ◌*◌, ◌≤◌, ◌<◌, T, length, Err, Ok}
use Rattle.problem.specs.Problem.{Problem, State, full, size_sum, none_empty}
use Rattle.problem.specs.Run.{holds, lawful_trace, after_trace, run, end_of}
use Rattle.problem.specs.Masks.{masks_of}
use Rattle.problem.specs.PutBack.{undo_trace}
use Rattle.problem.specs.Sentences.{Solution, Solvable, EndSays}
use Rattle.problem.specs.Order.{FirstLawful}
use Rattle.problem.specs.Published.{Published}
use Rattle.problem.specs.declared.Record.{Record}
use Rattle.jobs.specs.Causes.{Whose, Sheets, Own, SheetCause}
use Rattle.trace.specs.Trace.{trace_bytes}
use Rattle.buffers.specs.Written.{fronted}
use Rattle.run.specs.Run.{RunResult}
use Rattle.run.specs.Numbers.{RunOutcome, ran}
use Rattle.run.specs.declared.RunRefusal.TheVariants as refusal

-- ---- why it answers so

module _ (P : Problem) (b : List ℕ) where
  -- Why a run over a problem answers as it does.
  abbrev pub RunCauseOver : RunOutcome → Type 0
  RunCauseOver (Err (refusal.Sheet r)) = ⊥
  -- 10: "shorter than 1 + 5 × the sum of the sizes"
  RunCauseOver (Err refusal.Buffer) = length b < 1 + 5 * size_sum P
  -- accepted: the end, the steps and the bytes are the run's
  RunCauseOver (Ok a) =
      (1 + 5 * size_sum P ≤ length b)
      × ((a.end ≡ end_of P (after_trace P (full P) (run P (full P)))) × ((a.steps ≡ length (run P (full P))) × (a.written ≡ length (trace_bytes (run P (full P))))))

abbrev pub whose_run : RunOutcome → Whose
whose_run (Err (refusal.Sheet r)) = Sheets r
whose_run (Err refusal.Buffer) = Own
whose_run (Ok _) = Own

module _ (s b : List ℕ) where
  -- Why a run answers as it does: the sheet's own fault, or the cause over its problem.
  abbrev pub RunCause : RunOutcome → Type 0
  RunCause o = SheetCause s (whose_run o) (λ P. RunCauseOver P b o)

-- ---- what an accepted run shows

-- P is the problem, t the run's records, and last the state that they lead to
pub record Worked (P : Problem) (t : List Record) (last : State) (b : List ℕ) (x : RunResult) : Type 0 where
  -- the answer: the end, the number of steps, the bytes written and the last state; and the buffer, the old bytes after the trace
  pub answer : x.answer ≡ record { outcome = ran (end_of P last) (length t) (length (trace_bytes t)); state = masks_of last }
  pub buffer : x.buffer ≡ fronted (trace_bytes t) b
  -- demand 1: in no more steps than the sheet lists settings, and within the buffer
  pub few : length t ≤ size_sum P
  pub room : length (trace_bytes t) ≤ length b
  -- demand 2: each step is lawful in the state reached
  pub reached : last ≡ after_trace P (full P) t
  pub lawful : T (lawful_trace P (full P) t)
  -- under the published rules: each record is published in the state that it was taken in, and is the first lawful one there in the order
  -- of the steps
  pub published : (before : List Record) (r : Record) (rest : List Record) → t ≡ before ++ (r ∷ rest) → Published P (after_trace P (full P) before) r
  pub least : (before : List Record) (r : Record) (rest : List Record) → t ≡ before ++ (r ∷ rest) → FirstLawful P (after_trace P (full P) before) r
  -- the end is what the format says of it, and "at the end no rule holds or some item has no setting left"
  pub end : EndSays last (end_of P last)
  pub rest : T (none_empty P last) → (r : Record) → T (holds P last r) → ⊥
  -- no rule of the papers holds there
  pub settled : T (none_empty P last) → (r : Record) → Published P last r → ⊥
  -- "The sheet left has a plan exactly when the full sheet has one"
  pub plan : Solvable P last ↔ Solvable P (full P)
  -- "each plan of what is left is put back into a plan of the full sheet"
  pub back : (p : ℕ → ℕ) → Solution P last p → Solution P (full P) (undo_trace P (full P) t p)
