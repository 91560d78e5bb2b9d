-- Putting back: lent a problem, a trace, a plan for the items left and a buffer for the result; as a job, a sheet and these.
use Rattle.std.specs.Prelude.{Bool, true, false, ◌&&◌, ◌||◌, List, [], ◌∷◌, ℕ, zero, suc, ◌+◌, ltb, eqb, length, Err, Ok, Option, Some, None}
use Rattle.bounded.specs.Quantifiers.{all_below}
use Rattle.bounded.specs.Table.{tab}
use Rattle.problem.specs.Problem.{Problem, State, full}
use Rattle.problem.specs.Run.{lawful, broken_cover, after, after_trace}
use Rattle.problem.specs.PutBack.{solves, plan_of, undo_trace}
use Rattle.problem.specs.declared.Record.{Record}
use Rattle.buffers.specs.Bytes.{byte_at}
use Rattle.trace.specs.Trace.{record_at}
use Rattle.jobs.specs.WithSheet.{with_sheet}
use Rattle.trace.specs.declared.RecordRead.TheVariants as record·
use Rattle.put_back.specs.Numbers.{PutBackOutcome}
use Rattle.put_back.specs.declared.PutBackRefusal.{PutBackRefusal}
use Rattle.put_back.specs.declared.PutBackRefusal.TheVariants.{Sheet, PlanLength, ResultLength, TraceFront, Malformed, Unlawful, Plan}

-- what the job answers and leaves in the result buffer
pub record PutBackResult : Type 0 where
  pub answer : PutBackOutcome
  pub result : List ℕ

-- a refusal leaves the buffer as it was
abbrev pub put_back_refused : PutBackRefusal → List ℕ → PutBackResult
put_back_refused r b = record { answer = Err r; result = b }

-- ---- what refusal 17 carries

-- stands where no item and no setting is named
abbrev pub unnamed : ℕ
unnamed = 255

-- the refusal of record k, by where its cover breaks. "Refusal 17 carries the record's number, from 0, and, for a kind 4 record with i in, a
-- and b different and on, and no item in left without a setting, the lowest item where the cover breaks and the lowest setting that spoils
-- it there; for every other cause both are 255."
abbrev pub unlawful_record : (k : ℕ) → Option (ℕ × ℕ) → PutBackRefusal
unlawful_record k (Some (l, c)) = Unlawful k l c
unlawful_record k None = Unlawful k unnamed unnamed

-- ---- the trace, record by record

-- the records of a lawful trace, or the first fault
pub data Checked : Type 0 where
  Lawful : List Record → Checked
  Faulty : PutBackRefusal → Checked

abbrev pub with_record : Record → Checked → Checked
with_record r (Lawful t) = Lawful (r ∷ t)
with_record r (Faulty e) = Faulty e

-- from the place p in the state s, where record k stands: a malformed record is 16, one that is not lawful in the state reached is 17 (also
-- where an item in has no setting on). A record has at least one byte, so that as many turns as the trace has bytes are enough.
unfoldable pub check_from : ℕ → Problem → List ℕ → State → (k p : ℕ) → Checked
check_from zero P t s k p = Faulty Malformed
check_from (suc f) P t s k p =
    elim (record_at t p) [
      | record·.End ↦ Lawful []
      | record·.Malformed ↦ Faulty Malformed
      | record·.Read r next ↦
          elim (lawful P s r) [
            | true ↦ with_record r (check_from f P t (after P s r) (k + 1) next)
            | false ↦ Faulty (unlawful_record k (broken_cover P s r))
          ]
    ]

-- "no byte, or byte 0 is not 1" is 15
unfoldable pub check_trace : Problem → List ℕ → Checked
check_trace P t =
    elim (ltb 0 (length t) && eqb (byte_at t 0) 1) [ true ↦ check_from (suc (length t)) P t (full P) 0 1 | false ↦ Faulty TraceFront ]

-- ---- the plan

-- 19: "an item out not 255, a setting not on, or a barred pair among items left" does not speak against the plan
unfoldable pub plan_fits : Problem → State → List ℕ → Bool
plan_fits P s p = all_below P.n (λ i. s.active i || eqb (plan_of p i) 255) && solves P s (plan_of p)

-- ---- the job

-- the plan of the full sheet: the records undone last first, each against the state before it
abbrev pub put_back_done : Problem → List Record → List ℕ → PutBackResult
put_back_done P t p = record { answer = Ok tt; result = tab P.n (undo_trace P (full P) t (plan_of p)) }

abbrev pub after_check : Problem → List ℕ → List ℕ → Checked → PutBackResult
after_check P p b (Faulty e) = put_back_refused e b
after_check P p b (Lawful t) = elim (plan_fits P (after_trace P (full P) t) p) [ true ↦ put_back_done P t p | false ↦ put_back_refused Plan b ]

-- over the problem P, in the order of the table: 18, "plan is not n bytes"; 20, "result buffer is not n bytes"; 15; then 16 and 17 record by
-- record; then 19
unfoldable pub put_back_over : Problem → (t p b : List ℕ) → PutBackResult
put_back_over P t p b =
    elim (eqb (length p) P.n) [
      | false ↦ put_back_refused PlanLength b
      | true ↦ elim (eqb (length b) P.n) [ false ↦ put_back_refused ResultLength b | true ↦ after_check P p b (check_trace P t) ]
    ]

-- putting back over the sheet s
unfoldable pub put_back_job : (s t p b : List ℕ) → PutBackResult
put_back_job s t p b = with_sheet s (λ r. put_back_refused (Sheet r) b) (λ P. put_back_over P t p b)
