-- Why putting back answers as it does, and what an accepted call shows.
use Rattle.std.specs.Prelude.{◌≡◌, List, [], ◌∷◌, ◌++◌, ◌⊎◌, ◌≢◌, ℕ, ◌<◌, T, length, Err, Ok}
use Rattle.problem.specs.Problem.{Problem, State, full}
use Rattle.problem.specs.Run.{lawful, lawful_trace, after_trace}
use Rattle.problem.specs.PutBack.{plan_of}
use Rattle.problem.specs.Sentences.{Active, Live, Allowed}
use Rattle.problem.specs.Causes.{CoverAlone, BreaksAt}
use Rattle.problem.specs.Published.{Published}
use Rattle.problem.specs.declared.Record.{Record}
use Rattle.buffers.specs.Bytes.{byte_at}
use Rattle.jobs.specs.Causes.{Whose, Sheets, Own, SheetCause}
use Rattle.trace.specs.Trace.{record_bytes, trace_bytes}
use Rattle.put_back.specs.PutBack.{PutBackResult, unnamed, plan_fits, put_back_done}
use Rattle.put_back.specs.Numbers.{PutBackOutcome}
use Rattle.put_back.specs.declared.PutBackRefusal.TheVariants as refusal

-- ---- the trace and the plan

-- bytes are left, and they begin with no record's
abbrev pub NoRecord : List ℕ → Type 0
NoRecord d = (d ≢ []) × ((r : Record) (more : List ℕ) → d ≡ record_bytes r ++ more → ⊥)

-- Of a record r that is not lawful in the state q: "for a kind 4 record with i in, a and b different and on, and no item in left without a
-- setting, the lowest item where the cover breaks and the lowest setting that spoils it there; for every other cause both are 255."
abbrev pub Carried : Problem → State → Record → (l c : ℕ) → Type 0
Carried P q r l c = (CoverAlone P q r × BreaksAt P q r l c) ⊎ ((CoverAlone P q r → ⊥) × (l ≡ unnamed) × (c ≡ unnamed))

module _ (P : Problem) (q : State) (p : List ℕ) where
  -- 19: "an item out not 255, a setting not on, or a barred pair among items left"
  abbrev pub PlanFault : Type 0
  PlanFault =
      ((i : ℕ) × (i < P.n) × (Active q i → ⊥) × (plan_of p i ≢ 255))
      ⊎ (((i : ℕ) × Active q i × (Live q i (plan_of p i) → ⊥))
      ⊎ ((i : ℕ) × (j : ℕ) × Active q i × Active q j × (i ≢ j) × (Allowed P i (plan_of p i) j (plan_of p j) → ⊥)))

-- ---- why it answers so

module _ (P : Problem) (t p b : List ℕ) where
  -- the state that records lead to
  abbrev left : List Record → State
  left u = after_trace P (full P) u

  -- plan and result have a byte an item
  abbrev pub Sized : Type 0
  Sized = (length p ≡ P.n) × (length b ≡ P.n)

  -- Why putting back over a problem answers as it does.
  abbrev pub BackCauseOver : PutBackOutcome → Type 0
  BackCauseOver (Err (refusal.Sheet r)) = ⊥
  -- 18: "plan is not n bytes"
  BackCauseOver (Err refusal.PlanLength) = length p ≢ P.n
  -- 20: "result buffer is not n bytes"
  BackCauseOver (Err refusal.ResultLength) = (length p ≡ P.n) × (length b ≢ P.n)
  -- 15: "no byte, or byte 0 is not 1"
  BackCauseOver (Err refusal.TraceFront) = Sized × ((t ≡ []) ⊎ (byte_at t 0 ≢ 1))
  -- 16: after the bytes of lawful records u, bytes that begin with no record's
  BackCauseOver (Err refusal.Malformed) =
      Sized × ((u : List Record) × (more : List ℕ) × (t ≡ trace_bytes u ++ more) × T (lawful_trace P (full P) u) × NoRecord more)
  -- 17: after the bytes of k lawful records u, those of a record that is not lawful in the state reached, and of it l and c are named
  BackCauseOver (Err (refusal.Unlawful k l c)) =
      Sized
      × ((u : List Record) × (r : Record) × (more : List ℕ) × (t ≡ trace_bytes u ++ (record_bytes r ++ more)) × T (lawful_trace P (full P) u)
      × (T (lawful P (left u) r) → ⊥) × (length u ≡ k) × Carried P (left u) r l c)
  -- 19: the trace is lawful, and the plan is not one of what it leaves
  BackCauseOver (Err refusal.Plan) = Sized × ((u : List Record) × (t ≡ trace_bytes u) × T (lawful_trace P (full P) u) × PlanFault P (left u) p)
  -- accepted: the trace is lawful, and the plan is one of what it leaves
  BackCauseOver (Ok _) = Sized × ((u : List Record) × (t ≡ trace_bytes u) × T (lawful_trace P (full P) u) × T (plan_fits P (left u) p))

abbrev pub whose_back : PutBackOutcome → Whose
whose_back (Err (refusal.Sheet r)) = Sheets r
whose_back (Err refusal.PlanLength) = Own
whose_back (Err refusal.ResultLength) = Own
whose_back (Err refusal.TraceFront) = Own
whose_back (Err refusal.Malformed) = Own
whose_back (Err (refusal.Unlawful k l c)) = Own
whose_back (Err refusal.Plan) = Own
whose_back (Ok _) = Own

module _ (s t p b : List ℕ) where
  -- Why putting back answers as it does: the sheet's own fault, or the cause over its problem.
  abbrev pub BackCause : PutBackOutcome → Type 0
  BackCause o = SheetCause s (whose_back o) (λ P. BackCauseOver P t p b o)

-- ---- what an accepted call shows

pub record PutBack (P : Problem) (t p : List ℕ) (x : PutBackResult) : Type 0 where
  -- the trace's records: the bytes lent are theirs, and each is lawful in the state reached
  pub records : List Record
  pub bytes : t ≡ trace_bytes records
  pub lawful : T (lawful_trace P (full P) records)
  -- under the published rules: each is published in the state that it was taken in
  pub published : (before : List Record) (r : Record) (rest : List Record) → records ≡ before ++ (r ∷ rest) → Published P (after_trace P (full P) before) r
  -- the plan is one of what is left, with 255 for each item out
  pub plan : T (plan_fits P (after_trace P (full P) records) p)
  -- the result: the records undone last first
  pub result : x ≡ put_back_done P records p
