-- What each answer of picking says: for each its cause, and no other; and what a refusal leaves. Assumes nothing.
use mathlib.Core.Path.{◌≡◌, refl, sym, ap, ◌∙◌}
use mathlib.Core.Bool.{Bool, true, false, cond}
use mathlib.Core.List.{List}
use mathlib.Core.Logic.{◌⊎◌, inl, inr, ◌≢◌, ◌↔◌}
use Prim.Native.Nat.{ℕ, ◌+◌, ◌*◌, ◌≤◌, ◌<◌}
use native.Mathlib.Omega.{arith}
use lib.Dec.{T, eqb}
use lib.ListN.{length}
use borrow.Author.Tests.{lt-ltb, le-ltb, eq-eqb, ne_eqb}
use Rattle.bounded.proofs.Truth.{T_true, T_false, T_dec, lt_dec, eq_dec}
use Rattle.bounded.proofs.Causes.{cause_iff, number_iff}
use Rattle.problem.specs.Problem.{Problem, full, size_sum}
use Rattle.problem.specs.Run.{run, end_of}
use Rattle.problem.specs.Held.{Bounded}
use Rattle.problem.specs.declared.End.{End}
use Rattle.sheet.specs.Sheet.{layout, read_sheet, Keeps}
use Rattle.sheet.specs.Relation.{problem_of}
use Rattle.sheet.specs.declared.SheetRefusal.{SheetRefusal}
use Rattle.std.specs.Prelude.{Ok, Err}
use Rattle.sheet.proofs.Accepted.{problem_bounded}
use Rattle.sheet.proofs.Refusals.{sheet_number_lem}
use Rattle.jobs.proofs.Opened.{sheet_refused, sheet_kept}
use Rattle.jobs.proofs.SheetCause.{Told, sheet_iff}
use Rattle.jobs.specs.Causes.{Whose, Sheets, Own, SheetCause}
use Rattle.pick.specs.Pick.{picked_number, left_by, run_trace, first_left, PickResult, pick_refused, outcome_of, pick_done, pick_over, pick_job, PickOutcome}
use Rattle.pick.specs.declared.PickRefusal.{PickRefusal}
use Rattle.pick.specs.declared.PickRefusal.TheVariants as refusal
use Rattle.pick.proofs.Left.{HasPlan, found_iff}

-- ---- over a problem

module _ (P : Problem) (b p : List ℕ) where
  -- 10: the trace's buffer is short, whatever the plan's length is
  pub pick_buffer_over : length b < 1 + 5 * size_sum P → pick_over P b p ≡ pick_refused refusal.Buffer b p
  unfolding pick_over
  pick_buffer_over l = rw (lt-ltb (length b) (1 + 5 * size_sum P) l, pick_over)

  module _ (l : 1 + 5 * size_sum P ≤ length b) where
    -- 20: the lent plan is not n bytes
    pub pick_length_over : length p ≢ P.n → pick_over P b p ≡ pick_refused refusal.ResultLength b p
    unfolding pick_over
    pick_length_over d = rw (le-ltb (length b) (1 + 5 * size_sum P) l, ne_eqb (length p) P.n d, pick_over)

    -- otherwise a plan is picked, or there is none
    pub pick_accepted_over : length p ≡ P.n → pick_over P b p ≡ pick_done P b p
    unfolding pick_over
    pick_accepted_over e = rw (le-ltb (length b) (1 + 5 * size_sum P) l, eq-eqb (length p) P.n e, pick_over)

  -- the buffers have the lengths that are asked for
  abbrev pub RightLengths : Type 0
  RightLengths = (1 + 5 * size_sum P ≤ length b) × (length p ≡ P.n)

  -- the end, the steps and the bytes are the run's
  abbrev pub RunsOwn : End → (k w : ℕ) → Type 0
  RunsOwn e k w = (e ≡ end_of P (left_by P)) × ((k ≡ length (run P (full P))) × (w ≡ length (run_trace P)))

  -- "It says "none" exactly when no choice of settings at all is a plan of the full sheet"
  abbrev pub PlanSays : Bool → Type 0
  PlanSays true = HasPlan P
  PlanSays false = HasPlan P → ⊥

  -- Why picking over a problem answers as it does.
  abbrev pub PickCauseOver : PickOutcome → Type 0
  PickCauseOver (Err (refusal.Sheet r)) = ⊥
  -- 10: "shorter than 1 + 5 × the sum of the sizes"
  PickCauseOver (Err refusal.Buffer) = length b < 1 + 5 * size_sum P
  -- 20, after 10: "the lent plan is not n bytes"
  PickCauseOver (Err refusal.ResultLength) = (1 + 5 * size_sum P ≤ length b) × (length p ≢ P.n)
  -- otherwise a plan or none
  PickCauseOver (Ok c) = RightLengths × (RunsOwn c.run.end c.run.steps c.run.written × PlanSays c.plan)

  module _ (B : Bounded P) where
    answered : (y : Bool) → (first_left P).ok ≡ y → (e : End) (k w : ℕ) → RightLengths → RunsOwn e k w → (pick_over P b p).answer.outcome ≡ outcome_of y e k w
    unfolding pick_done
    answered y o e k w (l, n) (x, (u, v)) =
        ap (λ (r : PickResult). r.answer.outcome) (pick_accepted_over l n)
        ∙ (λ i. outcome_of (o i) (sym x i) (sym u i) (sym v i))

    plan_told : (y : Bool) → PlanSays y → (first_left P).ok ≡ y
    plan_told true h = T_true (first_left P).ok ((found_iff P B).1 h)
    plan_told false h = T_false (first_left P).ok (λ t. h ((found_iff P B).0 t))

    cause_picks : (o : PickOutcome) → PickCauseOver o → (pick_over P b p).answer.outcome ≡ o
    cause_picks (Err (refusal.Sheet r)) x = absurd x
    cause_picks (Err refusal.Buffer) l = ap (λ (r : PickResult). r.answer.outcome) (pick_buffer_over l)
    cause_picks (Err refusal.ResultLength) (l, d) = ap (λ (r : PickResult). r.answer.outcome) (pick_length_over l d)
    cause_picks (Ok c) (l, (x, h)) = answered c.plan (plan_told c.plan h) c.run.end c.run.steps c.run.written l x

    some_cause : (o : PickOutcome) × PickCauseOver o
    some_cause = by_buffer (lt_dec (length b) (1 + 5 * size_sum P))
      where
        by_plan : RightLengths → T (first_left P).ok ⊎ (T (first_left P).ok → ⊥) → (o : PickOutcome) × PickCauseOver o
        by_plan l (inl t) = (outcome_of true _ _ _, (l, ((refl, (refl, refl)), (found_iff P B).0 t)))
        by_plan l (inr h) = (outcome_of false _ _ _, (l, ((refl, (refl, refl)), λ x. h ((found_iff P B).1 x))))

        by_length : 1 + 5 * size_sum P ≤ length b → (length p ≡ P.n) ⊎ (length p ≢ P.n) → (o : PickOutcome) × PickCauseOver o
        by_length l (inl e) = by_plan (l, e) (T_dec (first_left P).ok)
        by_length l (inr d) = (Err refusal.ResultLength, (l, d))

        by_buffer : (length b < 1 + 5 * size_sum P) ⊎ (1 + 5 * size_sum P ≤ length b) → (o : PickOutcome) × PickCauseOver o
        by_buffer (inl l) = (Err refusal.Buffer, l)
        by_buffer (inr l) = by_length l (eq_dec (length p) P.n)

    -- Picking over a problem that a table can hold answers as it does for its cause and for no other.
    pub pick_iff_over : (o : PickOutcome) → ((pick_over P b p).answer.outcome ≡ o) ↔ PickCauseOver o
    pick_iff_over = cause_iff (pick_over P b p).answer.outcome PickCauseOver cause_picks some_cause

-- ---- over a sheet

abbrev pub whose_pick : PickOutcome → Whose
whose_pick (Err (refusal.Sheet r)) = Sheets r
whose_pick (Err refusal.Buffer) = Own
whose_pick (Err refusal.ResultLength) = Own
whose_pick (Ok _) = Own

told : (o : PickOutcome) → Told (λ r. Err (refusal.Sheet r)) (whose_pick o) o
told (Err (refusal.Sheet r)) = refl
told (Err refusal.Buffer) = tt
told (Err refusal.ResultLength) = tt
told (Ok _) = tt

module _ (s b p : List ℕ) where
  -- Why picking answers as it does: the sheet's own fault, or the cause over its problem.
  abbrev pub PickCause : PickOutcome → Type 0
  PickCause o = SheetCause s (whose_pick o) (λ P. PickCauseOver P b p o)

  -- Picking answers as it does for its cause and for no other.
  pub pick_iff : (o : PickOutcome) → ((pick_job s b p).answer.outcome ≡ o) ↔ PickCause o
  unfolding pick_job
  pick_iff =
      sheet_iff s _ _ (λ (y : PickResult). y.answer.outcome) whose_pick told (λ r. refl) (λ P. PickCauseOver P b p) (λ P r x. x)
      (λ K. pick_iff_over (problem_of layout s) b p (problem_bounded s K))

  pub pick_sheet_refused : (r : SheetRefusal) → read_sheet layout s ≡ Err r → pick_job s b p ≡ pick_refused (refusal.Sheet r) b p
  unfolding pick_job
  pick_sheet_refused r e = sheet_refused s _ _ r e

  pub pick_kept : Keeps layout s → pick_job s b p ≡ pick_over (problem_of layout s) b p
  unfolding pick_job
  pick_kept K = sheet_kept s _ _ K

  -- ---- by number

  abbrev refused_as : ℕ → PickOutcome
  refused_as n = cond (eqb n 10) (Err refusal.Buffer) (Err refusal.ResultLength)

  number_back : (o : PickOutcome) → 10 ≤ picked_number o → refused_as (picked_number o) ≡ o
  number_back (Ok _) h = absurd (omega arith)
  number_back (Err (refusal.Sheet r)) h = let m = sheet_number_lem r in absurd (omega arith)
  number_back (Err refusal.Buffer) h = refl
  number_back (Err refusal.ResultLength) h = refl

  by_number : (o : PickOutcome) → 10 ≤ picked_number o → (picked_number (pick_job s b p).answer.outcome ≡ picked_number o) ↔ PickCause o
  by_number = number_iff (pick_job s b p).answer.outcome PickCause pick_iff picked_number refused_as (λ k. 10 ≤ k) number_back

  pub pick_10 : (picked_number (pick_job s b p).answer.outcome ≡ 10) ↔ (Keeps layout s × (length b < 1 + 5 * size_sum (problem_of layout s)))
  pick_10 = by_number (Err refusal.Buffer) (omega arith)

  -- 20 comes after 10
  pub pick_20 : (picked_number (pick_job s b p).answer.outcome ≡ 20)
      ↔ (Keeps layout s × ((1 + 5 * size_sum (problem_of layout s) ≤ length b) × (length p ≢ (problem_of layout s).n)))
  pick_20 = by_number (Err refusal.ResultLength) (omega arith)

  -- ---- what a refusal leaves: "A refusal [..] leaves all lent bytes unchanged": neither the trace nor the plan is altered

  pub pick_unaltered : (r : PickRefusal) → (pick_job s b p).answer.outcome ≡ Err r → pick_job s b p ≡ pick_refused r b p
  pick_unaltered r e = go r ((pick_iff (Err r)).0 e)
    where
      go : (r : PickRefusal) → PickCause (Err r) → pick_job s b p ≡ pick_refused r b p
      go (refusal.Sheet r) x = pick_sheet_refused r x
      go refusal.Buffer (K, l) = pick_kept K ∙ pick_buffer_over (problem_of layout s) b p l
      go refusal.ResultLength (K, (l, d)) = pick_kept K ∙ pick_length_over (problem_of layout s) b p l d
