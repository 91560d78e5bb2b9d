-- What picking comes to, over the definitions that its contracts cite: the plan that is picked, what "none" says, and that the rest is the
-- run's. Assumes nothing.
use mathlib.Core.Path.{◌≡◌, refl, sym, ap, ◌∙◌, subst}
use mathlib.Core.Bool.{Bool, true, false}
use mathlib.Core.List.{List}
use mathlib.Core.Logic.{◌⊎◌, inl, inr, ◌≢◌, ◌↔◌}
use Prim.Native.Nat.{ℕ, ◌+◌, ◌*◌, ◌≤◌, ◌<◌}
use lib.Dec.{T}
use lib.ListN.{length, take, drop}
use lib.Seq.{take-append_seam}
use Rattle.bounded.proofs.Truth.{T_true, T_false, lt_dec, eq_dec}
use Rattle.problem.specs.Problem.{Problem, size_sum}
use Rattle.problem.specs.Held.{Bounded}
use Rattle.problem.specs.PutBack.{solves, solves_whole, plan_of}
use Rattle.problem.specs.declared.End.{End}
use Rattle.sheet.specs.Sheet.{layout, read_sheet, Keeps}
use Rattle.sheet.specs.Relation.{problem_of}
use Rattle.sheet.specs.declared.SheetRefusal.{SheetRefusal}
use Rattle.run.specs.Numbers.{ran}
use Rattle.std.specs.Prelude.{Err, Ok}
use Rattle.sheet.proofs.Accepted.{problem_bounded}
use Rattle.run.specs.Run.{RunResult, run_done, run_over, run_job}
use Rattle.put_back.specs.PutBack.{PutBackResult, plan_fits, put_back_over, put_back_job}
use Rattle.jobs.proofs.Opened.{sheet_or}
use Rattle.run.proofs.Opened.{run_accepted_over, run_kept}
use Rattle.put_back.proofs.Opened.{put_back_kept}
use Rattle.first_plan.specs.First.{NotAfter}
use Rattle.putting_back.proofs.Demands.{put_back_accepted_over, put_back_plan}
use Rattle.pick.specs.Pick.{left_by, run_trace, first_left, left_plan, PickResult, outcome_of, pick_done, pick_over, pick_job}
use Rattle.pick.proofs.Left.{found_iff, plan_with, plan_without, left_plan_lem, left_least, left_back, plan_not_read}
use Rattle.pick.proofs.Causes.{RightLengths, RunsOwn, pick_buffer_over, pick_length_over, pick_accepted_over, pick_iff_over, pick_sheet_refused, pick_kept, pick_iff}

-- the trace stands at the buffer's front
trace_front : (P : Problem) (b p : List ℕ) (w : ℕ) → w ≡ length (run_trace P) → take w (pick_done P b p).trace ≡ run_trace P
unfolding pick_done
trace_front P b p w e = rw e (take-append_seam (run_trace P) (drop (length (run_trace P)) b))

-- "In either case the trace holds the run's trace, and the answer carries the run's own": x is what picking answers and leaves, y what the
-- run does with the same buffer
pub record RunsAnswer (x : PickResult) (y : RunResult) (e : End) (k w : ℕ) : Type 0 where
  pub trace : x.trace ≡ y.buffer
  pub answer : y.answer ≡ record { outcome = ran e k w; state = x.answer.state }

-- a plan of P is picked: x is what picking answers and leaves, w are the bytes of the run's trace, and `put_back` puts a plan back by a
-- trace into the lent plan
pub record PlanPicked (P : Problem) (put_back : List ℕ → List ℕ → PutBackResult) (x : PickResult) (w : ℕ) : Type 0 where
  -- a plan of what the run left, a byte for each item and 255 at the items out; and no plan of what the run left comes before it,
  -- "lowest item first, lowest setting first"
  pub first : List ℕ
  pub fits : T (plan_fits P (left_by P) first)
  pub least : (q : ℕ → ℕ) → T (solves P (left_by P) q) → NotAfter (left_by P) (plan_of first) q
  -- "puts the first plan in that order back into the lent plan": by the run's own trace
  pub back : put_back (take w x.trace) first ≡ record { answer = Ok tt; result = x.plan }
  -- that is a plan of the full sheet
  pub whole : T (solves_whole P (plan_of x.plan))

-- no choice of settings at all is a plan of the full sheet
abbrev pub NoPlan : Problem → Type 0
NoPlan P = (q : ℕ → ℕ) → T (solves_whole P q) → ⊥

-- the end, the steps and the bytes that a "none" carries
abbrev pub SaysNone : PickResult → Type 0
SaysNone x = (e : End) × (k : ℕ) × (w : ℕ) × (x.answer.outcome ≡ outcome_of false e k w)

-- two results with the same answer and the same trace
abbrev pub SameAnswer : PickResult → PickResult → Type 0
SameAnswer x y = (x.answer ≡ y.answer) × (x.trace ≡ y.trace)

-- ---- over a problem

module _ (P : Problem) (B : Bounded P) (b p : List ℕ) where
  abbrev picked : PickResult
  picked = pick_over P b p

  -- a plan or none is answered where both buffers have the lengths that are asked for, and with the run's own
  answers : (y : Bool) (e : End) (k w : ℕ) → picked.answer.outcome ≡ outcome_of y e k w → RightLengths P b p × RunsOwn P b p e k w
  answers true e k w o = let x = (pick_iff_over P b p B (outcome_of true e k w)).0 o in (x.0, x.1.0)
  answers false e k w o = let x = (pick_iff_over P b p B (outcome_of false e k w)).0 o in (x.0, x.1.0)

  -- a plan is answered where there is a first plan of what is left
  found : (e : End) (k w : ℕ) → picked.answer.outcome ≡ outcome_of true e k w → (first_left P).ok ≡ true
  found e k w o = T_true (first_left P).ok ((found_iff P B).1 ((pick_iff_over P b p B (outcome_of true e k w)).0 o).1.1)

  -- y tells whether it is a plan or none
  pub pick_run_over : (y : Bool) (e : End) (k w : ℕ) → picked.answer.outcome ≡ outcome_of y e k w → RunsAnswer picked (run_over P b) e k w
  unfolding pick_done run_done left_by
  pick_run_over y e k w o =
      let x = answers y e k w o in
      let d = pick_accepted_over P b p x.0.0 x.0.1 in
      let r = run_accepted_over P b x.0.0 in
      record {
        trace = ap (λ (z : PickResult). z.trace) d ∙ sym (ap (λ (z : RunResult). z.buffer) r);
        answer =
            ap (λ (z : RunResult). z.answer) r
            ∙ (λ i. record { outcome = ran (sym x.1.0 i) (sym x.1.1.0 i) (sym x.1.1.1 i); state = ap (λ (z : PickResult). z.answer.state) (sym d) i });
      }

  pub pick_plan_over : (e : End) (k w : ℕ) → picked.answer.outcome ≡ outcome_of true e k w → PlanPicked P (λ t f. put_back_over P t f p) picked w
  unfolding pick_done
  pick_plan_over e k w o =
      let x = answers true e k w o in
      let d = pick_accepted_over P b p x.0.0 x.0.1 in
      let ok = found e k w o in
      let t = run_trace P in
      let q : picked.plan ≡ (put_back_over P t (left_plan P) p).result = ap (λ (z : PickResult). z.plan) d ∙ plan_with P p ok in
      let f : take w picked.trace ≡ t = ap (λ (z : PickResult). take w z.trace) d ∙ trace_front P b p w x.1.1.1 in
      let l = left_back P B ok p x.0.1 in
      let back : put_back_over P t (left_plan P) p ≡ record { answer = Ok tt; result = picked.plan } = l ∙ (λ i. record { answer = Ok tt; result = (ap (λ (z : PutBackResult). z.result) (sym l) ∙ sym q) i }) in
      record {
        first = left_plan P;
        fits = left_plan_lem P B ok;
        least = left_least P B ok;
        back = ap (λ (z : List ℕ). put_back_over P z (left_plan P) p) f ∙ back;
        whole = subst (λ (z : List ℕ). T (solves_whole P (plan_of z))) (sym q) (put_back_plan P t (left_plan P) _ (put_back_accepted_over P t (left_plan P) p (ap (λ (z : PutBackResult). z.answer) back)).2);
      }

  -- "It says "none" exactly when no choice of settings at all is a plan of the full sheet, and then leaves the lent plan untouched."
  pub none_iff_over : RightLengths P b p → SaysNone picked ↔ NoPlan P
  none_iff_over l = (
    λ (e, k, w, o) q t. ((pick_iff_over P b p B (outcome_of false e k w)).0 o).1.1 (q, t),
    λ h. (_, _, _, (pick_iff_over P b p B (outcome_of false _ _ _)).1 (l, ((refl, (refl, refl)), λ (q, t). h q t))),
  )

  pub none_keeps_over : (e : End) (k w : ℕ) → picked.answer.outcome ≡ outcome_of false e k w → picked.plan ≡ p
  unfolding pick_done
  none_keeps_over e k w o =
      let x = (pick_iff_over P b p B (outcome_of false e k w)).0 o in
      ap (λ (z : PickResult). z.plan) (pick_accepted_over P b p x.0.0 x.0.1) ∙ plan_without P p (T_false (first_left P).ok (λ t. x.1.1 ((found_iff P B).0 t)))

module _ (P : Problem) (b p q : List ℕ) (same : length p ≡ length q) where
  -- "what they are before the call is never read": with other bytes lent for the plan the answer and the trace are the same
  pub pick_not_read_over : SameAnswer (pick_over P b p) (pick_over P b q)
  unfolding pick_done
  pick_not_read_over = by_buffer (lt_dec (length b) (1 + 5 * size_sum P))
    where
      by_length : 1 + 5 * size_sum P ≤ length b → (length p ≡ P.n) ⊎ (length p ≢ P.n) → SameAnswer (pick_over P b p) (pick_over P b q)
      by_length l (inl e) = rw (pick_accepted_over P b p l e, pick_accepted_over P b q l (sym same ∙ e)) (refl, refl)
      by_length l (inr d) = rw (pick_length_over P b p l d, pick_length_over P b q l (λ e. d (same ∙ e))) (refl, refl)

      by_buffer : (length b < 1 + 5 * size_sum P) ⊎ (1 + 5 * size_sum P ≤ length b) → SameAnswer (pick_over P b p) (pick_over P b q)
      by_buffer (inl l) = rw (pick_buffer_over P b p l, pick_buffer_over P b q l) (refl, refl)
      by_buffer (inr l) = by_length l (eq_dec (length p) P.n)

  -- and so is a plan that is picked
  pub plan_alike_over : Bounded P → (e : End) (k w : ℕ) → (pick_over P b p).answer.outcome ≡ outcome_of true e k w → (pick_over P b p).plan ≡ (pick_over P b q).plan
  unfolding pick_done
  plan_alike_over B e k w o =
      let l = (answers P B b p true e k w o).0 in
      let m : length q ≡ P.n = sym same ∙ l.1 in
      ap (λ (z : PickResult). z.plan) (pick_accepted_over P b p l.0 l.1) ∙ plan_not_read P B (found P B b p e k w o) p q l.1 m
      ∙ sym (ap (λ (z : PickResult). z.plan) (pick_accepted_over P b q l.0 m))

-- ---- over a sheet

module _ (s b p : List ℕ) where
  abbrev problem : Problem
  problem = problem_of layout s

  -- a plan or none is answered where the sheet keeps the layout only, and then picking is what is done over its problem
  over : (y : Bool) (e : End) (k w : ℕ) → (pick_job s b p).answer.outcome ≡ outcome_of y e k w → Keeps layout s × ((pick_over problem b p).answer.outcome ≡ outcome_of y e k w)
  over y e k w o = let K = go y o in (K, sym (ap (λ (z : PickResult). z.answer.outcome) (pick_kept s b p K)) ∙ o)
    where
      go : (y : Bool) → (pick_job s b p).answer.outcome ≡ outcome_of y e k w → Keeps layout s
      go true o = ((pick_iff s b p (outcome_of true e k w)).0 o).0
      go false o = ((pick_iff s b p (outcome_of false e k w)).0 o).0

  pub pick_run : (y : Bool) (e : End) (k w : ℕ) → (pick_job s b p).answer.outcome ≡ outcome_of y e k w → RunsAnswer (pick_job s b p) (run_job s b) e k w
  pick_run y e k w o = let (K, u) = over y e k w o in rw (pick_kept s b p K, run_kept s b K) (pick_run_over problem (problem_bounded s K) b p y e k w u)

  pub pick_plan : (e : End) (k w : ℕ) → (pick_job s b p).answer.outcome ≡ outcome_of true e k w → PlanPicked problem (λ t f. put_back_job s t f p) (pick_job s b p) w
  pick_plan e k w o =
      let (K, u) = over true e k w o in
      let x = pick_plan_over problem (problem_bounded s K) b p e k w u in
      rw (pick_kept s b p K) (record { first = x.first; fits = x.fits; least = x.least; back = put_back_kept s _ _ p K ∙ x.back; whole = x.whole })

  -- picking is not refused where the sheet keeps the layout and both buffers have the lengths that are asked for
  pub none_iff : Keeps layout s → RightLengths problem b p → SaysNone (pick_job s b p) ↔ NoPlan problem
  none_iff K l = rw (pick_kept s b p K) (none_iff_over problem (problem_bounded s K) b p l)

  -- where it says "none", no choice of settings at all is a plan of the full sheet
  pub none_says : (e : End) (k w : ℕ) → (pick_job s b p).answer.outcome ≡ outcome_of false e k w → NoPlan problem
  none_says e k w o q t = ((pick_iff s b p (outcome_of false e k w)).0 o).1.1.1 (q, t)

  pub none_keeps : (e : End) (k w : ℕ) → (pick_job s b p).answer.outcome ≡ outcome_of false e k w → (pick_job s b p).plan ≡ p
  none_keeps e k w o = let (K, u) = over false e k w o in ap (λ (z : PickResult). z.plan) (pick_kept s b p K) ∙ none_keeps_over problem (problem_bounded s K) b p e k w u

module _ (s b p q : List ℕ) (same : length p ≡ length q) where
  pub pick_not_read : SameAnswer (pick_job s b p) (pick_job s b q)
  pick_not_read = go (sheet_or s)
    where
      go : ((r : SheetRefusal) × (read_sheet layout s ≡ Err r)) ⊎ Keeps layout s → SameAnswer (pick_job s b p) (pick_job s b q)
      go (inl (r, e)) = rw (pick_sheet_refused s b p r e, pick_sheet_refused s b q r e) (refl, refl)
      go (inr K) = rw (pick_kept s b p K, pick_kept s b q K) (pick_not_read_over (problem_of layout s) b p q same)

  pub plan_alike : (e : End) (k w : ℕ) → (pick_job s b p).answer.outcome ≡ outcome_of true e k w → (pick_job s b p).plan ≡ (pick_job s b q).plan
  plan_alike e k w o =
      let (K, u) = over s b p true e k w o in
      rw (pick_kept s b p K, pick_kept s b q K) (plan_alike_over (problem_of layout s) b p q same (problem_bounded s K) e k w u)
