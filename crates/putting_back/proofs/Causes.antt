-- "[..] putting back with a fault, and no other, is turned away under the one number [..] for its first fault": what each answer says, and for
-- each number its cause. Assumes nothing.
use mathlib.Core.Path.{◌≡◌, refl, sym, ap, ◌∙◌}
use mathlib.Core.Bool.{Bool, true, false, cond, ◌&&◌, ◌||◌, not}
use mathlib.Core.List.{List}
use mathlib.Core.Logic.{◌⊎◌, inl, inr, ◌≢◌, ◌↔◌}
use Prim.Native.Nat.{ℕ, ◌≤◌, ◌<◌}
use native.Mathlib.Omega.{arith}
use lib.Dec.{T, eqb}
use lib.ListN.{length}
use Rattle.bounded.specs.Quantifiers.{imp, all_below}
use Rattle.bounded.proofs.Truth.{T_true, T_false, T_dec, eq_dec, and_iff, or_iff, not_iff, imp_fails, eqb_iff}
use Rattle.bounded.proofs.Quantifiers.{all_iff, all_or}
use Rattle.bounded.proofs.Causes.{cause_iff, number_iff}
use Rattle.problem.specs.Problem.{Problem, State, full, all_other}
use Rattle.problem.specs.Run.{after_trace}
use Rattle.problem.specs.PutBack.{solves, plan_of}
use Rattle.problem.specs.declared.Record.{Record}
use Rattle.problem.proofs.Reflect.{full_fits, all_active_or}
use Rattle.problem.specs.Sentences.{Active, Fits, Solution}
use Rattle.problem.proofs.Sound.{solves_iff}
use Rattle.problem.proofs.Trace.{trace_fits}
use Rattle.sheet.proofs.Refusals.{sheet_number_lem}
use Rattle.put_back.specs.Numbers.{put_back_number, PutBackOutcome}
use Rattle.put_back.specs.PutBack.{PutBackResult, put_back_refused, put_back_done, Checked, Lawful, Faulty, check_trace, plan_fits, after_check, put_back_over, put_back_job}
use Rattle.std.specs.Prelude.{Err, Ok}
use Rattle.put_back.specs.declared.PutBackRefusal.TheVariants as refusal
use Rattle.put_back.proofs.Opened.{put_back_plan_length_over, put_back_result_length_over, put_back_checked_over}
use Rattle.jobs.proofs.SheetCause.{Told, sheet_iff}
use Rattle.put_back.proofs.Checked.{TraceCause, checked_iff}
use Rattle.put_back.specs.Causes.{PlanFault, Sized, BackCauseOver, whose_back, BackCause}

-- ---- the plan

module _ (P : Problem) (q : State) (p : List ℕ) where
  entry_or : T (all_below P.n (λ i. q.active i || eqb (plan_of p i) 255)) ⊎ PlanFault P q p
  entry_or =
      elim (all_or P.n (λ i. q.active i || eqb (plan_of p i) 255)) [
        | inl t ↦ inl t
        | inr x ↦
            let o = (or_iff (q.active x.0) (eqb (plan_of p x.0) 255)).1 in
            inr (inl (x.0, x.1, λ a. x.2 (o (inl a)), λ e. x.2 (o (inr ((eqb_iff (plan_of p x.0) 255).1 e)))))
      ]

  solves_or : T (solves P q (plan_of p)) ⊎ PlanFault P q p
  unfolding solves all_other
  solves_or = go (all_active_or P q (λ i. q.live i (plan_of p i) && all_other P q i (λ j. P.allowed i (plan_of p i) j (plan_of p j))))
    where
      by_pair : (i : ℕ) → Active q i → (T (all_other P q i (λ j. P.allowed i (plan_of p i) j (plan_of p j))) → ⊥) → PlanFault P q p
      by_pair i a n =
          elim (all_active_or P q (λ j. imp (not (eqb j i)) (P.allowed i (plan_of p i) j (plan_of p j)))) [
            | inl t ↦ absurd (n t)
            | inr x ↦
                let y = imp_fails (not (eqb x.0 i)) (P.allowed i (plan_of p i) x.0 (plan_of p x.0)) x.2 in
                inr (inr (i, x.0, a, x.1, λ e. (not_iff (eqb x.0 i)).0 y.0 ((eqb_iff x.0 i).1 (sym e)), y.1))
          ]

      by_live : (i : ℕ) → Active q i → (T (q.live i (plan_of p i) && all_other P q i (λ j. P.allowed i (plan_of p i) j (plan_of p j))) → ⊥) → T (q.live i (plan_of p i)) ⊎ (T (q.live i (plan_of p i)) → ⊥) → PlanFault P q p
      by_live i a n (inl l) = by_pair i a (λ t. n ((and_iff (q.live i (plan_of p i)) (all_other P q i (λ j. P.allowed i (plan_of p i) j (plan_of p j)))).1 (l, t)))
      by_live i a n (inr l) = inr (inl (i, a, l))

      go : T (solves P q (plan_of p)) ⊎ ((i : ℕ) × Active q i × (T (q.live i (plan_of p i) && all_other P q i (λ j. P.allowed i (plan_of p i) j (plan_of p j))) → ⊥)) → T (solves P q (plan_of p)) ⊎ PlanFault P q p
      go (inl t) = inl t
      go (inr x) = inr (by_live x.0 x.1 x.2 (T_dec (q.live x.0 (plan_of p x.0))))

  -- a plan fits, or its fault is found
  plan_or : T (plan_fits P q p) ⊎ PlanFault P q p
  unfolding plan_fits
  plan_or = go entry_or solves_or
    where
      go : T (all_below P.n (λ i. q.active i || eqb (plan_of p i) 255)) ⊎ PlanFault P q p → T (solves P q (plan_of p)) ⊎ PlanFault P q p → T (plan_fits P q p) ⊎ PlanFault P q p
      go (inr x) y = inr x
      go (inl t) (inr x) = inr x
      go (inl t) (inl u) = inl ((and_iff (all_below P.n (λ i. q.active i || eqb (plan_of p i) 255)) (solves P q (plan_of p))).1 (t, u))

  plan_not : Fits P q → PlanFault P q p → T (plan_fits P q p) → ⊥
  unfolding plan_fits
  plan_not F x t =
      let h = (and_iff (all_below P.n (λ i. q.active i || eqb (plan_of p i) 255)) (solves P q (plan_of p))).0 t in
      let e = (all_iff P.n (λ i. q.active i || eqb (plan_of p i) 255)).0 h.0 in
      go x e ((solves_iff F (plan_of p)).0 h.1)
    where
      go : PlanFault P q p → ((i : ℕ) → i < P.n → T (q.active i || eqb (plan_of p i) 255)) → Solution P q (plan_of p) → ⊥
      go (inl x) e A = elim ((or_iff (q.active x.0) (eqb (plan_of p x.0) 255)).0 (e x.0 x.1)) [ inl a ↦ x.2 a | inr o ↦ x.3 ((eqb_iff (plan_of p x.0) 255).0 o) ]
      go (inr (inl x)) e A = x.2 (A.live x.0 x.1)
      go (inr (inr x)) e A = x.5 (A.ok x.0 x.1 x.2 x.3 x.4)

-- ---- why putting back answers as it does

-- over a problem
module _ (P : Problem) (t p b : List ℕ) where
  -- the state that records lead to
  abbrev left : List Record → State
  left u = after_trace P (full P) u

  abbrev planned : List Record → Bool → PutBackResult
  planned u x = elim x [ true ↦ put_back_done P u p | false ↦ put_back_refused refusal.Plan b ]

  checks : Sized P t p b → (c : Checked) → TraceCause P t c → (put_back_over P t p b).answer ≡ (after_check P p b c).answer
  checks Z c x = ap (λ (y : PutBackResult). y.answer) (put_back_checked_over P t p b Z.0 Z.1) ∙ ap (λ (y : Checked). (after_check P p b y).answer) ((checked_iff P t c).1 x)

  cause_answers : (o : PutBackOutcome) → BackCauseOver P t p b o → (put_back_over P t p b).answer ≡ o
  cause_answers (Err (refusal.Sheet r)) x = absurd x
  cause_answers (Err refusal.PlanLength) d = ap (λ (y : PutBackResult). y.answer) (put_back_plan_length_over P t p b d)
  cause_answers (Err refusal.ResultLength) (e, d) = ap (λ (y : PutBackResult). y.answer) (put_back_result_length_over P t p b e d)
  cause_answers (Err refusal.TraceFront) (Z, x) = checks Z (Faulty refusal.TraceFront) x
  cause_answers (Err refusal.Malformed) (Z, x) = checks Z (Faulty refusal.Malformed) x
  cause_answers (Err (refusal.Unlawful k l c)) (Z, x) = checks Z (Faulty (refusal.Unlawful k l c)) x
  cause_answers (Err refusal.Plan) (Z, (u, e, l, x)) =
      checks Z (Lawful u) (e, l)
      ∙ ap (λ (y : Bool). (planned u y).answer) (T_false (plan_fits P (left u) p) (plan_not P (left u) p (trace_fits P (full_fits P) u) x))
  cause_answers (Ok _) (Z, (u, e, l, x)) = checks Z (Lawful u) (e, l) ∙ ap (λ (y : Bool). (planned u y).answer) (T_true (plan_fits P (left u) p) x)

  some_cause : (o : PutBackOutcome) × BackCauseOver P t p b o
  some_cause = by_plan (eq_dec (length p) P.n)
    where
      by_check : Sized P t p b → (c : Checked) → TraceCause P t c → (o : PutBackOutcome) × BackCauseOver P t p b o
      by_check Z (Lawful u) x = elim (plan_or P (left u) p) [ inl y ↦ ((Ok tt), (Z, (u, x.0, x.1, y))) | inr y ↦ (Err refusal.Plan, (Z, (u, x.0, x.1, y))) ]
      by_check Z (Faulty refusal.TraceFront) x = (Err refusal.TraceFront, (Z, x))
      by_check Z (Faulty refusal.Malformed) x = (Err refusal.Malformed, (Z, x))
      by_check Z (Faulty (refusal.Unlawful k l c)) x = (Err (refusal.Unlawful k l c), (Z, x))
      by_check Z (Faulty (refusal.Sheet r)) x = absurd x
      by_check Z (Faulty refusal.PlanLength) x = absurd x
      by_check Z (Faulty refusal.ResultLength) x = absurd x
      by_check Z (Faulty refusal.Plan) x = absurd x

      by_result : length p ≡ P.n → (length b ≡ P.n) ⊎ (length b ≢ P.n) → (o : PutBackOutcome) × BackCauseOver P t p b o
      by_result e (inl f) = by_check (e, f) (check_trace P t) ((checked_iff P t (check_trace P t)).0 refl)
      by_result e (inr d) = (Err refusal.ResultLength, (e, d))

      by_plan : (length p ≡ P.n) ⊎ (length p ≢ P.n) → (o : PutBackOutcome) × BackCauseOver P t p b o
      by_plan (inl e) = by_result e (eq_dec (length b) P.n)
      by_plan (inr d) = (Err refusal.PlanLength, d)

  -- Putting back over a problem answers as it does for its cause and for no other.
  pub put_back_iff_over : (o : PutBackOutcome) → ((put_back_over P t p b).answer ≡ o) ↔ BackCauseOver P t p b o
  put_back_iff_over = cause_iff (put_back_over P t p b).answer (BackCauseOver P t p b) cause_answers some_cause

-- ---- over a sheet

told : (o : PutBackOutcome) → Told (λ r. Err (refusal.Sheet r)) (whose_back o) o
told (Err (refusal.Sheet r)) = refl
told (Err refusal.PlanLength) = tt
told (Err refusal.ResultLength) = tt
told (Err refusal.TraceFront) = tt
told (Err refusal.Malformed) = tt
told (Err (refusal.Unlawful k l c)) = tt
told (Err refusal.Plan) = tt
told (Ok _) = tt

-- the answer that a number from 15 on stands for, but 17, which stands for many
abbrev numbered : ℕ → PutBackOutcome
numbered k =
    cond (eqb k 18) (Err refusal.PlanLength)
    (cond (eqb k 20) (Err refusal.ResultLength)
    (cond (eqb k 15) (Err refusal.TraceFront)
    (cond (eqb k 16) (Err refusal.Malformed)
    (Err refusal.Plan))))

abbrev Single : ℕ → Type 0
Single k = (10 ≤ k) × (k ≢ 17)

number_back : (o : PutBackOutcome) → Single (put_back_number o) → numbered (put_back_number o) ≡ o
number_back (Ok _) (l, d) = absurd (omega arith)
number_back (Err (refusal.Sheet r)) (l, d) = let m = sheet_number_lem r in absurd (omega arith)
number_back (Err refusal.PlanLength) x = refl
number_back (Err refusal.ResultLength) x = refl
number_back (Err refusal.TraceFront) x = refl
number_back (Err refusal.Malformed) x = refl
number_back (Err (refusal.Unlawful k l c)) (_, d) = absurd (d refl)
number_back (Err refusal.Plan) x = refl

-- an answer of the number 17 carries three
unlawful_back : (o : PutBackOutcome) → put_back_number o ≡ 17 → (k : ℕ) × (l : ℕ) × (c : ℕ) × (o ≡ Err (refusal.Unlawful k l c))
unlawful_back (Ok _) e = absurd (omega arith)
unlawful_back (Err (refusal.Sheet r)) e = let m = sheet_number_lem r in absurd (omega arith)
unlawful_back (Err refusal.PlanLength) e = absurd (omega arith)
unlawful_back (Err refusal.ResultLength) e = absurd (omega arith)
unlawful_back (Err refusal.TraceFront) e = absurd (omega arith)
unlawful_back (Err refusal.Malformed) e = absurd (omega arith)
unlawful_back (Err (refusal.Unlawful k l c)) e = (k, l, c, refl)
unlawful_back (Err refusal.Plan) e = absurd (omega arith)

module _ (s t p b : List ℕ) where
  -- Putting back answers as it does for its cause and for no other.
  pub put_back_iff : (o : PutBackOutcome) → ((put_back_job s t p b).answer ≡ o) ↔ BackCause s t p b o
  unfolding put_back_job
  put_back_iff = sheet_iff s _ _ (λ (y : PutBackResult). y.answer) whose_back told (λ r. refl) (λ P. BackCauseOver P t p b) (λ P r x. x) (λ _. put_back_iff_over _ t p b)

  by_number : (o : PutBackOutcome) → Single (put_back_number o) → (put_back_number (put_back_job s t p b).answer ≡ put_back_number o) ↔ BackCause s t p b o
  by_number = number_iff (put_back_job s t p b).answer (BackCause s t p b) put_back_iff put_back_number numbered Single number_back

  pub put_back_18 : (put_back_number (put_back_job s t p b).answer ≡ 18) ↔ BackCause s t p b (Err refusal.PlanLength)
  put_back_18 = by_number (Err refusal.PlanLength) (omega arith, λ e. omega arith)

  pub put_back_20 : (put_back_number (put_back_job s t p b).answer ≡ 20) ↔ BackCause s t p b (Err refusal.ResultLength)
  put_back_20 = by_number (Err refusal.ResultLength) (omega arith, λ e. omega arith)

  pub put_back_15 : (put_back_number (put_back_job s t p b).answer ≡ 15) ↔ BackCause s t p b (Err refusal.TraceFront)
  put_back_15 = by_number (Err refusal.TraceFront) (omega arith, λ e. omega arith)

  pub put_back_16 : (put_back_number (put_back_job s t p b).answer ≡ 16) ↔ BackCause s t p b (Err refusal.Malformed)
  put_back_16 = by_number (Err refusal.Malformed) (omega arith, λ e. omega arith)

  pub put_back_17 : (put_back_number (put_back_job s t p b).answer ≡ 17) ↔ ((k : ℕ) × (l : ℕ) × (c : ℕ) × BackCause s t p b (Err (refusal.Unlawful k l c)))
  put_back_17 = (
    λ e. let x = unlawful_back (put_back_job s t p b).answer e in (x.0, x.1, x.2, (put_back_iff (Err (refusal.Unlawful x.0 x.1 x.2))).0 x.3),
    λ (k, l, c, x). ap put_back_number ((put_back_iff (Err (refusal.Unlawful k l c))).1 x),
  )

  pub put_back_19 : (put_back_number (put_back_job s t p b).answer ≡ 19) ↔ BackCause s t p b (Err refusal.Plan)
  put_back_19 = by_number (Err refusal.Plan) (omega arith, λ e. omega arith)
