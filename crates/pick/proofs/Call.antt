-- What the number of a pick tells: a refusal leaves every buffer as it was; otherwise the run's own comes back, and whether a plan was
-- written, and the buffers are the job's. Stated over the definition that the contract cites. Assumes nothing.
use mathlib.Core.Path.{◌≡◌, refl, sym, ap, ◌∙◌}
use mathlib.Core.Bool.{Bool, true, false}
use mathlib.Core.List.{List}
use mathlib.Core.Logic.{◌⊎◌, inl, inr, ◌≢◌, ◌↔◌}
use Prim.Native.Nat.{ℕ, ◌/◌, ◌%◌, ◌≤◌}
use native.Mathlib.Omega.{arith}
use lib.Dec.{T}
use lib.ListN.{length}
use borrow.Author.Tests.{eq-eqb, ne_eqb}
use Rattle.bounded.specs.Quantifiers.{one_if}
use Rattle.bounded.proofs.Truth.{eq_dec}
use Rattle.problem.specs.PutBack.{solves_whole, plan_of}
use Rattle.problem.specs.declared.End.{End}
use Rattle.sheet.specs.Sheet.{layout}
use Rattle.sheet.specs.Relation.{problem_of}
use Rattle.sheet.proofs.Refusals.{sheet_number_lem}
use Rattle.run.specs.Numbers.{end_number}
use Rattle.run.specs.declared.RunAnswer.{RunAnswer}
use Rattle.boundary.specs.State.{state_length, masks_bytes}
use Rattle.boundary.specs.Numbers.{bad_state}
use Rattle.boundary.proofs.Answers.{Refuses, refused_keeps, taken_iff}
use Rattle.run.proofs.Call.{end_small, run_small}
use Rattle.pick.specs.Pick.{pick_number, PickResult, outcome_of, pick_job, PickOutcome}
use Rattle.pick.specs.declared.PickRefusal.{PickRefusal}
use Rattle.pick.specs.declared.PickRefusal.TheVariants as refusal
use Rattle.pick.specs.declared.Picked.{Picked}
use Rattle.pick.proofs.Causes.{pick_unaltered}
use Rattle.pick.proofs.Demands.{pick_run, pick_plan, none_says, none_keeps}
use Rattle.pick.specs.Call.{PickCall, done_number, crossed_number, crossed_state, pick_call, PickFits}
use Rattle.std.specs.Prelude.{Ok, Err}

-- a number of the format's table
pub pick_listed : (r : PickRefusal) → (1 ≤ pick_number r) × (pick_number r ≤ 20)
pick_listed (refusal.Sheet r) = let l = sheet_number_lem r in (omega arith, omega arith)
pick_listed refusal.Buffer = (omega arith, omega arith)
pick_listed refusal.ResultLength = (omega arith, omega arith)

module _ (s t p b : List ℕ) where
  abbrev job : PickResult
  job = pick_job s t p

  abbrev call : PickCall
  call = pick_call s t p b

  pub pick_bad : length b ≢ state_length → call ≡ record { answer = bad_state; trace = t; plan = p; state = b }
  unfolding pick_call
  pick_bad d = rw (ne_eqb (length b) state_length d, pick_call)

  pub pick_good : length b ≡ state_length
      → call ≡ record { answer = crossed_number job.answer.outcome; trace = job.trace; plan = job.plan; state = crossed_state job.answer.outcome job.answer.state b }
  unfolding pick_call
  pick_good e = rw (eq-eqb (length b) state_length e, pick_call)

  -- from the job's answer x, and the trace w and the plan q as it leaves them
  pub pick_says : length b ≡ state_length → (x : Picked) (w q : List ℕ) → x ≡ job.answer → w ≡ job.trace → q ≡ job.plan
      → record { answer = crossed_number x.outcome; trace = w; plan = q; state = crossed_state x.outcome x.state b } ≡ call
  pick_says e x w q a f g = (λ i. record { answer = crossed_number (a i).outcome; trace = f i; plan = g i; state = crossed_state (a i).outcome (a i).state b }) ∙ sym (pick_good e)

  -- the steps and the bytes written are the run's, which are few
  few : (y : Bool) (e : End) (k w : ℕ) → job.answer.outcome ≡ outcome_of y e k w → (k ≤ 512) × (w ≤ 2561)
  few y e k w o = run_small s t _ refl e k w (ap (λ (x : RunAnswer). x.outcome) (pick_run s t p y e k w o).answer)

  -- what the job answers fits its bits
  pub pick_fits : PickFits job.answer.outcome
  pick_fits = go job.answer.outcome refl
    where
      go : (o : PickOutcome) → job.answer.outcome ≡ o → PickFits o
      go (Ok c) q = let l = few c.plan c.run.end c.run.steps c.run.written q in (omega arith, omega arith)
      go (Err r) q = tt

  -- ---- accepted

  pub record PickUnpacked (y : Bool) (e : End) (k w : ℕ) : Type 0 where
    -- 0 in the low byte, then the run's end, steps and bytes written, and bit 48
    pub accepted : call.answer % 256 ≡ 0
    pub end : call.answer / 256 % 256 ≡ end_number e
    pub steps : call.answer / 65536 % 65536 ≡ k
    pub written : call.answer / 4294967296 % 65536 ≡ w
    pub plan_written : call.answer / 281474976710656 ≡ one_if y
    -- the buffers are the job's, and the state's has the last state
    pub trace : call.trace ≡ job.trace
    pub plan : call.plan ≡ job.plan
    pub state : call.state ≡ masks_bytes job.answer.state

  done_crosses : (y : Bool) (e : End) (k w : ℕ) → (crossed_number (outcome_of y e k w) ≡ done_number y e k w) × (crossed_state (outcome_of y e k w) job.answer.state b ≡ masks_bytes job.answer.state)
  done_crosses true e k w = (refl, refl)
  done_crosses false e k w = (refl, refl)

  one_small : (y : Bool) → one_if y ≤ 1
  one_small true = omega arith
  one_small false = omega arith

  -- accepted: all that the answer carries comes back
  pub pick_unpacked : length b ≡ state_length → (y : Bool) (e : End) (k w : ℕ) → job.answer.outcome ≡ outcome_of y e k w → PickUnpacked y e k w
  pick_unpacked l y e k w o =
      let g = pick_good l in
      let q : call.answer ≡ done_number y e k w = ap (λ (x : PickCall). x.answer) g ∙ ap crossed_number o ∙ (done_crosses y e k w).0 in
      let f = few y e k w o in
      let m = end_small e in
      let i = one_small y in
      record {
        accepted = omega arith;
        end = omega arith;
        steps = omega arith;
        written = omega arith;
        plan_written = omega arith;
        trace = ap (λ (x : PickCall). x.trace) g;
        plan = ap (λ (x : PickCall). x.plan) g;
        state = ap (λ (x : PickCall). x.state) g ∙ ap (λ (x : PickOutcome). crossed_state x job.answer.state b) o ∙ (done_crosses y e k w).1;
      }

  -- ---- refused

  abbrev pub PickTaken : Type 0
  PickTaken = (length b ≡ state_length) × (y : Bool) × (e : End) × (k : ℕ) × (w : ℕ) × (job.answer.outcome ≡ outcome_of y e k w)

  abbrev pub PickKept : Type 0
  PickKept = (call.trace ≡ t) × (call.plan ≡ p) × (call.state ≡ b)

  pick_either : PickTaken ⊎ (Refuses call.answer × PickKept)
  pick_either = go (eq_dec (length b) state_length)
    where
      by_job : length b ≡ state_length → (o : PickOutcome) → job.answer.outcome ≡ o → PickTaken ⊎ (Refuses call.answer × PickKept)
      by_job l (Ok c) o = inl (l, c.plan, c.run.end, c.run.steps, c.run.written, o)
      by_job l (Err r) o =
          let g = pick_good l in
          let u = pick_unaltered s t p r o in
          let n : call.answer ≡ pick_number r = ap (λ (x : PickCall). x.answer) g ∙ ap crossed_number o in
          let f = pick_listed r in
          inr (
            (omega arith, omega arith),
            (
              ap (λ (x : PickCall). x.trace) g ∙ ap (λ (x : PickResult). x.trace) u,
              ap (λ (x : PickCall). x.plan) g ∙ ap (λ (x : PickResult). x.plan) u,
              ap (λ (x : PickCall). x.state) g ∙ ap (λ (x : PickOutcome). crossed_state x job.answer.state b) o,
            ),
          )

      go : (length b ≡ state_length) ⊎ (length b ≢ state_length) → PickTaken ⊎ (Refuses call.answer × PickKept)
      go (inl l) = by_job l job.answer.outcome refl
      go (inr d) =
          let g = pick_bad d in
          let n : call.answer ≡ bad_state = ap (λ (x : PickCall). x.answer) g in
          inr ((omega arith, omega arith), (ap (λ (x : PickCall). x.trace) g, ap (λ (x : PickCall). x.plan) g, ap (λ (x : PickCall). x.state) g))

  pick_even : PickTaken → call.answer % 256 ≡ 0
  pick_even x = (pick_unpacked x.0 x.1 x.2 x.3 x.4 x.5).accepted

  -- refused: all three buffers are as they were
  pub pick_refused_keeps : call.answer % 256 ≢ 0 → PickKept
  pick_refused_keeps = refused_keeps PickTaken PickKept _ pick_either pick_even

  -- the remainder is 0 exactly where the pick is accepted
  pub pick_taken : (call.answer % 256 ≡ 0) ↔ PickTaken
  pick_taken = taken_iff PickTaken PickKept _ pick_either pick_even

  -- 200 says the length of the state's buffer, whatever else is at fault, and nothing else does
  pub pick_bad_state : (call.answer ≡ bad_state) ↔ (length b ≢ state_length)
  pick_bad_state = (λ a l. go a l job.answer.outcome refl, λ d. ap (λ (x : PickCall). x.answer) (pick_bad d))
    where
      taken : call.answer ≡ bad_state → length b ≡ state_length → (y : Bool) (e : End) (k w : ℕ) → job.answer.outcome ≡ outcome_of y e k w → ⊥
      taken a l y e k w o = let z = (pick_unpacked l y e k w o).accepted in omega arith

      go : call.answer ≡ bad_state → length b ≡ state_length → (o : PickOutcome) → job.answer.outcome ≡ o → ⊥
      go a l (Ok c) o = taken a l c.plan c.run.end c.run.steps c.run.written o
      go a l (Err r) o =
          let n : call.answer ≡ pick_number r = ap (λ (x : PickCall). x.answer) (pick_good l) ∙ ap crossed_number o in
          let f = pick_listed r in
          omega arith

  -- ---- what a caller reads off an accepted answer

  module _ (a : call.answer % 256 ≡ 0) where
    -- bit 48 is set: the plan's buffer has a plan of the full sheet
    pub picked_plan : call.answer / 281474976710656 ≡ 1 → T (solves_whole (problem_of layout s) (plan_of call.plan))
    picked_plan i = go (pick_taken.0 a)
      where
        go : PickTaken → T (solves_whole (problem_of layout s) (plan_of call.plan))
        go (l, true, e, k, w, o) = rw (pick_unpacked l true e k w o).plan (pick_plan s t p e k w o).whole
        go (l, false, e, k, w, o) = let z = (pick_unpacked l false e k w o).plan_written in absurd (omega arith)

    -- it is not: no choice of settings at all is a plan of the full sheet, and the plan's buffer is as it was
    pub picked_none : call.answer / 281474976710656 ≡ 0 → ((q : ℕ → ℕ) → T (solves_whole (problem_of layout s) q) → ⊥) × (call.plan ≡ p)
    picked_none i = go (pick_taken.0 a)
      where
        go : PickTaken → ((q : ℕ → ℕ) → T (solves_whole (problem_of layout s) q) → ⊥) × (call.plan ≡ p)
        go (l, true, e, k, w, o) = let z = (pick_unpacked l true e k w o).plan_written in absurd (omega arith)
        go (l, false, e, k, w, o) = (none_says s t p e k w o, (pick_unpacked l false e k w o).plan ∙ none_keeps s t p e k w o)
