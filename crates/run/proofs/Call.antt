-- The exported run: what it answers and leaves, from the length of the state's buffer and from what the job answers; what its number tells; and
-- that the bytes left say the last state. Assumes nothing.
use mathlib.Core.Path.{◌≡◌, sym, ap, ◌∙◌, refl, subst}
use mathlib.Core.List.{List}
use Prim.Native.Nat.{ℕ, ◌≤◌, ◌<◌, ◌/◌, ◌%◌}
use lib.ListN.{length}
use borrow.Author.Tests.{eq-eqb, ne_eqb}
use Rattle.run.specs.Run.{run_job}
use Rattle.run.specs.declared.RunAnswer.{RunAnswer}
use Rattle.std.specs.Prelude.{Err, Ok}
use Rattle.boundary.specs.State.{state_length, masks_in}
use Rattle.boundary.specs.Numbers.{bad_state}
use Rattle.run.specs.Call.{RunFits, run_crossed, run_call, RunCall}
use native.Mathlib.Omega.{arith}
use Rattle.bounded.proofs.Truth.{eq_dec}
use Rattle.problem.specs.Problem.{full}
use Rattle.problem.specs.Run.{run}
use Rattle.problem.proofs.Count.{sizes_most}
use Rattle.problem.proofs.Run.{run_short}
use Rattle.problem.specs.declared.End.{End}
use Rattle.sheet.specs.Sheet.{layout}
use Rattle.sheet.specs.Relation.{problem_of}
use Rattle.sheet.proofs.Accepted.{problem_bounded}
use Rattle.run.proofs.Ran.{ran_iff}
use Rattle.run.proofs.Worked.{trace_length, run_worked}
use mathlib.Core.Logic.{◌⊎◌, inl, inr, ◌≢◌, ◌↔◌}
use Rattle.problem.specs.declared.End.TheVariants as end
use Rattle.run.specs.Numbers.{run_refusal_number, end_number, RunOutcome, ran}
use Rattle.run.specs.declared.RunRefusal.{RunRefusal}
use Rattle.run.specs.declared.RunRefusal.TheVariants as refusal
use Rattle.run.proofs.Unaltered.{run_unaltered}
use Rattle.problem.specs.Masks.{Proper}
use Rattle.problem.proofs.Bridge.{masks_proper}
use Rattle.boundary.proofs.Crossing.{masks_crossed}
use Rattle.boundary.proofs.Answers.{Refuses, Listed, sheet_listed, refused_keeps, taken_iff}

module _ (s t b : List ℕ) where
  pub run_bad : (length b ≡ state_length → ⊥) → run_call s t b ≡ record { answer = bad_state; trace = t; state = b }
  unfolding run_call
  run_bad d = rw (ne_eqb (length b) state_length d, run_call)

  pub run_good : length b ≡ state_length → run_call s t b ≡ run_crossed (run_job s t).answer.outcome (run_job s t).answer.state (run_job s t).buffer b
  unfolding run_call
  run_good e = rw (eq-eqb (length b) state_length e, run_call)

  -- the job's answer x and its trace w, where x's outcome is o
  pub run_says : length b ≡ state_length → (x : RunAnswer) (w : List ℕ) → x ≡ (run_job s t).answer → w ≡ (run_job s t).buffer
      → (o : RunOutcome) → x.outcome ≡ o → run_crossed o x.state w b ≡ run_call s t b
  run_says e x w a f o p = ap (λ (y : RunOutcome). run_crossed y x.state w b) (sym p) ∙ (λ j. run_crossed (a j).outcome (a j).state (f j) b) ∙ sym (run_good e)

-- ---- how large the numbers are

module _ (s b : List ℕ) (x : RunAnswer) (a : x ≡ (run_job s b).answer) (e : End) (k w : ℕ) (o : x.outcome ≡ ran e k w) where
  pub run_small : (k ≤ 512) × (w ≤ 2561)
  run_small =
      let P = problem_of layout s in
      let c = (ran_iff s b (ran e k w)).0 (sym (ap (λ (y : RunAnswer). y.outcome) a) ∙ o) in
      let few = sizes_most P (problem_bounded s c.0) in
      let steps = run_short P in
      let bytes = trace_length (run P (full P)) in
      let p = c.1.1.1.0 in
      let q = c.1.1.1.1 in
      (omega arith, omega arith)

-- what the job answers fits its bits
pub run_fits : (s b : List ℕ) → RunFits (run_job s b).answer.outcome
run_fits s b = go (run_job s b).answer.outcome refl
  where
    go : (o : RunOutcome) → (run_job s b).answer.outcome ≡ o → RunFits o
    go (Ok a) q = let l = run_small s b _ refl a.end a.steps a.written q in (omega arith, omega arith)
    go (Err r) q = tt

-- an end's number fits its bits
pub end_small : (e : End) → end_number e < 256
end_small end.Impossible = omega arith
end_small end.Solved = omega arith
end_small end.Rest = omega arith

-- a number of the format's table
pub run_listed : (r : RunRefusal) → Listed (run_refusal_number r)
run_listed (refusal.Sheet r) = sheet_listed r
run_listed refusal.Buffer = (omega arith, omega arith)

-- ---- what the number tells

module _ (s t b : List ℕ) where
  -- accepted: the end, the steps and the bytes written come back
  pub run_unpacked : length b ≡ state_length → (e : End) (k w : ℕ) → (run_job s t).answer.outcome ≡ ran e k w
      → ((run_call s t b).answer % 256 ≡ 0) × ((run_call s t b).answer / 256 % 256 ≡ end_number e) × ((run_call s t b).answer / 65536 % 65536 ≡ k) × ((run_call s t b).answer / 4294967296 ≡ w)
  run_unpacked l e k w o =
      let q = sym (ap (λ (y : RunCall). y.answer) (run_says s t b l _ _ refl refl _ o)) in
      let f = run_small s t _ refl e k w o in
      let g = end_small e in
      (omega arith, omega arith, omega arith, omega arith)

  abbrev pub RunTaken : Type 0
  RunTaken = (length b ≡ state_length) × (e : End) × (k : ℕ) × (w : ℕ) × ((run_job s t).answer.outcome ≡ ran e k w)

  abbrev RunKept : Type 0
  RunKept = ((run_call s t b).trace ≡ t) × ((run_call s t b).state ≡ b)

  run_either : RunTaken ⊎ (Refuses (run_call s t b).answer × RunKept)
  run_either = go (eq_dec (length b) state_length)
    where
      by_job : length b ≡ state_length → (o : RunOutcome) → (run_job s t).answer.outcome ≡ o → RunTaken ⊎ (Refuses (run_call s t b).answer × RunKept)
      by_job l (Ok a) o = inl (l, a.end, a.steps, a.written, o)
      by_job l (Err r) o =
          let q = sym (run_says s t b l _ _ refl refl _ o) in
          let n = ap (λ (y : RunCall). y.answer) q in
          let f = run_listed r in
          inr ((omega arith, omega arith), (ap (λ (y : RunCall). y.trace) q ∙ run_unaltered s t r o, ap (λ (y : RunCall). y.state) q))

      go : (length b ≡ state_length) ⊎ (length b ≢ state_length) → RunTaken ⊎ (Refuses (run_call s t b).answer × RunKept)
      go (inl l) = by_job l (run_job s t).answer.outcome refl
      go (inr d) =
          let q = run_bad s t b d in
          let n = ap (λ (y : RunCall). y.answer) q in
          inr ((omega arith, omega arith), (ap (λ (y : RunCall). y.trace) q, ap (λ (y : RunCall). y.state) q))

  run_even : RunTaken → (run_call s t b).answer % 256 ≡ 0
  run_even x = (run_unpacked x.0 x.1 x.2 x.3 x.4).0

  -- refused: both buffers are as they were
  pub run_refused_keeps : (run_call s t b).answer % 256 ≢ 0 → ((run_call s t b).trace ≡ t) × ((run_call s t b).state ≡ b)
  run_refused_keeps = refused_keeps RunTaken RunKept _ run_either run_even

  -- 200 says the buffer's length, and nothing else does
  pub run_bad_state : ((run_call s t b).answer ≡ bad_state) ↔ (length b ≢ state_length)
  run_bad_state = (λ a l. go a l (run_job s t).answer.outcome refl, λ d. ap (λ (y : RunCall). y.answer) (run_bad s t b d))
    where
      go : (run_call s t b).answer ≡ bad_state → length b ≡ state_length → (o : RunOutcome) → (run_job s t).answer.outcome ≡ o → ⊥
      go a l (Ok r) o = let z = (run_unpacked l r.end r.steps r.written o).0 in omega arith
      go a l (Err r) o =
          let n = ap (λ (y : RunCall). y.answer) (run_says s t b l _ _ refl refl _ o) in
          let f = run_listed r in
          omega arith

  -- the remainder is 0 exactly where the run is accepted
  pub run_taken : ((run_call s t b).answer % 256 ≡ 0) ↔ RunTaken
  run_taken = taken_iff RunTaken RunKept _ run_either run_even

-- ---- the state left

-- the last state of an accepted run is one that the struct can hold
run_proper : (s t : List ℕ) (e : End) (k w : ℕ) → (run_job s t).answer.outcome ≡ ran e k w → Proper (run_job s t).answer.state
run_proper s t e k w o =
    let c = (ran_iff s t (ran e k w)).0 o in
    subst (λ (y : RunAnswer). Proper y.state) (sym (run_worked s t c.0 c.1.0).answer) (masks_proper _)

pub run_state : (s t b : List ℕ) → length b ≡ state_length → (e : End) (k w : ℕ) → (run_job s t).answer.outcome ≡ ran e k w → masks_in (run_call s t b).state ≡ (run_job s t).answer.state
run_state s t b l e k w o = ap (λ (y : RunCall). masks_in y.state) (sym (run_says s t b l _ _ refl refl _ o)) ∙ masks_crossed _ (run_proper s t e k w o)
