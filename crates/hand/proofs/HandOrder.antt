-- Demand 3, over the definitions that the hand call's contracts cite, and what stands beside it: of a problem that a table can hold, and of
-- a sheet. Assumes nothing.
use mathlib.Core.Path.{◌≡◌, refl, sym, ap, ◌∙◌, subst}
use mathlib.Core.List.{List, [], ◌∷◌}
use mathlib.Core.Logic.{◌↔◌}
use Prim.Native.Nat.{ℕ, ◌≤◌}
use lib.Dec.{T}
use lib.ListN.{length}
use Rattle.problem.specs.Problem.{Problem, State, full, state_fits}
use Rattle.problem.specs.Hand.{start, call, state_after, call_state, calls_state, finished, arc_consistent}
use Rattle.problem.specs.Held.{Bounded}
use Rattle.problem.specs.Masks.{Proper}
use Rattle.problem.specs.declared.Call.{Call}
use Rattle.problem.specs.declared.Call.TheVariants as outcome
use Rattle.problem.proofs.Reflect.{fits_test, arc_consistent_iff, eliminate_fits}
use Rattle.problem.specs.Sentences.{Active, Fits, Solution, Solvable, Alike}
use Rattle.problem.proofs.Bridge.{state_back, fits_iff, masks_proper}
use Rattle.problem.proofs.Start.{start_fits, start_consistent, start_keeps}
use Rattle.problem.proofs.Order.{call_fits, call_solvable, finished_exists, demand_three}
use Rattle.sheet.specs.Sheet.{layout, Keeps}
use Rattle.sheet.specs.Relation.{problem_of}
use Rattle.sheet.proofs.Accepted.{problem_bounded}
use Rattle.hand.specs.Hand.{hand_state, hand_fits, start_over, start_job, call_answer, call_over, call_job, calls_over, calls_job}
use Rattle.hand.specs.declared.HandState.{HandState}
use Rattle.hand.proofs.Opened.{start_kept, call_kept, calls_kept}

-- ---- over a problem that a table can hold

-- a state that fits the problem: a value of its struct that no cause of 11 speaks against
pub hand_fits_lem : (P : Problem) (st : HandState) → Proper st.masks → T (hand_fits P st) → Fits P (hand_state st)
hand_fits_lem P st R t = (fits_iff P st.masks R).0 t

module _ (P : Problem) (B : Bounded P) where
  answer_state : (st : HandState) (i : ℕ) → Fits P (hand_state st) → (c : Call) → hand_state (call_answer P st i c).state ≡ state_after P (hand_state st) i c
  answer_state st i F (outcome.Eliminated v) = state_back P B (eliminate_fits P (hand_state st) F i)
  answer_state st i F outcome.Misfit = refl
  answer_state st i F outcome.NotActive = refl
  answer_state st i F outcome.Emptied = refl
  answer_state st i F outcome.NoSnake = refl

  -- the state that a call answers, as tests, is the state of the call on tests
  pub call_state_over : (st : HandState) (i : ℕ) → Fits P (hand_state st) → hand_state (call_over P st i).state ≡ call_state P (hand_state st) i
  unfolding call_state
  call_state_over st i F = answer_state st i F (call P (hand_state st) i)

  pub calls_state_over : (l : List ℕ) (st : HandState) → Fits P (hand_state st) → hand_state (calls_over P st l) ≡ calls_state P (hand_state st) l
  unfolding calls_over calls_state
  calls_state_over [] st F = refl
  calls_state_over (i ∷ l) st F =
      let e = call_state_over st i F in
      calls_state_over l (call_over P st i).state (subst (Fits P) (sym e) (call_fits P F i)) ∙ ap (λ (q : State). calls_state P q l) e

  pub start_state_over : hand_state (start_over P).state ≡ start P
  start_state_over = state_back P B (start_fits P)

  -- demand 3
  pub order_does_not_matter_over : (st : HandState) → Proper st.masks → T (hand_fits P st) → T (arc_consistent P (hand_state st))
      → ((k l : List ℕ)
      → T (finished P (hand_state (calls_over P st k))) → T (finished P (hand_state (calls_over P st l)))
      → Alike P (hand_state (calls_over P st k)) (hand_state (calls_over P st l)))
      × ((k l : List ℕ)
      → T (finished P (hand_state (calls_over P st k)))
      → (i : ℕ) → Active (hand_state (calls_over P st k)) i → Active (hand_state (calls_over P st l)) i)
  order_does_not_matter_over st R t C =
      let F = hand_fits_lem P st R t in
      let e : (l : List ℕ) → hand_state (calls_over P st l) ≡ calls_state P (hand_state st) l = λ l. calls_state_over l st F in
      let d = demand_three P F C in (
        λ k l fk fl. rw (e k, e l) (d.0 k l (rw (e k) at fk) (rw (e l) at fl)),
        λ k l fk i h. rw (e l) (d.1 k l (rw (e k) at fk) i (rw (e k) at h)),
      )

  -- the start's state meets the premise of demand 3
  pub start_meets_over : Proper (start_over P).state.masks × T (hand_fits P (start_over P).state) × T (arc_consistent P (hand_state (start_over P).state))
  start_meets_over =
      let e = start_state_over in (
        masks_proper (start P),
        subst (λ (q : State). T (state_fits P q)) (sym e) (fits_test (start_fits P)),
        subst (λ (q : State). T (arc_consistent P q)) (sym e) ((arc_consistent_iff (start_fits P)).1 (start_consistent P)),
      )

  -- starting keeps every plan
  pub start_keeps_plans_over : (p : ℕ → ℕ) → Solution P (full P) p ↔ Solution P (hand_state (start_over P).state) p
  start_keeps_plans_over p = rw start_state_over (start_keeps P p)

  module _ (st : HandState) (R : Proper st.masks) (t : T (hand_fits P st)) where
    -- from every state that meets the premise a finished list exists: at most n calls
    pub finished_list_over : T (arc_consistent P (hand_state st)) → (l : List ℕ) × (length l ≤ P.n) × T (finished P (hand_state (calls_over P st l)))
    finished_list_over C =
        let F = hand_fits_lem P st R t in
        let x = finished_exists P F ((arc_consistent_iff F).0 C) in
        (x.0, x.1, rw (calls_state_over x.0 st F) x.2)

    -- a call keeps "has a plan" both ways
    pub call_keeps_plan_over : (i : ℕ) → Solvable P (hand_state (call_over P st i).state) ↔ Solvable P (hand_state st)
    call_keeps_plan_over i = let F = hand_fits_lem P st R t in rw (call_state_over st i F) (call_solvable P F i)

-- ---- demand 3

-- "Take any two lists of hand calls on one sheet that keeps the layout, whichever item each call names and refused calls included. Both
-- begin from one state that fits the sheet and in which every setting on has a partner at each other item in; [..]. Where after each list
-- the rule holds for no item, the items left, their settings and the pairs allowed among them are alike in both. And no list of such calls
-- from that state, finished or not, takes out an item that a finished one leaves."
pub order_does_not_matter : (s : List ℕ) → Keeps layout s
    → (st : HandState) → Proper st.masks → T (hand_fits (problem_of layout s) st) → T (arc_consistent (problem_of layout s) (hand_state st))
    → ((k l : List ℕ)
    → T (finished (problem_of layout s) (hand_state (calls_job s st k))) → T (finished (problem_of layout s) (hand_state (calls_job s st l)))
    → Alike (problem_of layout s) (hand_state (calls_job s st k)) (hand_state (calls_job s st l)))
    × ((k l : List ℕ)
    → T (finished (problem_of layout s) (hand_state (calls_job s st k)))
    → (i : ℕ) → Active (hand_state (calls_job s st k)) i → Active (hand_state (calls_job s st l)) i)
order_does_not_matter s K = rw (calls_kept s K) (order_does_not_matter_over (problem_of layout s) (problem_bounded s K))

-- ---- beside it

module _ (s : List ℕ) (K : Keeps layout s) where
  pub start_meets : Proper (start_job s).state.masks × T (hand_fits (problem_of layout s) (start_job s).state) × T (arc_consistent (problem_of layout s) (hand_state (start_job s).state))
  start_meets = rw (start_kept s K) (start_meets_over (problem_of layout s) (problem_bounded s K))

  pub start_keeps_plans : (p : ℕ → ℕ) → Solution (problem_of layout s) (full (problem_of layout s)) p ↔ Solution (problem_of layout s) (hand_state (start_job s).state) p
  start_keeps_plans = rw (start_kept s K) (start_keeps_plans_over (problem_of layout s) (problem_bounded s K))

  -- the state that a call answers, as tests, is the state of the call on tests
  pub call_job_state : (st : HandState) (i : ℕ) → Fits (problem_of layout s) (hand_state st) → hand_state (call_job s st i).state ≡ call_state (problem_of layout s) (hand_state st) i
  call_job_state st i = rw (call_kept s st i K) (call_state_over (problem_of layout s) (problem_bounded s K) st i)

  module _ (st : HandState) (R : Proper st.masks) (t : T (hand_fits (problem_of layout s) st)) where
    pub finished_list : T (arc_consistent (problem_of layout s) (hand_state st)) → (l : List ℕ) × (length l ≤ (problem_of layout s).n) × T (finished (problem_of layout s) (hand_state (calls_job s st l)))
    finished_list = rw (calls_kept s K) (finished_list_over (problem_of layout s) (problem_bounded s K) st R t)

    pub call_keeps_plan : (i : ℕ) → Solvable (problem_of layout s) (hand_state (call_job s st i).state) ↔ Solvable (problem_of layout s) (hand_state st)
    call_keeps_plan i = rw (call_kept s st i K) (call_keeps_plan_over (problem_of layout s) (problem_bounded s K) st R t i)
