-- The job's parts in code: what the run answered, and the first plan put back. Assumes nothing.
use mathlib.Core.Path.{◌≡◌, sym, ap, ◌∙◌}
use mathlib.Core.Bool.{Bool, true, false}
use mathlib.Core.List.{List}
use Prim.Native.Nat.{ℕ, ◌+◌, ◌*◌, ◌≤◌}
use native.Mathlib.Omega.{arith}
use lib.ListN.{length, take, drop}
use lib.Seq.{length-take-le, take-append_seam}
use Rattle.problem.specs.Problem.{Problem, size_sum}
use Rattle.problem.specs.Held.{held, RowTable}
use Rattle.problem.specs.Masks.{state_of, masks_of}
use Rattle.problem.specs.declared.End.{End}
use Rattle.problem.specs.declared.Masks.{Masks}
use Rattle.problem.proofs.HeldTable.{held_few}
use Rattle.run.specs.Run.{RunResult, run_done}
use Rattle.put_back.specs.PutBack.{put_back_over}
use Rattle.run.specs.declared.RunAnswer.{RunAnswer}
use Rattle.run.specs.Numbers.{RunOutcome, ran}
use Rattle.std.specs.Prelude.{Err}
use Rattle.run.specs.declared.RunRefusal.{RunRefusal}
use Rattle.run.specs.declared.RunRefusal.TheVariants.{Sheet, Buffer}
use Rattle.run.proofs.Opened.{run_accepted_over}
use Rattle.run.proofs.Ran.{ran_iff_over}
use Rattle.run.specs.Causes.{RunCauseOver}
use Rattle.run.proofs.Worked.{run_worked_over}
use Rattle.buffers.proofs.Written.{length_fronted}
use Rattle.first_plan.specs.First.{first_plan}
use Rattle.first_plan.specs.declared.Found.{Found}
use Rattle.first_plan.proofs.Meaning.{first_long}
use Rattle.pick.specs.Pick.{left_by, run_trace, blank, first_left, plan_left, outcome_of, pick_done}
use Rattle.pick.proofs.Left.{left_ready, left_found, plan_with, plan_without}

-- ---- the first plan put back

module _ {t : List ℕ} (R : RowTable t) {last : Masks} (is : last ≡ masks_of (left_by (held t))) (f : Found) (e : f ≡ first_plan (held t) (state_of last) blank) where
  found_left : f ≡ first_left (held t)
  found_left = e ∙ left_found R is

  -- it has a byte for each variable
  pub found_room : (p : List ℕ) → length p ≡ (held t).n → length p ≤ length f.plan
  found_room p l =
      let long : length f.plan ≡ 32 = ap (λ (x : Found). length x.plan) e ∙ first_long (left_ready R is).fits blank in
      omega (arith, held_few t)

  pub put_none : (p : List ℕ) → f.ok ≡ false → (false ≡ (first_left (held t)).ok) × (p ≡ plan_left (held t) p)
  put_none p o = let q = sym o ∙ ap (λ (x : Found). x.ok) found_left in (q, sym (plan_without (held t) p (sym q)))

  pub put_some : (p w x : List ℕ) → f.ok ≡ true → length p ≡ (held t).n → w ≡ run_trace (held t)
      → x ≡ (put_back_over (held t) w (take (length p) f.plan) p).result → (true ≡ (first_left (held t)).ok) × (x ≡ plan_left (held t) p)
  put_some p w x o l u z =
      let q = sym o ∙ ap (λ (y : Found). y.ok) found_left in
      (q, z ∙ (λ i. (put_back_over (held t) (u i) (take (l i) (found_left i).plan) p).result) ∙ sym (plan_with (held t) p (sym q)))

-- ---- what the run answered: r, and the trace's buffer x

module _ (P : Problem) (b : List ℕ) (l : 1 + 5 * size_sum P ≤ length b) (r : RunAnswer) (is : r ≡ (run_done P b).answer) where
  caused : (o : RunOutcome) → r.outcome ≡ o → RunCauseOver P b o
  caused o e = (ran_iff_over P b o).0 (ap (λ (y : RunResult). y.answer.outcome) (run_accepted_over P b l) ∙ ap (λ (y : RunAnswer). y.outcome) (sym is) ∙ e)

  pub not_refused : (x : RunRefusal) → r.outcome ≡ Err x → ⊥
  not_refused (Sheet x) e = caused (Err (Sheet x)) e
  not_refused Buffer e = let h = caused (Err Buffer) e in omega arith

  pub state_left : r.state ≡ masks_of (left_by P)
  unfolding run_done left_by
  state_left = ap (λ (y : RunAnswer). y.state) is

  module _ (e : End) (k w : ℕ) (o : r.outcome ≡ ran e k w) (x : List ℕ) (f : x ≡ (run_done P b).buffer) where
    written : w ≡ length (run_trace P)
    written = (caused (ran e k w) o).1.1.1

    pub trace_room : w ≤ length x
    unfolding run_done
    trace_room =
        let h = (run_worked_over P b l).room in
        let n : length x ≡ length b = ap length f ∙ length_fronted (run_trace P) b h in
        omega (arith, written)

    -- the run's trace at its front
    pub pick_trace_left : take w x ≡ run_trace P
    unfolding run_done
    pick_trace_left = (λ i. take (written i) (f i)) ∙ take-append_seam (run_trace P) (drop (length (run_trace P)) b)

    pub trace_count : w ≡ length (take w x)
    trace_count = sym (length-take-le w x trace_room)

    -- the whole answer, with y for whether there is a first plan, and the plan's buffer q
    pub picked_done : (p : List ℕ) (y : Bool) (q : List ℕ) → y ≡ (first_left P).ok → q ≡ plan_left P p
        → record { answer = record { outcome = outcome_of y e k w; state = r.state }; trace = x; plan = q } ≡ pick_done P b p
    unfolding pick_done run_done left_by
    picked_done p y q u z =
        let c = (caused (ran e k w) o).1 in
        λ i. record { answer = record { outcome = outcome_of (u i) (c.0 i) (c.1.0 i) (c.1.1 i); state = state_left i }; trace = f i; plan = z i }
