-- The text from the pick's answer: what an answer says of the sheet, and the lines of what it says. Assumes nothing.
use mathlib.Core.Path.{◌≡◌, refl, sym, ap, ◌∙◌, subst}
use mathlib.Core.Bool.{Bool, false}
use mathlib.Core.List.{List, ◌∷◌, ◌++◌}
use Prim.Native.Nat.{ℕ, zero, suc, ◌≤◌}
use native.Mathlib.Nat.{zero-add}
use native.Mathlib.Omega.{arith}
use lib.ListN.{length, take, replicate, length-replicate}
use Rattle.problem.specs.Problem.{Problem}
use Rattle.problem.specs.declared.End.{End}
use Rattle.problem.specs.declared.Masks.{Masks}
use Rattle.problem.proofs.Count.{sizes_most}
use Rattle.sheet.specs.Sheet.{layout, read_sheet, sheet_number, Keeps, accepted}
use Rattle.sheet.specs.Relation.{problem_of}
use Rattle.sheet.specs.declared.SheetRefusal.{SheetRefusal}
use Rattle.std.specs.Prelude.{Ok, Err}
use Rattle.sheet.proofs.Laws.{accepted_parts}
use Rattle.sheet.proofs.Accepted.{keeps, problem_bounded}
use Rattle.fields.specs.Print.{refused_line, run_lines}
use Rattle.jobs.proofs.Opened.{sheet_refused, sheet_kept}
use Rattle.buffers.specs.Written.{written}
use Rattle.fields.proofs.Laws.{Puts, after}
use Rattle.report.specs.Report.{Ran}
use Rattle.report.proofs.Text.{done_ran}
use Rattle.pick.specs.Pick.{first_left, PickResult, outcome_of, pick_done, pick_job, PickOutcome}
use Rattle.pick.specs.declared.Picked.{Picked}
use Rattle.pick.specs.declared.PickRefusal.{PickRefusal}
use Rattle.pick.proofs.Causes.{pick_kept, pick_accepted_over}
use Rattle.pick.proofs.Demands.{pick_run}
use Rattle.plan_report.specs.Planned.{found_line, pick_lines, planned_lines, Picks}

-- ---- the text of a refused sheet and of one that is read

pub refused_lines : (s : List ℕ) (r : SheetRefusal) → read_sheet layout s ≡ Err r → refused_line (sheet_number r) ≡ planned_lines s
unfolding planned_lines
refused_lines s r e = sym (sheet_refused s _ _ r e)

module _ (s : List ℕ) (K : Keeps layout s) where
  abbrev problem : Problem
  problem = problem_of layout s

  pub kept_lines : pick_lines problem ≡ planned_lines s
  unfolding planned_lines
  kept_lines = sym (sheet_kept s _ _ K)

  -- the run's text, and the plan's line after it
  pub picked_put : (w plan : List ℕ) (found : Bool) (e : End) (steps : ℕ) (m : Masks) → Picks problem w plan found e steps m
      → (d b₁ b₂ : List ℕ) (p r : ℕ) → (b₁ ≡ written d 0 (run_lines problem)) × (p ≡ length (run_lines problem)) → Puts b₁ p (found_line found plan) b₂ r → p ≤ length d
      → (b₂ ≡ written d 0 (planned_lines s)) × (r ≡ length (planned_lines s))
  unfolding pick_lines
  picked_put w plan found e steps m R d b₁ b₂ p r x y l =
      let t : run_lines problem ++ found_line found plan ≡ planned_lines s = (λ i. run_lines problem ++ found_line (R.some i) (R.is i)) ∙ kept_lines in
      let u = after d b₁ b₂ 0 p r _ _ (x.0, x.1 ∙ sym (zero-add _)) y l in
      (u.0 ∙ ap (written d 0) t, u.1 ∙ zero-add _ ∙ ap length t)

-- ---- the plan's buffer

front_filled : (a n k : ℕ) → n ≤ k → take n (replicate k a) ≡ replicate n a
front_filled a zero k l = refl
front_filled a (suc n) zero l = absurd (omega arith)
front_filled a (suc n) (suc k) l = ap (λ (w : List ℕ). a ∷ w) (front_filled a n k (omega arith))

-- the items that the reader tells are those of the problem: so many bytes of 255 are its buffer
module _ (s : List ℕ) (n m : ℕ) (e : read_sheet layout s ≡ accepted n m) where
  items : n ≡ (problem_of layout s).n
  unfolding problem_of
  items = (accepted_parts (sym e ∙ keeps layout s n m e)).0

  pub few_items : n ≤ 32
  few_items = omega (arith, items, (problem_bounded s (keeps layout s n m e)).few)

  pub blank_plan : take {A = ℕ} n (replicate 32 255) ≡ replicate (problem_of layout s).n 255
  blank_plan = front_filled 255 n 32 few_items ∙ ap (λ (k : ℕ). replicate k 255) items

-- ---- what the pick's answer says

abbrev is_plan : PickOutcome → Bool
is_plan (Ok c) = c.plan
is_plan (Err r) = false

never_refused : (y : Bool) (e : End) (k w : ℕ) (r : PickRefusal) → outcome_of y e k w ≡ Err r → ⊥
never_refused y e k w r q = let z : ◌≡◌ {A = ℕ} 0 1 = cc in omega arith

-- with a trace's buffer of 1 + 5 × 512 bytes and the plan's buffer p, of 255 for each item
module _ (s : List ℕ) (K : Keeps layout s) (b : List ℕ) (long : 2561 ≤ length b) (p : List ℕ) (filled : p ≡ replicate (problem_of layout s).n 255) where
  done : pick_job s b p ≡ pick_done (problem s K) b p
  done =
      pick_kept s b p K
      ∙ pick_accepted_over (problem s K) b p (omega (arith, sizes_most (problem s K) (problem_bounded s K))) (ap length filled ∙ length-replicate {A = ℕ} (problem s K).n 255)

  few : length p ≤ 32
  few = omega (arith, ap length filled, length-replicate {A = ℕ} (problem s K).n 255, (problem_bounded s K).few)

  module _ (x : Picked) (a : x ≡ (pick_job s b p).answer) where
    pub not_refused : (r : PickRefusal) → x.outcome ≡ Err r → ⊥
    unfolding pick_done
    not_refused r o = never_refused (first_left (problem s K)).ok _ _ _ r (sym (ap (λ (y : PickResult). y.answer.outcome) done) ∙ ap (λ (y : Picked). y.outcome) (sym a) ∙ o)

    pub picks : (y : Bool) (e : End) (k n : ℕ) → x.outcome ≡ outcome_of y e k n → (w q : List ℕ) → w ≡ (pick_job s b p).trace → q ≡ (pick_job s b p).plan → length q ≡ length p
        → Picks (problem s K) w q y e k x.state
    unfolding pick_done
    picks y e k n o w q f g l =
        let h : (pick_job s b p).answer.outcome ≡ outcome_of y e k n = ap (λ (y : Picked). y.outcome) (sym a) ∙ o in
        let R = pick_run s b p y e k n h in
        record {
          ran = subst (Ran (problem s K) w e k) (ap (λ (y : Picked). y.state) (sym a)) (done_ran s b long _ (sym R.answer) e k n refl w (f ∙ R.trace));
          some = ap is_plan (sym h ∙ ap (λ (y : PickResult). y.answer.outcome) done);
          is = g ∙ ap (λ (y : PickResult). y.plan) done ∙ (λ i. (pick_done (problem s K) b (filled i)).plan);
          few = omega (arith, few);
        }
