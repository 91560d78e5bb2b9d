-- What plan_sheet prints, beside what reduce_sheet prints and what picking answers. Assumes nothing.
use mathlib.Core.Path.{◌≡◌, sym, ap, ◌∙◌}
use mathlib.Core.List.{List, ◌++◌}
use Prim.Native.Nat.{ℕ}
use native.Mathlib.Omega.{arith}
use lib.ListN.{replicate, length-replicate}
use lib.Seq.{take_all}
use Rattle.bounded.proofs.Truth.{T_true, T_false}
use Rattle.problem.specs.declared.End.{End}
use Rattle.sheet.specs.Sheet.{layout, read_sheet, Keeps}
use Rattle.sheet.specs.Relation.{problem_of}
use Rattle.sheet.specs.declared.SheetRefusal.{SheetRefusal}
use Rattle.std.specs.Prelude.{Err, true, false}
use Rattle.sheet.proofs.Accepted.{problem_bounded, longest_sheet}
use Rattle.fields.specs.Print.{input_limit, sheet_lines}
use Rattle.jobs.proofs.Opened.{sheet_refused}
use Rattle.report.proofs.Text.{read_lines}
use Rattle.pick.specs.Pick.{first_left, plan_left, PickResult, pick_done, pick_job, outcome_of}
use Rattle.pick.proofs.Left.{found_iff, plan_not_read}
use Rattle.pick.proofs.Causes.{pick_kept, pick_accepted_over, pick_iff}
use Rattle.plan_report.specs.Planned.{no_plan_line, plan_line, found_line, picked_plan, pick_lines, planned_lines, planned}
use Rattle.plan_report.proofs.Text.{refused_lines, kept_lines}

-- "A refused sheet prints its one line, as `refused 8`, and nothing else."
pub planned_refused : (s : List ℕ) (r : SheetRefusal) → read_sheet layout s ≡ Err r → planned_lines s ≡ sheet_lines s
unfolding sheet_lines
planned_refused s r e = sym (refused_lines s r e) ∙ sym (sheet_refused s _ _ r e)

one_more : (s : List ℕ) → Keeps layout s → planned_lines s ≡ sheet_lines s ++ found_line (first_left (problem_of layout s)).ok (picked_plan (problem_of layout s))
unfolding pick_lines
one_more s K = sym (kept_lines s K) ∙ ap (λ (l : List ℕ). l ++ found_line (first_left (problem_of layout s)).ok (picked_plan (problem_of layout s))) (sym (read_lines s K))

-- "prints what reduce_sheet prints and then one line more": what picking answers, with any buffers that it does not refuse
module _ (s b p : List ℕ) (e : End) (k w : ℕ) where
  pub planned_plan : (pick_job s b p).answer.outcome ≡ outcome_of true e k w → planned_lines s ≡ sheet_lines s ++ plan_line (pick_job s b p).plan
  unfolding pick_done
  planned_plan o =
      let x = (pick_iff s b p (outcome_of true e k w)).0 o in
      let P = problem_of layout s in
      let B = problem_bounded s x.0 in
      let ok = T_true (first_left P).ok ((found_iff P B).1 x.1.1.1) in
      let j : (pick_job s b p).plan ≡ plan_left P p = ap (λ (z : PickResult). z.plan) (pick_kept s b p x.0 ∙ pick_accepted_over P b p x.1.0.0 x.1.0.1) in
      let a = plan_not_read P B ok p (replicate P.n 255) x.1.0.1 (length-replicate P.n 255) in
      one_more s x.0 ∙ (λ i. sheet_lines s ++ found_line (ok i) ((sym (j ∙ a)) i))

  pub planned_none : (pick_job s b p).answer.outcome ≡ outcome_of false e k w → planned_lines s ≡ sheet_lines s ++ no_plan_line
  planned_none o =
      let x = (pick_iff s b p (outcome_of false e k w)).0 o in
      let P = problem_of layout s in
      let no = T_false (first_left P).ok (λ t. x.1.1.1 ((found_iff P (problem_bounded s x.0)).0 t)) in
      one_more s x.0 ∙ (λ i. sheet_lines s ++ found_line (no i) (picked_plan P))

-- "`plan_sheet` reads a sheet in the same way": a sheet that keeps the layout is read whole
pub planned_sheet : (s : List ℕ) → Keeps layout s → planned s ≡ planned_lines s
unfolding planned
planned_sheet s K = ap planned_lines (take_all input_limit s (omega (arith, longest_sheet s K)))
