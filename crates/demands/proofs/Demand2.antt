-- Demand 2. Assumes nothing.
use mathlib.Core.Path.{◌≡◌, refl, ap}
use mathlib.Core.List.{List, [], ◌∷◌}
use mathlib.Core.Logic.{◌⊎◌, inl, inr}
use lib.Dec.{T}
use Rattle.bounded.specs.Quantifiers as bounded
use Rattle.bounded.specs.Mask as mask
use Rattle.bounded.specs.Table as table
use Rattle.problem.specs.Problem as problem
use Rattle.problem.specs.Run as run·
use Rattle.problem.specs.Hand as hand·
use Rattle.problem.specs.PutBack as back·
use Rattle.problem.specs.Masks as packed
use Rattle.problem.specs.Solutions as solutions
use Rattle.sheet.specs.Sheet as sheet
use Rattle.sheet.specs.Relation as relation
use Rattle.bounded.proofs.Truth.{T_dec}
use Rattle.problem.specs.Problem.{Problem, State, full, none_empty}
use Rattle.problem.specs.Run.{after_trace, run}
use Rattle.problem.specs.Sentences.{Fits}
use Rattle.problem.specs.Causes.{SomeEmpty}
use Rattle.problem.specs.Published.{Published}
use Rattle.problem.specs.Solutions.{solution_count}
use Rattle.problem.specs.declared.Record.{Record}
use Rattle.problem.specs.declared.Record.TheVariants.{Snake}
use Rattle.problem.proofs.Reflect.{full_fits}
use Rattle.problem.proofs.Trace.{trace_fits, trace_solvable, lawful_iff}
use Rattle.problem.proofs.Run.{run_lawful, run_complete, emptied}
use Rattle.problem.proofs.Published.{holds_published, published_iff, run_published, after_published}
use Rattle.jobs.specs.Sheets.{sheet_e}
use Rattle.put_back.specs.PutBack.{PutBackResult}
use Rattle.run.proofs.Worked.{run_worked, run_left}
use Rattle.putting_back.proofs.Demands.{put_back_accepted, put_back_accepts, put_back_plan}
use Rattle.putting_back.proofs.Call.{lawful_put_back}
use Rattle.demands.specs.Left.{sheet_problem, full_sheet}
use Rattle.demands.specs.Demand2.{Demand2}
use Rattle.demands.proofs.Calls.{trace_left_lem, sheet_left_lem, run_keeps_plan, run_then_put_back}

module _ (P : Problem) where
  reached_fits : (u : List Record) → Fits P (after_trace P (full P) u)
  reached_fits = trace_fits P (full_fits P)

  -- where the run ends
  settled_or : ((r : Record) → Published P (after_trace P (full P) (run P (full P))) r → ⊥) ⊎ SomeEmpty P (after_trace P (full P) (run P (full P)))
  settled_or = go (T_dec (none_empty P (after_trace P (full P) (run P (full P)))))
    where
      last : State
      last = after_trace P (full P) (run P (full P))

      go : T (none_empty P last) ⊎ (T (none_empty P last) → ⊥) → ((r : Record) → Published P last r → ⊥) ⊎ SomeEmpty P last
      go (inl n) = inl (λ r x. run_complete P (full_fits P) r ((lawful_iff P last r).1 (n, (holds_published (reached_fits (run P (full P))) r).1 x)))
      go (inr n) = inr (emptied P (reached_fits (run P (full P))) n)

-- sheet E: two plans, and eight once item 0 is out
more_plans : (solution_count (sheet_problem sheet_e) (full_sheet sheet_e) ≡ 2)
    × (solution_count (sheet_problem sheet_e) (after_trace (sheet_problem sheet_e) (full_sheet sheet_e) (Snake 0 0 ∷ [])) ≡ 8)
unfolding bounded.all_below bounded.any_below bounded.lowest bounded.at_lowest bounded.sum_to bounded.count_below mask.mask_of table.tab problem.both_ways problem.full problem.state_fits problem.all_active problem.all_live problem.any_live problem.lowest_live problem.all_other problem.all_third problem.none_empty problem.spoils problem.spoiler problem.unsupported problem.snake_serves problem.snake problem.triangle_serves problem.triangle problem.neighbourhood problem.substitution_serves problem.snake_substitution problem.breaks problem.first_break problem.cover_asked problem.remove problem.eliminate problem.live_count problem.size_sum run·.holds_by run·.lawful_by run·.broken_cover run·.after run·.after_trace run·.step_if run·.first run·.next_unsupported run·.next_snake run·.next_triangle run·.next_neighbourhood run·.next_snake_substitution_by run·.next_of_kind_by run·.next_by run·.run_from_by run·.run_by run·.end_of hand·.supported hand·.prune hand·.prune_times hand·.start hand·.call back·.solves back·.put back·.repair back·.undo back·.undo_trace packed.state_of packed.masks_of solutions.solutions_from solutions.solution_count solutions.solvable sheet.beyond sheet.allows_all sheet.block_of sheet.block_at sheet.blocks_from sheet.bad_sizes sheet.read_sheet relation.rows_from relation.rows_of relation.pair_allowed relation.size_of relation.listed relation.allowed_of relation.problem_of
more_plans = (refl, refl)

pub demand_2 : Demand2
demand_2 =
    record {
      lawful_steps = λ s. run_lawful (sheet_problem s) (full_sheet s);
      published_steps = λ s. run_published (full_fits (sheet_problem s));
      accepted_steps = λ s t p b h. (put_back_accepted s t p b h).3;
      lawful_published = λ s u r. published_iff (reached_fits (sheet_problem s) u) r;
      step_published = λ s u r. after_published (reached_fits (sheet_problem s) u) r;
      settled = λ s. settled_or (sheet_problem s);
      run_keeps = λ s b K l. rw (run_left s b K l) (run_worked s b K l).plan;
      trace_keeps = λ s u h. trace_solvable (sheet_problem s) (full_fits (sheet_problem s)) u h;
      put_back = λ s K u h p b m n f. let e = put_back_accepts s u p b K m n h f in let a = ap (λ (y : PutBackResult). y.answer) e in (a, put_back_plan (sheet_problem s) _ p _ (put_back_accepted s _ p b a).3);
      raised = more_plans;
      call_trace = trace_left_lem;
      call_left = sheet_left_lem;
      call_keeps = run_keeps_plan;
      call_put_back = run_then_put_back;
      call_put_back_any = λ s t p r u K m n e l f. lawful_put_back s t p r u K m n e l f;
    }
