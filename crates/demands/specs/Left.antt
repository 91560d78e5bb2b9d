-- What a run of a sheet comes to: the names that the demands speak in.
use Rattle.std.specs.Prelude.{List, ℕ}
use Rattle.problem.specs.Problem.{Problem, State, full}
use Rattle.problem.specs.Run.{run, after_trace}
use Rattle.problem.specs.declared.Record.{Record}
use Rattle.sheet.specs.Sheet.{layout}
use Rattle.sheet.specs.Relation.{problem_of}

module _ (s : List ℕ) where
  -- the problem that a sheet is
  abbrev pub sheet_problem : Problem
  sheet_problem = problem_of layout s

  -- "the full sheet": all items in and all settings on
  abbrev pub full_sheet : State
  full_sheet = full sheet_problem

  -- the run's records, one a step, and the sheet that is left
  abbrev pub run_records : List Record
  run_records = run sheet_problem full_sheet

  abbrev pub left_by_run : State
  left_by_run = after_trace sheet_problem full_sheet run_records
