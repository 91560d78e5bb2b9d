-- The step lines that are left while they are written: one more record is read, or none is left. Assumes nothing.
use mathlib.Core.Path.{◌≡◌, ap, ◌∙◌}
use mathlib.Core.List.{List, [], ◌++◌}
use Prim.Native.Nat.{ℕ, ◌+◌, ◌-◌, ◌≤◌, ◌<◌}
use native.Mathlib.Omega.{arith}
use Rattle.problem.specs.declared.Record.{Record}
use Rattle.trace.specs.Trace.{record_at}
use Rattle.trace.specs.declared.RecordRead.TheVariants.{Read, End, Malformed}
use Rattle.fields.specs.Print.{step_line, step_lines}
use Rattle.report.specs.Records.{records_in}
use Rattle.report.proofs.Records.{one_read, none_read, end_read, malformed_read}

-- after k of the steps, at a place of the trace w
abbrev pub lines_left : List ℕ → (steps place k : ℕ) → List ℕ
lines_left w steps place k = step_lines (k + 1) (records_in (steps - k) w place)

module _ (w : List ℕ) (steps place k : ℕ) where
  pub one_line : k < steps → (r : Record) (next : ℕ) → record_at w place ≡ Read r next → lines_left w steps place k ≡ step_line (k + 1) r ++ lines_left w steps next (k + 1)
  unfolding step_lines
  one_line l r next e = ap (step_lines (k + 1)) (one_read w (steps - k) (steps - (k + 1)) place r next (omega arith) e)

  none : records_in (steps - k) w place ≡ [] → lines_left w steps place k ≡ []
  unfolding step_lines
  none e = ap (step_lines (k + 1)) e

  pub all_lines : steps ≤ k → lines_left w steps place k ≡ []
  all_lines l = let z : steps - k ≡ 0 = omega arith in none (ap (λ (x : ℕ). records_in x w place) z ∙ none_read w place)

  pub end_lines : record_at w place ≡ End → lines_left w steps place k ≡ []
  end_lines e = none (end_read w (steps - k) place e)

  pub malformed_lines : record_at w place ≡ Malformed → lines_left w steps place k ≡ []
  malformed_lines e = none (malformed_read w (steps - k) place e)
