-- What a table says that is filled with a sheet's problem: each answer is that of the sheet, and the two ways round are transposes of each
-- other. Of either version. Assumes nothing.
use mathlib.Core.Path.{◌≡◌, sym, ap, ◌∙◌}
use mathlib.Core.Logic.{◌≢◌}
use mathlib.Core.List.{List}
use Prim.Native.Nat.{ℕ, ◌<◌}
use Rattle.problem.specs.Problem.{Problem}
use Rattle.problem.specs.Held.{row_word, row_allows, held, Two, Filled}
use Rattle.problem.proofs.HeldTable.{held_filled}
use Rattle.sheet.specs.Sheet.{layout, variables_of, size_at, Keeps}
use Rattle.sheet.specs.Relation.{allowed_of, problem_of}
use Rattle.sheet.specs.Row.{sheet_row}
use Rattle.sheet.proofs.Accepted.{size_in, problem_bounded}
use Rattle.sheet.proofs.Words.{row_sheet}

module _ (s t : List ℕ) (y : Keeps layout s) (F : Filled (problem_of layout s) t) (i j : ℕ) (one : i < variables_of s) (other : j < variables_of s) (apart : i ≢ j) where
  two : Two (problem_of layout s) i j
  unfolding problem_of
  two = record { one = one; other = other; apart = apart }

  module _ (a b : ℕ) (la : a < size_at s i) (lb : b < size_at s j) where
    -- every answer of the table is that of the sheet
    pub table_answers : row_allows t i a j b ≡ allowed_of layout s i a j b
    unfolding problem_of
    table_answers = F.rows i a j b two (rw (size_in layout s i one) la) (rw (size_in layout s j other) lb)

  -- the row that the leaf reads from it is the one that the sheet's bytes say
  pub table_row : (a : ℕ) → a < size_at s i → row_word (held t) i j a ≡ sheet_row s i j a
  table_row a la = ap (λ (Q : Problem). row_word Q i j a) (held_filled (problem_bounded s y) F) ∙ row_sheet s y i j a one la other (λ e. apart (sym e))

-- the two ways round are transposes of each other
pub table_turned : (s t : List ℕ) → Keeps layout s → Filled (problem_of layout s) t → (i a j b : ℕ) → i < variables_of s → j < variables_of s → i ≢ j → a < size_at s i → b < size_at s j → row_allows t i a j b ≡ row_allows t j b i a
unfolding problem_of
table_turned s t y F i a j b one other apart la lb =
    table_answers s t y F i j one other apart a b la lb ∙ (problem_of layout s).symmetric i a j b ∙ sym (table_answers s t y F j i other one (λ e. apart (sym e)) b a lb la)

-- the table and the problem that the sheet is hold the same relation
pub table_problem : (s t : List ℕ) → Keeps layout s → Filled (problem_of layout s) t → held t ≡ problem_of layout s
table_problem s t y F = held_filled (problem_bounded s y) F
