-- A job over a sheet, by what reading the sheet finds. Assumes nothing.
use mathlib.Core.Path.{◌≡◌, refl, sym, ap, subst, ◌∙◌}
use mathlib.Core.List.{List}
use mathlib.Core.Logic.{◌⊎◌, inl, inr}
use Prim.Native.Nat.{ℕ}
use Rattle.problem.specs.Problem.{Problem}
use Rattle.problem.specs.Held.{held, RowTable, Filled}
use Rattle.problem.proofs.HeldTable.{held_filled, filled_rows}
use Rattle.sheet.specs.Sheet.{layout, read_sheet, variables_of, Keeps, SheetRead, accepted}
use Rattle.sheet.specs.Relation.{problem_of}
use Rattle.sheet.specs.declared.SheetRefusal.{SheetRefusal}
use Rattle.std.specs.Prelude.{Err, Ok}
use Rattle.sheet.proofs.Accepted.{keeps, problem_bounded}
use Rattle.jobs.specs.WithSheet.{with_sheet}

-- ---- the sheet

-- a sheet is refused, or keeps the layout
pub sheet_or : (s : List ℕ) → ((r : SheetRefusal) × (read_sheet layout s ≡ Err r)) ⊎ Keeps layout s
sheet_or s = go (read_sheet layout s) refl
  where
    go : (x : SheetRead) → read_sheet layout s ≡ x → ((r : SheetRefusal) × (read_sheet layout s ≡ Err r)) ⊎ Keeps layout s
    go (Err r) e = inl (r, e)
    go (Ok a) e = inr (keeps layout s a.variables a.blocks e)

-- the problem of a sheet has as many variables as the sheet has items
pub variables_of_lem : (s : List ℕ) → (problem_of layout s).n ≡ variables_of s
unfolding problem_of
variables_of_lem s = refl

-- What reading a sheet into a table answers, and the table: refused, or it keeps the layout, the table can be read and what is done over its
-- problem is the job over the sheet.
module _ {x : SheetRead} (s t : List ℕ) (R : (x ≡ read_sheet layout s) × (Keeps layout s → Filled (problem_of layout s) t)) where
  pub table_refused : {r : SheetRefusal} → x ≡ Err r → read_sheet layout s ≡ Err r
  table_refused e = sym R.0 ∙ e

  module _ {n m : ℕ} (e : x ≡ accepted n m) where
    pub table_kept : Keeps layout s
    table_kept = keeps layout s n m (sym R.0 ∙ e)

    pub table_rows : RowTable t
    table_rows = filled_rows (problem_bounded s table_kept) (R.1 table_kept)

    pub table_job : {A : Type 0} {job : A} (over : Problem → A) → (Keeps layout s → job ≡ over (problem_of layout s)) → over (held t) ≡ job
    table_job over k = ap over (held_filled (problem_bounded s table_kept) (R.1 table_kept)) ∙ sym (k table_kept)

module _ {A : Type 0} (s : List ℕ) (refused : SheetRefusal → A) (over : Problem → A) where
  -- the sheet's refusal comes first
  pub sheet_refused : (r : SheetRefusal) → read_sheet layout s ≡ Err r → with_sheet s refused over ≡ refused r
  unfolding with_sheet
  sheet_refused r e = rw (e, with_sheet)

  -- otherwise the job is what is done over the sheet's problem
  pub sheet_kept : Keeps layout s → with_sheet s refused over ≡ over (problem_of layout s)
  unfolding with_sheet
  sheet_kept K = rw (K, with_sheet)

  -- what holds of both holds of the job
  pub sheet_each : (Q : A → Type 0) → ((r : SheetRefusal) → read_sheet layout s ≡ Err r → Q (refused r)) → (Keeps layout s → Q (over (problem_of layout s))) → Q (with_sheet s refused over)
  sheet_each Q x y = elim (sheet_or s) [ inl (r, e) ↦ subst Q (sym (sheet_refused r e)) (x r e) | inr K ↦ subst Q (sym (sheet_kept K)) (y K) ]

-- the same sheet for two jobs that are refused alike: what holds of both answers, where it is refused and where it is not
pub sheet_both : {A : Type 0} (s : List ℕ) (refused : SheetRefusal → A) (over other : Problem → A) (Q : A → A → Type 0) → ((r : SheetRefusal) → Q (refused r) (refused r))
    → (Keeps layout s → Q (over (problem_of layout s)) (other (problem_of layout s))) → Q (with_sheet s refused over) (with_sheet s refused other)
sheet_both s refused over other Q x y =
    elim (sheet_or s) [
      | inl (r, e) ↦ rw (sheet_refused s refused over r e, sheet_refused s refused other r e) (x r)
      | inr K ↦ rw (sheet_kept s refused over K, sheet_kept s refused other K) (y K)
    ]
