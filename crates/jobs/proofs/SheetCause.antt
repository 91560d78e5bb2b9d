-- Why a job answers as it does, from why it does over a problem: the sheet's own faults come first. Assumes nothing.
use mathlib.Core.Path.{◌≡◌, refl, sym, ap, ◌∙◌, subst}
use mathlib.Core.List.{List}
use mathlib.Core.Logic.{◌⊎◌, inl, inr, ◌↔◌}
use Prim.Native.Nat.{ℕ}
use Rattle.bounded.proofs.Causes.{cause_iff}
use Rattle.problem.specs.Problem.{Problem}
use Rattle.sheet.specs.Sheet.{layout, read_sheet, Keeps}
use Rattle.sheet.specs.Relation.{problem_of}
use Rattle.sheet.specs.declared.SheetRefusal.{SheetRefusal}
use Rattle.std.specs.Prelude.{Err}
use Rattle.jobs.specs.WithSheet.{with_sheet}
use Rattle.jobs.specs.Causes.{Whose, Sheets, Own, SheetCause}
use Rattle.jobs.proofs.Opened.{sheet_or, sheet_refused, sheet_kept}

-- a sheet's refusal is answered as `refused` of it
abbrev pub Told : {O : Type 0} → (SheetRefusal → O) → Whose → O → Type 0
Told refused (Sheets r) o = o ≡ refused r
Told refused Own o = Unit {0}

-- a job, with the answer `out` in what it leaves; over the sheet's problem each answer has its cause `Over`, which no refusal of a sheet has
module _ {A O : Type 0} (s : List ℕ) (refused : SheetRefusal → A) (over : Problem → A) (out : A → O) (whose : O → Whose) where
  module _
      (told : (o : O) → Told (λ r. out (refused r)) (whose o) o)
      (sheets : (r : SheetRefusal) → whose (out (refused r)) ≡ Sheets r)
      (Over : Problem → O → Type 0)
      (none : (P : Problem) (r : SheetRefusal) → Over P (out (refused r)) → ⊥)
      (over-iff : Keeps layout s → (o : O) → (out (over (problem_of layout s)) ≡ o) ↔ Over (problem_of layout s) o) where
    cause_answers : (o : O) → SheetCause s (whose o) (λ P. Over P o) → out (with_sheet s refused over) ≡ o
    cause_answers o = go (whose o) (told o)
      where
        go : (w : Whose) → Told (λ r. out (refused r)) w o → SheetCause s w (λ P. Over P o) → out (with_sheet s refused over) ≡ o
        go (Sheets r) q e = ap out (sheet_refused s refused over r e) ∙ sym q
        go Own q (K, x) = ap out (sheet_kept s refused over K) ∙ (over-iff K o).1 x

    some_cause : (o : O) × SheetCause s (whose o) (λ P. Over P o)
    some_cause = by_sheet (sheet_or s)
      where
        own : Keeps layout s → (o : O) → Over (problem_of layout s) o → (w : Whose) → Told (λ r. out (refused r)) w o → SheetCause s w (λ P. Over P o)
        own K o x (Sheets r) q = absurd (none (problem_of layout s) r (subst (Over (problem_of layout s)) q x))
        own K o x Own q = (K, x)

        by_sheet : ((r : SheetRefusal) × (read_sheet layout s ≡ Err r)) ⊎ Keeps layout s → (o : O) × SheetCause s (whose o) (λ P. Over P o)
        by_sheet (inl (r, e)) = (out (refused r), subst (λ (w : Whose). SheetCause s w (λ P. Over P (out (refused r)))) (sym (sheets r)) e)
        by_sheet (inr K) = let o = out (over (problem_of layout s)) in (o, own K o ((over-iff K o).0 refl) (whose o) (told o))

    -- each answer over a sheet has its cause and no other
    pub sheet_iff : (o : O) → (out (with_sheet s refused over) ≡ o) ↔ SheetCause s (whose o) (λ P. Over P o)
    sheet_iff = cause_iff (out (with_sheet s refused over)) (λ o. SheetCause s (whose o) (λ P. Over P o)) cause_answers some_cause
