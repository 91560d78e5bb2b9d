-- Bench sheets under the rulebook before request Four, in both versions: a run that took no step where it now slides, and a slide that putting
-- back refused with 17.
use Rattle.std.specs.Prelude.{◌≡◌, List, [], ◌∷◌, ◌++◌, ℕ, ◌-◌, length, Err}
use Rattle.problem.specs.Rulebook.{before_four}
use Rattle.jobs.specs.Sheets.{lent, sheet_b, short_b, sheet_k, short_k, sheet_l, short_l}
use Rattle.put_back.specs.declared.PutBackRefusal.TheVariants as refusal
use Rattle.rulebooks.specs.Under.{run_job_under, put_back_job_under}

-- the trace of a run of the sheet s with a buffer of b bytes
abbrev pub RanBefore : (s : List ℕ) (b : ℕ) (trace : List ℕ) → Type 0
RanBefore s b t = (run_job_under before_four s (lent b)).buffer ≡ t ++ lent (b - length t)

-- putting back on the sheet s is refused with 17, for record 0
abbrev pub NotLawfulBefore : (s trace plan : List ℕ) → Type 0
NotLawfulBefore s t p = put_back_job_under before_four s t p (lent (length p)) ≡ record { answer = Err (refusal.Unlawful 0 255 255); result = lent (length p) }

-- the trace of one slide of item 0, from 0 to 1
abbrev pub slid : List ℕ
slid = 1 ∷ 4 ∷ 5 ∷ 0 ∷ 0 ∷ 1 ∷ []

pub record RanBeforeFour : Type 0 where
  pub sheet_b_lem : NotLawfulBefore sheet_b slid (1 ∷ 0 ∷ [])
  pub short_b_lem : NotLawfulBefore short_b slid (1 ∷ 0 ∷ [])
  pub sheet_k_lem : RanBefore sheet_k 36 (1 ∷ [])
  pub short_k_lem : RanBefore short_k 36 (1 ∷ [])
  pub sheet_l_lem : RanBefore sheet_l 41 (1 ∷ [])
  pub short_l_lem : RanBefore short_l 41 (1 ∷ [])
