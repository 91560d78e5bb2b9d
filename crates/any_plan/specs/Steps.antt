-- What the parts of the search for any plan rely on and promise.
use Rattle.std.specs.Prelude.{◌≡◌, Bool, true, false, not, ◌&&◌, List, Option, None, Some, ◌≢◌, ℕ, ◌+◌, ◌<◌, T, eqb, length, get_or}
use Rattle.std.specs.Int.Bits.{bit_and}
use Rattle.bounded.specs.Quantifiers.{lowest, any_below, count_below}
use Rattle.bounded.specs.Mask.{bit, without}
use Rattle.lines.specs.Lines.{line_start}
use Rattle.any_plan.specs.Question.{Sets, Queried, PlanWithin}

-- what is left of a set without its lowest value: nothing where it has at most one
abbrev pub without_lowest : ℕ → ℕ
without_lowest x = without 16 x (lowest 16 (bit x))

-- how many variables have more than one value: that many calls of the search can still lie within one another
abbrev pub open_at : List ℕ → ℕ → Bool
open_at on j = not (eqb (without_lowest (get_or on j 0)) 0)

abbrev pub open_count : List ℕ → ℕ
open_count on = count_below 32 (open_at on)

-- of the sets `on` these are left: no new value, no set emptied, every plan kept
pub record Pruned (lines on left : List ℕ) : Type 0 where
  pub sets : Sets left
  pub part : (j c : ℕ) → j < 32 → T (bit (get_or left j 0) c) → T (bit (get_or on j 0) c)
  pub some : (j : ℕ) → Queried on j → get_or left j 0 ≢ 0
  pub plans : (q : ℕ → ℕ) → PlanWithin lines on q → PlanWithin lines left q

-- the sets `on` became `left`; where the answer is `dead`, they have no plan
pub record Settled (lines on : List ℕ) (dead : Bool) (left : List ℕ) : Type 0 where
  pub sets : Sets left
  pub kept : dead ≡ false → Pruned lines on left
  pub closed : dead ≡ true → (q : ℕ → ℕ) → PlanWithin lines on q → ⊥

-- what a set is once it is met with a word of a line, and whether that takes its last value
abbrev pub met_at : (lines on : List ℕ) (p j : ℕ) → ℕ
met_at lines on p j = bit_and (get_or on j 0) (get_or lines (p + j) 0)

abbrev pub emptied_at : (lines on : List ℕ) (p j : ℕ) → Bool
emptied_at lines on p j = not (eqb (get_or on j 0) 0) && eqb (met_at lines on p j) 0

-- every set is met with the line at p; whether one is emptied
pub record Met (lines on : List ℕ) (p : ℕ) (dead : Bool) (left : List ℕ) : Type 0 where
  pub long : length left ≡ 32
  pub each : (j : ℕ) → j < 32 → get_or left j 0 ≡ met_at lines on p j
  pub emptied : dead ≡ any_below 32 (emptied_at lines on p)

-- a variable that has more than one value; or none, and no variable has
pub record Next (on : List ℕ) (r : Option ℕ) : Type 0 where
  pub some : (i : ℕ) → r ≡ Some i → (i < 32) × (without_lowest (get_or on i 0) ≢ 0)
  pub none : r ≡ None → (j : ℕ) → j < 32 → without_lowest (get_or on j 0) ≡ 0

-- a set has a value that the line at p does not have
abbrev pub barred_at : (lines on : List ℕ) (p j : ℕ) → Bool
barred_at lines on p j = not (eqb (met_at lines on p j) (get_or on j 0))

-- where k is asked about, the line of its lowest value has every value of every set
pub record LineAgrees (lines on : List ℕ) (k : ℕ) (r : Bool) : Type 0 where
  pub yes : r ≡ true → Queried on k → (j : ℕ) → j < 32 → barred_at lines on (line_start k (lowest 16 (bit (get_or on k 0)))) j ≡ false
  pub no : r ≡ false → Queried on k × ((j : ℕ) × (j < 32) × (barred_at lines on (line_start k (lowest 16 (bit (get_or on k 0)))) j ≡ true))
