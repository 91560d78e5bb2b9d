-- A question: is there any plan within these sets? The answer is a plan or that there is none; which plan is left open, and so is the order in
-- which it is looked for. Weights, the order of variables and how far the sets are narrowed on the way stand in no statement.
use Rattle.std.specs.Prelude.{◌≡◌, Bool, true, false, List, ◌≢◌, ℕ, ◌^◌, ◌<◌, T, length, get_or}
use Rattle.bounded.specs.Quantifiers.{lowest}
use Rattle.bounded.specs.Mask.{bit}
use Rattle.lines.specs.Lines.{line_word}

-- 32 sets of values, one a variable. A variable whose set is empty is none that the question asks about.
pub record Sets (on : List ℕ) : Type 0 where
  pub long : length on ≡ 32
  pub small : (j : ℕ) → j < 32 → get_or on j 0 < 2 ^ 16

-- the variable j is asked about
abbrev pub Queried : List ℕ → ℕ → Type 0
Queried on j = (j < 32) × (get_or on j 0 ≢ 0)

-- a plan within the sets: q gives each variable asked about a value of its set, and the line of each value has the values of all
pub record PlanWithin (lines on : List ℕ) (q : ℕ → ℕ) : Type 0 where
  pub among : (j : ℕ) → Queried on j → T (bit (get_or on j 0) (q j))
  pub agree : (k j : ℕ) → Queried on k → Queried on j → T (bit (line_word lines k (q k) j) (q j))

-- the lowest value of each set
abbrev pub lowest_of : List ℕ → ℕ → ℕ
lowest_of on j = lowest 16 (bit (get_or on j 0))

-- the answer to the question of the sets `on`: yes, and the sets left have a plan; or no, and there is none
pub record AnyPlan (lines on : List ℕ) (r : Bool) (left : List ℕ) : Type 0 where
  pub sets : Sets left
  pub yes : r ≡ true → PlanWithin lines on (lowest_of left)
  pub no : r ≡ false → (q : ℕ → ℕ) → PlanWithin lines on q → ⊥
