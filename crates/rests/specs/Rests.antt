-- What the failure of a rule rests on. Along a run domains only shrink, and what shows that a rule fails are values that are still there: one
-- without another in its place, and values that break each candidate for it. While these stay, the rule fails.
use Rattle.std.specs.Prelude.{◌≡◌, ◌≢◌, ℕ, T}
use Rattle.bounded.specs.Mask.{bit}
use Rattle.problem.specs.Problem.{Problem, State}
use Rattle.problem.specs.declared.Record.{Record}
use Rattle.problem.specs.Record.{effect_of, variable_of}
use Rattle.problem.specs.Sentences.{Active, Live, Fits, Substitutes}

-- ---- states that shrink

-- q has no active variable and no value in a domain that s has not
pub record Below (q s : State) : Type 0 where
  pub active : (l : ℕ) → Active q l → Active s l
  pub live : (l c : ℕ) → Live q l c → Live s l c

-- the values of a set that are in a domain in s are so in q: `set l c` for value c of variable l
abbrev pub Kept : (s q : State) (set : ℕ → ℕ → Type 0) → Type 0
Kept s q set = (l c : ℕ) → set l c → Live s l c → Live q l c

-- X fails in s, and in every smaller state that keeps the values of the set
abbrev pub Rests : Problem → State → (X : State → Type 0) (set : ℕ → ℕ → Type 0) → Type 0
Rests P s X set = (q : State) → Fits P q → Below q s → Kept s q set → X q → ⊥

-- the variable that a step changes
abbrev pub changed_by : Record → ℕ
changed_by r = variable_of (effect_of r)

-- ---- sets of values

-- every value of the variables of a word
abbrev pub Of : ℕ → ℕ → ℕ → Type 0
Of word l c = T (bit word l)

-- every value of every variable but one
abbrev pub Elsewhere : ℕ → ℕ → ℕ → Type 0
Elsewhere i l c = l ≢ i

-- ---- what a test answers

-- 0 where X holds, else a word of the variables that its failure rests on
pub record Tried (P : Problem) (s : State) (X : State → Type 0) (r : ℕ) : Type 0 where
  pub holds : r ≡ 0 → X s
  pub fails : r ≢ 0 → Rests P s X (Of r)

-- ---- what shows a failure

module _ (P : Problem) (s : State) (set : ℕ → ℕ → Type 0) where
  -- u of i does not substitute for v of j at some variable of `rest`, whose values are all of the set
  abbrev pub Broken : (rest : ℕ → Type 0) (i u j v : ℕ) → Type 0
  Broken rest i u j v = (l : ℕ) × rest l × ((c : ℕ) → set l c) × (Substitutes P s i u j v l → ⊥)

  -- each candidate, a value of i and of the set `good`, is broken
  abbrev pub Unserved : (rest good : ℕ → Type 0) (i j v : ℕ) → Type 0
  Unserved rest good i j v = (u : ℕ) → Live s i u → good u → Broken rest i u j v
