-- What the parts of the look for a pigeonhole rely on and promise: more variables that must all differ than values for them. Every answer is
-- one-sided: true says that it is so, and false says nothing.
use Rattle.std.specs.Prelude.{◌≡◌, Bool, true, List, ◌≢◌, ℕ, T, get_or}
use Rattle.bounded.specs.Mask.{bit}
use Rattle.problem.specs.Problem.{Problem, State}
use Rattle.problem.specs.Sentences.{Allowed, Solvable}

-- no value of both sets is allowed at i and at j at once
pub record Apart (P : Problem) (x y i j : ℕ) : Type 0 where
  pub never : (a : ℕ) → T (bit x a) → T (bit y a) → Allowed P i a j a → ⊥

-- where b holds, i and j are apart
pub record ApartIf (P : Problem) (x y i j : ℕ) (b : Bool) : Type 0 where
  pub apart : b ≡ true → Apart P x y i j

-- every variable of the set x is apart from i, by the sets that the two have
pub record AllApart (P : Problem) (on : List ℕ) (i x : ℕ) : Type 0 where
  pub each : (j : ℕ) → T (bit x j) → Apart P (get_or on i 0) (get_or on j 0) i j

-- entry i of `far` has only variables that are apart from i
pub record Rows (P : Problem) (on far : List ℕ) : Type 0 where
  pub row : (i : ℕ) → AllApart P on i (get_or far i 0)

-- q gives each active variable a value of its set, and no two an equal one where `far` has them
pub record Differs (active : ℕ) (on far : List ℕ) (q : ℕ → ℕ) : Type 0 where
  pub among : (i : ℕ) → T (bit active i) → T (bit (get_or on i 0) (q i))
  pub differ : (i j : ℕ) → T (bit active i) → T (bit active j) → i ≢ j → T (bit (get_or far i 0) j) → q i ≢ q j

-- where b holds, there is no such q
pub record Pigeonhole (active : ℕ) (on far : List ℕ) (b : Bool) : Type 0 where
  pub none : b ≡ true → (q : ℕ → ℕ) → Differs active on far q → ⊥

-- where b holds, the state has no solution
pub record Unsolved (P : Problem) (s : State) (b : Bool) : Type 0 where
  pub none : b ≡ true → Solvable P s → ⊥
