-- What the parts of the search in code rely on and promise.
use Rattle.std.specs.Prelude.{◌≡◌, List, Option, None, Some, ◌≢◌, ℕ, length}
use Rattle.problem.specs.Problem.{Problem, State}
use Rattle.problem.specs.Masks.{masks_of}
use Rattle.problem.specs.declared.Masks.{Masks}
use Rattle.problem.specs.Sentences.{Solution}
use Rattle.any_plan.specs.Question.{lowest_of}
use Rattle.first_plan.specs.Steps.{choose}

-- a plan of the state is known: the lowest value of each of these sets
pub record Knows (P : Problem) (s : State) (known : List ℕ) : Type 0 where
  pub long : length known ≡ 32
  pub plan : Solution P s (lowest_of known)

-- the answer to the question of a state: a plan that is known then, or none, and there is none
pub record Answered (P : Problem) (s : State) (r : Option (List ℕ)) : Type 0 where
  pub yes : (known : List ℕ) → r ≡ Some known → Knows P s known
  pub no : r ≡ None → (q : ℕ → ℕ) → Solution P s q → ⊥

-- whether a plan of the state has v at i: the masks with that choice made, and such a plan is known; else no plan has, and one is known still
pub record GoesOn (P : Problem) (s : State) (i v : ℕ) (r : Option Masks) (known : List ℕ) : Type 0 where
  pub knows : Knows P s known
  pub yes : (m : Masks) → r ≡ Some m → (m ≡ masks_of (choose P s i v)) × (lowest_of known i ≡ v)
  pub no : r ≡ None → (q : ℕ → ℕ) → Solution P s q → q i ≢ v
