-- What the parts of the search in code rely on and promise. Values may go off that no solution has, in any order and as many as the code
-- finds: the first plan stays the same.
use Rattle.std.specs.Prelude.{◌≡◌, Bool, not, ◌&&◌, List, Option, None, Some, ℕ, ◌<◌, T, eqb, get_or}
use Rattle.bounded.specs.Quantifiers.{lowest}
use Rattle.bounded.specs.Mask.{bit}
use Rattle.problem.specs.Problem.{Problem, State}
use Rattle.problem.specs.Held.{held}
use Rattle.problem.specs.Masks.{state_of}
use Rattle.problem.specs.declared.Masks.{Masks}
use Rattle.problem.specs.Sentences.{Active, Live, Allowed, Solution}
use Rattle.held.specs.Ready.{Ready}
use Rattle.first_plan.specs.declared.Found.{Found}

-- an answer of the search, with the plan lent to it
abbrev pub answer : Bool → List ℕ → Found
answer ok plan = record { ok = ok; plan = plan }

-- variable i has the value v: it is active no more, and every other domain loses what is barred with v
unfoldable pub choose : Problem → State → (i v : ℕ) → State
choose P s i v =
    record {
      active = λ j. s.active j && not (eqb j i);
      live = λ j w. s.live j w && (not (eqb j i) && P.allowed i v j w);
    }

-- i is the lowest active variable
pub record NextChoice (m : Masks) (i : ℕ) : Type 0 where
  pub variable : i < 32
  pub lowest : i ≡ lowest 32 (bit m.active)

-- r has of the values `was` of j all with a support in the domain of i
pub record KeepsSupported (P : Problem) (was domain i j r : ℕ) : Type 0 where
  pub within : (c : ℕ) → T (bit r c) → T (bit was c)
  pub keeps : (c a : ℕ) → T (bit was c) → T (bit domain a) → Allowed P i a j c → T (bit r c)

-- r has the active variables of s, no new value, and every solution of s
pub record Pruned (t : List ℕ) (s : State) (r : Masks) : Type 0 where
  pub ready : Ready t r
  pub active : (j : ℕ) → s.active j ≡ (state_of r).active j
  pub within : (j a : ℕ) → Live (state_of r) j a → Live s j a
  pub keeps : (q : ℕ → ℕ) → Solution (held t) s q → Solution (held t) (state_of r) q

-- an active variable has an empty domain
pub record Emptied (m : Masks) : Type 0 where
  pub variable : ℕ
  pub active : Active (state_of m) variable
  pub empty : get_or m.domains variable 0 ≡ 0

-- the masks m became `left`; where the answer is none, an active variable has an empty domain
pub record Sweeps (t : List ℕ) (m : Masks) (r : Option ℕ) (left : Masks) : Type 0 where
  pub narrowed : Pruned t (state_of m) left
  pub dead : r ≡ None → Emptied left

-- the state s, narrowed; or none, where narrowing it emptied a domain: so it has no solution
pub record Opens (t : List ℕ) (s : State) (o : Option Masks) : Type 0 where
  pub narrowed : (m : Masks) → o ≡ Some m → Pruned t s m
  pub closed : o ≡ None → (m : Masks) × Pruned t s m × Emptied m
