-- docs/FORMAT.md, "Picking a plan": the first plan of a state, "lowest item first, lowest setting first". Every choice of settings for the
-- items in is gone through in that order, and the first that is a plan is the answer. This says what is asked for and nothing of how it is
-- found: the code turns back early.
use Rattle.std.specs.Prelude.{◌≡◌, true, false, cond, List, ◌⊎◌, ℕ, zero, suc, ◌<◌, T, set}
use Rattle.problem.specs.Problem.{Problem, State}
use Rattle.problem.specs.PutBack.{solves, plan_of}
use Rattle.first_plan.specs.declared.Found.{Found}

-- the plan w is found; or there is none, and w is left as it was
abbrev pub found : List ℕ → Found
found w = record { ok = true; plan = w }

abbrev pub none : List ℕ → Found
none w = record { ok = false; plan = w }

-- r where it is a plan, else s
unfoldable pub or_else : Found → Found → Found
or_else r s = cond r.ok r s

-- the first plan among f v, f (v + 1), .., k of them: settings rising
unfoldable pub first_of : (k v : ℕ) → (ℕ → Found) → List ℕ → Found
first_of zero v f w = none w
first_of (suc k) v f w = or_else (f v) (first_of k (suc v) f w)

-- the first plan that has the settings of w at the items before i; the d items from i on are left to choose for: items rising. An item in is
-- given each of its settings in turn, an item out keeps what w says of it, and the choice made is asked whether it is a plan of the state.
unfoldable pub first_from : Problem → State → (d i : ℕ) → List ℕ → Found
first_from P s zero i w = record { ok = solves P s (plan_of w); plan = w }
first_from P s (suc d) i w = cond (s.active i) (first_of (P.size i) 0 (λ v. first_from P s d (suc i) (set w i v)) w) (first_from P s d (suc i) w)

-- the first plan of the state s; items out keep what w says of them
unfoldable pub first_plan : Problem → State → List ℕ → Found
first_plan P s w = first_from P s P.n 0 w

-- ---- the order

-- "lowest item first, lowest setting first": p is q at every item in, or has the lower setting at the lowest item in at which they differ
abbrev pub NotAfter : State → (p q : ℕ → ℕ) → Type 0
NotAfter s p q =
    ((j : ℕ) → T (s.active j) → p j ≡ q j)
    ⊎ ((k : ℕ) × T (s.active k) × (p k < q k) × ((j : ℕ) → j < k → T (s.active j) → p j ≡ q j))
