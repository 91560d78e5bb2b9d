-- What the rule tests in code may rely on: the table, the state, and the values that they are asked about.
use Rattle.std.specs.Prelude.{◌≡◌, not, List, ℕ, ◌<◌, ◌^◌, T}
use Rattle.bounded.specs.Mask.{bit}
use Rattle.problem.specs.Masks.{state_of, Proper}
use Rattle.problem.specs.Held.{far_from, held, held_value, RowTable}
use Rattle.problem.specs.declared.Masks.{Masks}
use Rattle.problem.specs.Sentences.{Fits}

-- a table that can be read, and a state of the problem that it holds
pub record Ready (t : List ℕ) (m : Masks) : Type 0 where
  pub table : RowTable t
  pub proper : Proper m
  pub fits : Fits (held t) (state_of m)

-- a is a value of variable i of the problem
pub record Value (t : List ℕ) (i a : ℕ) : Type 0 where
  pub variable : i < 32
  pub value : a < 16
  pub listed : T (held_value t i a)

-- the members of a set are values of variable j of the problem
pub record Values (t : List ℕ) (j set : ℕ) : Type 0 where
  pub small : set < 2 ^ 16
  pub within : (c : ℕ) → T (bit set c) → c < (held t).size j

-- a set of neighbours of i: it has every variable that has a block with i
pub record Near (t : List ℕ) (i set : ℕ) : Type 0 where
  pub small : set < 2 ^ 32
  pub all : (j : ℕ) → j < 32 → bit set j ≡ not (far_from t i j)

-- the members of a set are in the domain of i
pub record Among (m : Masks) (i set : ℕ) : Type 0 where
  pub live : (u : ℕ) → T (bit set u) → T ((state_of m).live i u)
