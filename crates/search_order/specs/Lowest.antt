-- The lowest step of a kind, field by field as any search goes: from a variable, and from a variable and the field after it. The bounds
-- serve for every table.
use Rattle.std.specs.Prelude.{ℕ, zero, suc, Option, None}
use Rattle.problem.specs.declared.Record.{Record}
use Rattle.problem.specs.Problem.{Problem, State, substitution_spares, unsupported, snake, triangle, neighbourhood, snake_substitution}
use Rattle.problem.specs.Run.{step_if, first}
use Rattle.problem.specs.declared.Record.TheVariants.{Unsupported, Snake, Triangle, Neighbourhood, SnakeSubstitution}

-- how many numbers a kind's second field is one of: variables in kind 3, values in the others
abbrev pub field_bound : (kind : ℕ) → ℕ
field_bound zero = 16
field_bound (suc zero) = 16
field_bound (suc (suc zero)) = 16
field_bound (suc (suc (suc zero))) = 32
field_bound (suc (suc (suc (suc k)))) = 16

module _ (P : Problem) (s : State) where
  -- the lowest step of a kind whose first fields are i and c; no step is of another number
  unfoldable pub step_at : (kind i c : ℕ) → Option Record
  step_at zero i c = None
  step_at (suc zero) i c = first 32 (λ k. step_if (unsupported P s i c k) (Unsupported i c k))
  step_at (suc (suc zero)) i c = step_if (snake P s i c) (Snake i c)
  step_at (suc (suc (suc zero))) i c = step_if (triangle P s i c) (Triangle i c)
  step_at (suc (suc (suc (suc zero)))) i c = first 16 (λ a. step_if (neighbourhood P s i c a) (Neighbourhood i c a))
  step_at (suc (suc (suc (suc (suc zero))))) i c = first 16 (λ a. step_if (snake_substitution P s substitution_spares i c a) (SnakeSubstitution i c a))
  step_at (suc (suc (suc (suc (suc (suc k)))))) i c = None

  -- and the lowest whose first field is i
  unfoldable pub step_from : (kind i : ℕ) → Option Record
  step_from kind i = first (field_bound kind) (step_at kind i)
