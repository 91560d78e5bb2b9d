-- What the parts of starting say to one another: a sweep, item after item, and when two states have the same settings on.
use Rattle.std.specs.Prelude.{Bool, not, ◌&&◌, ◌||◌, ℕ, zero, suc, eqb, get_or}
use Rattle.bounded.specs.Quantifiers.{all_below}
use Rattle.problem.specs.Problem.{Problem, State, max_variables}
use Rattle.problem.specs.Hand.{supported}
use Rattle.problem.specs.declared.Masks.{Masks}

-- one item: of its settings those with a partner at every other item stay on, and the other items keep theirs
unfoldable pub prune_at : Problem → State → ℕ → State
prune_at P s i = record { active = s.active; live = λ k a. s.live k a && (not (eqb k i) || supported P s k a) }

-- the items below k one after another, each judged by what those before it left
unfoldable pub prune_below : ℕ → Problem → State → State
prune_below zero P s = s
prune_below (suc k) P s = prune_at P (prune_below k P s) k

-- the domains of two states agree
unfoldable pub same_domains : Masks → Masks → Bool
same_domains x y = all_below max_variables (λ i. eqb (get_or x.domains i 0) (get_or y.domains i 0))
