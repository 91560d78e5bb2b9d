-- The snake rule, the format's kind 2, in the parts that the code tests: at one other variable.
use Rattle.std.specs.Prelude.{◌≡◌, Bool, not, ◌≢◌, ℕ, T}
use Rattle.bounded.specs.Quantifiers.{imp}
use Rattle.problem.specs.Problem.{Problem, State, all_live, any_live, snake_serves}
use Rattle.problem.specs.Sentences.{Snake}
use Rattle.rests.specs.Rests.{Rests, Of}

module _ (P : Problem) (s : State) where
  unfoldable pub snake_at : (i v j : ℕ) → Bool
  snake_at i v j = all_live P s j (λ w. imp (not (P.allowed i v j w)) (any_live P s j (λ w'. snake_serves P s i v j w w')))

  -- 0 where j has what the rule asks of it, else variables that the rule's failure rests on
  pub record AtOther (i v j r : ℕ) : Type 0 where
    pub holds : r ≡ 0 → T (snake_at i v j)
    pub fails : r ≢ 0 → Rests P s (λ q. Snake P q i v) (Of r)
