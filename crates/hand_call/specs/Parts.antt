-- What the parts of a hand call say to one another, as the code tests it: loops to 32 and 16.
use Rattle.std.specs.Prelude.{Bool, ◌&&◌, ℕ, ltb, Ok}
use Rattle.bounded.specs.Quantifiers.{imp, all_below}
use Rattle.problem.specs.Problem.{Problem, State, max_values, eliminate}
use Rattle.hand.specs.Hand.{hand_of}
use Rattle.hand.specs.declared.CallAnswer.{CallAnswer}

module _ (P : Problem) (s : State) where
  -- cause 11 does not speak against what the state says of variable i
  unfoldable pub fits_at : ℕ → Bool
  fits_at i = imp (s.active i) (ltb i P.n) && all_below max_values (λ a. imp (s.live i a) (s.active i && ltb a (P.size i)))

-- what a call answers: the snake step for i with v
abbrev pub call_eliminated : Problem → State → (i v : ℕ) → CallAnswer
call_eliminated P s i v = record { outcome = Ok v; state = hand_of (eliminate P s i) }
