-- Snake substitution, the format's slide, in the parts that the code tests: at one other variable, and all of a variable at once.
use Rattle.std.specs.Prelude.{◌≡◌, Bool, ◌≢◌, ◌↔◌, List, ℕ, ◌<◌, T, length, get_or, Option}
use Rattle.bounded.specs.Quantifiers.{imp}
use Rattle.bounded.specs.Mask.{bit}
use Rattle.problem.specs.declared.Record.{Record}
use Rattle.problem.specs.Problem.{Problem, State, all_live, any_live, substitution_serves, substitution_spares}
use Rattle.problem.specs.Run.{step_if, first}
use Rattle.problem.specs.declared.Record.TheVariants as record·
use Rattle.problem.specs.Sentences.{Live, Allowed, SubstitutionServes, SnakeSubstitution}
use Rattle.rests.specs.Rests.{Rests, Of}

module _ (P : Problem) (s : State) where
  unfoldable pub substitution_at : (i b a k : ℕ) → Bool
  substitution_at i b a k = all_live P s k (λ d. imp (P.allowed i b k d) (any_live P s k (λ e. substitution_serves P s substitution_spares i a k d e)))

-- ---- all slides of a variable: word b of `goals` has the values that its value b may still slide to

-- a is a goal of b
abbrev pub Goal : (goals : List ℕ) (b a : ℕ) → Type 0
Goal goals b a = T (bit (get_or goals b 0) a)

-- the lowest step that slides b of i to a goal, one of a word
unfoldable pub lowest_goal : (i b word : ℕ) → Option Record
lowest_goal i b word = first 16 (λ a. step_if (bit word a) (record·.SnakeSubstitution i b a))

-- goals are of values of i
pub record Goals (s : State) (i : ℕ) (goals : List ℕ) : Type 0 where
  pub long : length goals ≡ 16
  pub live : (b a : ℕ) → Goal goals b a → Live s i b × Live s i a

-- each value of the domain may slide to each other
pub record AllGoals (domain : ℕ) (goals : List ℕ) : Type 0 where
  pub long : length goals ≡ 16
  pub goal : (b a : ℕ) → Goal goals b a ↔ (T (bit domain b) × T (bit domain a) × (a ≢ b))

-- there is none
pub record NoGoal (goals : List ℕ) : Type 0 where
  pub none : (b a : ℕ) → Goal goals b a → ⊥

-- the values of a set have no goal beside it
pub record Closed (set : ℕ) (goals : List ℕ) : Type 0 where
  pub within : (b a : ℕ) → a < 16 → T (bit set b) → Goal goals b a → T (bit set a)

-- what is left of the goals where the values of `set` keep those of `kept`
pub record Limited (set kept : ℕ) (before after : List ℕ) : Type 0 where
  pub long : length after ≡ 16
  pub to : (b a : ℕ) → Goal after b a → Goal before b a × (T (bit set b) → T (bit kept a))
  pub from : (b a : ℕ) → a < 16 → Goal before b a → (T (bit set b) → T (bit kept a)) → Goal after b a

module _ (P : Problem) (s : State) (i : ℕ) where
  -- where i has a, some value of k serves for d
  abbrev pub Served : (k d a : ℕ) → Type 0
  Served k d a = (e : ℕ) × Live s k e × SubstitutionServes P s substitution_spares i a k d e

  -- What is left of the goals once the values `asked k d` were: a goal that is left has what each of them asks, and one that is not is no
  -- slide; that rests on the variables of a word.
  pub record Narrowed (asked : ℕ → ℕ → Type 0) (before after : List ℕ) (rests : ℕ) : Type 0 where
    pub long : length after ≡ 16
    pub part : (b a : ℕ) → Goal after b a → Goal before b a
    pub served : (b a : ℕ) → Goal after b a → (k d : ℕ) → asked k d → Live s k d → Allowed P i b k d → Served k d a
    pub gone : (b a : ℕ) → Goal before b a → (Goal after b a → ⊥) → Rests P s (λ q. SnakeSubstitution P q substitution_spares i b a) (Of rests)

  -- the goals left are the substitutions of i; where there is none, that rests on the variables of a word
  pub record AllTried (goals : List ℕ) (rests : ℕ) : Type 0 where
    pub holds : (b a : ℕ) → Goal goals b a ↔ SnakeSubstitution P s substitution_spares i b a
    pub fails : ((b a : ℕ) → Goal goals b a → ⊥) → Rests P s (λ q. (b : ℕ) × (a : ℕ) × SnakeSubstitution P q substitution_spares i b a) (Of rests)
