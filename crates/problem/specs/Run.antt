-- docs/FORMAT.md, "The run": records, lawful records and traces, the next step in the required order, the run and its end. What reads
-- the slide rule takes a rulebook, and a name that ends in _by; the name without it is the same under the rulebook in force.
use Rattle.std.specs.Prelude.{Bool, true, false, ◌&&◌, List, [], ◌∷◌, ℕ, zero, suc, Option, Some, None, is_some}
use Rattle.bounded.specs.Quantifiers.{any_below}
use Rattle.problem.specs.Problem.{Problem, State, none_empty, unsupported, snake, triangle, neighbourhood, snake_substitution, first_break, cover_asked, remove, eliminate, live_count}
use Rattle.problem.specs.Rulebook.{Rulebook, in_force}
use Rattle.problem.specs.Record.{effect_of}
use Rattle.problem.specs.declared.Record.{Record}
use Rattle.problem.specs.declared.Record.TheVariants.{Unsupported, Snake, Triangle, Neighbourhood, SnakeSubstitution}
use Rattle.problem.specs.declared.Effect.{Effect}
use Rattle.problem.specs.declared.Effect.TheVariants.{Removes, Eliminates}
use Rattle.problem.specs.declared.End.{End}
use Rattle.problem.specs.declared.End.TheVariants.{Impossible, Solved, Rest}

-- ---- one record

-- the rule of the record's kind holds for its fields
unfoldable pub holds_by : (book : Rulebook) → Problem → State → Record → Bool
holds_by book P s (Unsupported i b k) = unsupported P s i b k
holds_by book P s (Snake i v) = snake P s i v
holds_by book P s (Triangle i j) = triangle P s i j
holds_by book P s (Neighbourhood i b a) = neighbourhood P s i b a
holds_by book P s (SnakeSubstitution i b a) = snake_substitution P s book.spares i b a

-- "No step is taken once some item in has no setting on."
unfoldable pub lawful_by : (book : Rulebook) → Problem → State → Record → Bool
lawful_by book P s r = none_empty P s && holds_by book P s r

abbrev pub holds : Problem → State → Record → Bool
holds = holds_by in_force

abbrev pub lawful : Problem → State → Record → Bool
lawful = lawful_by in_force

-- what is named of a record that is not lawful: where its cover breaks, for a record of kind 4 that asks nothing else in vain, and nothing
-- for every other cause
unfoldable pub broken_cover : Problem → State → Record → Option (ℕ × ℕ)
broken_cover P s (Neighbourhood i b a) = elim (cover_asked P s i b a) [ true ↦ first_break P s i b a | false ↦ None ]
broken_cover P s (Unsupported i b k) = None
broken_cover P s (Snake i v) = None
broken_cover P s (Triangle i j) = None
broken_cover P s (SnakeSubstitution i b a) = None

-- the state after a step that does this
abbrev pub after_effect : Problem → State → Effect → State
after_effect P s (Removes i b) = remove P s i b
after_effect P s (Eliminates i) = eliminate P s i

-- the state after the step
unfoldable pub after : Problem → State → Record → State
after P s r = after_effect P s (effect_of r)

-- ---- a trace

-- each record is lawful in the state reached
unfoldable pub lawful_trace_by : (book : Rulebook) → Problem → State → List Record → Bool
lawful_trace_by book P s [] = true
lawful_trace_by book P s (r ∷ t) = elim (lawful_by book P s r) [ true ↦ lawful_trace_by book P (after P s r) t | false ↦ false ]

abbrev pub lawful_trace : Problem → State → List Record → Bool
lawful_trace = lawful_trace_by in_force

-- the state that a trace leads to
unfoldable pub after_trace : Problem → State → List Record → State
after_trace P s [] = s
after_trace P s (r ∷ t) = after_trace P (after P s r) t

-- ---- "the next step is of the lowest kind that holds anywhere, then the lowest i, then the lowest third field, then the lowest fourth"

-- the step where the test holds
unfoldable pub step_if : Bool → Record → Option Record
step_if true r = Some r
step_if false r = None

-- a step was found
abbrev pub is_step : Option Record → Bool
is_step = is_some

-- what f finds at the lowest number below n at which it finds a step
unfoldable pub first : ℕ → (ℕ → Option Record) → Option Record
first zero f = None
first (suc n) f = elim (f zero) [ Some r ↦ Some r | None ↦ first n (λ k. f (suc k)) ]

-- one more than the last kind
abbrev pub kind_bound : ℕ
kind_bound = 6

module _ (P : Problem) (s : State) where
  -- the lowest step of each kind
  unfoldable pub next_unsupported : Option Record
  next_unsupported = first P.n (λ i. first (P.size i) (λ b. first P.n (λ k. step_if (unsupported P s i b k) (Unsupported i b k))))

  unfoldable pub next_snake : Option Record
  next_snake = first P.n (λ i. first (P.size i) (λ v. step_if (snake P s i v) (Snake i v)))

  unfoldable pub next_triangle : Option Record
  next_triangle = first P.n (λ i. first P.n (λ j. step_if (triangle P s i j) (Triangle i j)))

  unfoldable pub next_neighbourhood : Option Record
  next_neighbourhood = first P.n (λ i. first (P.size i) (λ b. first (P.size i) (λ a. step_if (neighbourhood P s i b a) (Neighbourhood i b a))))

module _ (book : Rulebook) (P : Problem) (s : State) where
  -- the lowest slide
  unfoldable pub next_snake_substitution_by : Option Record
  next_snake_substitution_by =
      first P.n (λ i. first (P.size i) (λ b. first (P.size i) (λ a. step_if (snake_substitution P s book.spares i b a) (SnakeSubstitution i b a))))

  -- the kinds in their order; no step is of another number
  unfoldable pub next_of_kind_by : ℕ → Option Record
  next_of_kind_by zero = None
  next_of_kind_by (suc zero) = next_unsupported P s
  next_of_kind_by (suc (suc zero)) = next_snake P s
  next_of_kind_by (suc (suc (suc zero))) = next_triangle P s
  next_of_kind_by (suc (suc (suc (suc zero)))) = next_neighbourhood P s
  next_of_kind_by (suc (suc (suc (suc (suc zero))))) = next_snake_substitution_by
  next_of_kind_by (suc (suc (suc (suc (suc (suc k)))))) = None

  unfoldable pub next_by : Option Record
  next_by = elim (none_empty P s) [ true ↦ first kind_bound next_of_kind_by | false ↦ None ]

abbrev pub next_snake_substitution : Problem → State → Option Record
next_snake_substitution = next_snake_substitution_by in_force

abbrev pub next_of_kind : Problem → State → ℕ → Option Record
next_of_kind = next_of_kind_by in_force

abbrev pub next : Problem → State → Option Record
next = next_by in_force

-- ---- the run

-- the records of at most f steps
unfoldable pub run_from_by : (book : Rulebook) → ℕ → Problem → State → List Record
run_from_by book zero P s = []
run_from_by book (suc f) P s = elim (next_by book P s) [ None ↦ [] | Some r ↦ r ∷ run_from_by book f P (after P s r) ]

-- the run from a state to its end. Each step uses up a setting that was on, so that as many steps as settings are on are enough.
unfoldable pub run_by : (book : Rulebook) → Problem → State → List Record
run_by book P s = run_from_by book (suc (live_count P s)) P s

abbrev pub run_from : ℕ → Problem → State → List Record
run_from = run_from_by in_force

abbrev pub run : Problem → State → List Record
run = run_by in_force

-- "The end is impossible (an item in has no setting on), solved (no item in) or rest (items in, no rule holds)."
unfoldable pub end_of : Problem → State → End
end_of P s = elim (none_empty P s) [ false ↦ Impossible | true ↦ elim (any_below P.n s.active) [ true ↦ Rest | false ↦ Solved ] ]
