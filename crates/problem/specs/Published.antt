-- The published rules, and what a step does. Each is stated as its paper has it, for the instance whose variables X are the active ones, whose
-- domains D hold the live values and whose relations R are the allowed pairs. proofs/Published.antt compares them with ours.
use Rattle.std.specs.Prelude.{◌≢◌, ◌↔◌, ℕ}
use Rattle.problem.specs.Problem.{Problem, State}
use Rattle.problem.specs.Sentences.{Active, Live, Allowed}
use Rattle.problem.specs.Record.{effect_of}
use Rattle.problem.specs.declared.Effect.{Effect}
use Rattle.problem.specs.declared.Effect.TheVariants.{Removes, Eliminates}
use Rattle.problem.specs.declared.Record.{Record}
use Rattle.problem.specs.declared.Record.TheVariants.{Unsupported, Snake, Triangle, Neighbourhood, SnakeSubstitution}

-- ---- both papers: support. Cooper, El Mouelhi and Terrioux, "Variable Elimination in Binary CSPs (Extended Abstract)", section 1, and
-- Cooper, "Strengthening neighbourhood substitution", section 2

module _ (P : Problem) (s : State) where
  -- "We say that v_i ∈ D(x_i) has a support at variable x_j if ∃ v_j ∈ D(x_j) such that (v_i, v_j) ∈ R_ij." The first paper calls such a
  -- pair a positive edge.
  abbrev pub HasSupport : (i v j : ℕ) → Type 0
  HasSupport i v j = (w : ℕ) × Live s j w × Allowed P i v j w

  -- "A binary CSP instance I is arc consistent (AC) if for all pairs of distinct variables x_i, x_j, each v_i ∈ D(x_i) has a support at
  -- x_j": b ∈ D(x_i) has none at x_k ∈ X \ {x_i}
  abbrev pub NoSupport : (i b k : ℕ) → Type 0
  NoSupport i b k = Live s i b × Active s k × (k ≢ i) × (HasSupport i b k → ⊥)

-- ---- Cooper, El Mouelhi and Terrioux: which variables are eliminated

module _ (P : Problem) (s : State) where
  -- Definition 3: "A variable x_i satisfies the DE-snake property if ∃ v_i ∈ D(x_i) such that ∀ x_j ∈ X \ {x_i}, ∀ v_j ∈ D(x_j) with
  -- (v_i, v_j) ∉ R_ij, ∃ v'_j ∈ D(x_j) such that (1) (v'_j, v_i) ∈ R_ji and (2) ∀ x_k ∈ X \ {x_i, x_j}, ∀ v_k ∈ D(x_k), we do not have
  -- (v_j, v_k) ∈ R_jk and (v'_j, v_k) ∉ R_jk." Here v is the v_i.
  abbrev pub DeSnakeBy : (i v : ℕ) → Type 0
  DeSnakeBy i v =
      Live s i v
      × ((j : ℕ) → Active s j → j ≢ i → (w : ℕ) → Live s j w → (Allowed P i v j w → ⊥)
      → (w' : ℕ)
      × Live s j w'
      × Allowed P j w' i v
      × ((k : ℕ) → Active s k → k ≢ i → k ≢ j → (c : ℕ) → Live s k c → (Allowed P j w k c × (Allowed P j w' k c → ⊥)) → ⊥))

  -- the property itself, of a variable x_i ∈ X
  abbrev pub DeSnake : ℕ → Type 0
  DeSnake i = Active s i × ((v : ℕ) × DeSnakeBy i v)

  -- Definition 4: "A variable x_i satisfies the triangle property if ∃ x_j ∈ X \ {x_i} such that ∀ v_j ∈ D(x_j), ∃ v_i ∈ D(x_i) with
  -- (v_i, v_j) ∈ R_ij such that ∀ x_k ∈ X \ {x_i, x_j}, ∀ v_k ∈ D(x_k), (v_j, v_k) ∈ R_jk implies that (v_i, v_k) ∈ R_ik." Here j is
  -- the x_j's number.
  abbrev pub TriangleBy : (i j : ℕ) → Type 0
  TriangleBy i j =
      Active s j
      × (j ≢ i)
      × ((v : ℕ) → Live s j v
      → (u : ℕ) × Live s i u × Allowed P i u j v × ((k : ℕ) → Active s k → k ≢ i → k ≢ j → (c : ℕ) → Live s k c → Allowed P j v k c → Allowed P i u k c))

  abbrev pub TriangleProperty : ℕ → Type 0
  TriangleProperty i = Active s i × ((j : ℕ) × TriangleBy i j)

-- ---- Cooper, "Strengthening neighbourhood substitution": which values are eliminated

module _ (P : Problem) (s : State) where
  -- the arrow "b → a at ij": "∀ c ∈ D(x_j), (b, c) ∈ R_ij ⇒ (a, c) ∈ R_ij"
  abbrev pub Arrow : (i j b a : ℕ) → Type 0
  Arrow i j b a = (c : ℕ) → Live s j c → Allowed P i b j c → Allowed P i a j c

  -- Definition 1: "Given two values a, b ∈ D(x_i), b is neighbourhood substitutable (NS) by a if ∀ j ≠ i, b → a at ij."
  abbrev pub NeighbourhoodSubstitutable : (i b a : ℕ) → Type 0
  NeighbourhoodSubstitutable i b a = (j : ℕ) → Active s j → j ≢ i → Arrow i j b a

  -- the wavy arrow "b ⇝ a at ik": "∀ d ∈ D(x_k), (b, d) ∈ R_ik ⇒ ∃ e ∈ D(x_k) ((a, e) ∈ R_ik ∧ ∀ l ∉ {i, k}, d → e at kl)"
  abbrev pub WavyArrow : (i k b a : ℕ) → Type 0
  WavyArrow i k b a =
      (d : ℕ) → Live s k d → Allowed P i b k d
      → (e : ℕ) × Live s k e × Allowed P i a k e × ((l : ℕ) → Active s l → l ≢ i → l ≢ k → Arrow k l d e)

  -- Definition 2: "Given two values a, b ∈ D(x_i), b is snake substitutable (SS) by a if ∀ k ≠ i, b ⇝ a at ik."
  abbrev pub SnakeSubstitutable : (i b a : ℕ) → Type 0
  SnakeSubstitutable i b a = (k : ℕ) → Active s k → k ≢ i → WavyArrow i k b a

-- "two values a, b ∈ D(x_i)", where a is "another value a in the same domain" (section 1)
abbrev pub TwoValues : State → (i b a : ℕ) → Type 0
TwoValues s i b a = Live s i b × Live s i a × (a ≢ b)

-- ---- the record is published: its kind's rule, with its own fields, at a variable x_i ∈ X

module _ (P : Problem) (s : State) where
  abbrev pub Published : Record → Type 0
  Published (Unsupported i b k) = Active s i × NoSupport P s i b k
  Published (Snake i v) = Active s i × DeSnakeBy P s i v
  Published (Triangle i j) = Active s i × TriangleBy P s i j
  Published (Neighbourhood i b a) = Active s i × TwoValues s i b a × NeighbourhoodSubstitutable P s i b a
  Published (SnakeSubstitution i b a) = Active s i × TwoValues s i b a × SnakeSubstitutable P s i b a

-- ---- what a step does to the instance

module _ (P : Problem) (s : State) where
  -- the pair (v, w) is in R_jk: of two distinct variables, each value in its domain
  abbrev pub Related : (j v k w : ℕ) → Type 0
  Related j v k w = Active s j × Active s k × (j ≢ k) × Live s j v × Live s k w × Allowed P j v k w

-- Cooper, El Mouelhi and Terrioux, section 2: "the instance I' obtained by eliminating a variable x_i from a binary CSP instance I is
-- identical to I except that (1) ∀ j ≠ i, we have deleted from D(x_j) all values v_j such that ⟨x_j, v_j⟩ has no support at x_i in I, and
-- (2) we have deleted the variable x_i and all constraints with x_i in their scope." I is the instance of s, and I' the instance of q.
pub record VariableEliminated (P : Problem) (s : State) (i : ℕ) (q : State) : Type 0 where
  -- (2) X' = X \ {x_i}
  pub variables : (j : ℕ) → Active q j ↔ (Active s j × (j ≢ i))
  -- (1) D'(x_j) for j ≠ i: the values of D(x_j) that have a support at x_i in I
  pub domains : (j w : ℕ) → j ≢ i → Live q j w ↔ (Live s j w × HasSupport P s j w i)
  -- (2) x_i has no domain left
  pub deleted : (w : ℕ) → Live q i w → ⊥
  -- (2) no constraint has x_i in its scope; the others are those of I, on the domains left
  pub constraints : (j v k w : ℕ) → Related P q j v k w ↔ (Related P s j v k w × (j ≢ i) × (k ≢ i) × HasSupport P s j v i × HasSupport P s k w i)

-- the instance obtained by eliminating the value b from D(x_i): D'(x_i) = D(x_i) \ {b}, and all else as it was
pub record ValueEliminated (s : State) (i b : ℕ) (q : State) : Type 0 where
  pub variables : (j : ℕ) → Active q j ↔ Active s j
  pub domain : (w : ℕ) → Live q i w ↔ (Live s i w × (w ≢ b))
  pub domains : (j w : ℕ) → j ≢ i → Live q j w ↔ Live s j w

-- what a step is published to do: to eliminate the value, or the variable
abbrev pub EffectPublished : Problem → State → Effect → State → Type 0
EffectPublished P s (Removes i b) q = ValueEliminated s i b q
EffectPublished P s (Eliminates i) q = VariableEliminated P s i q

abbrev pub StepPublished : Problem → State → Record → State → Type 0
StepPublished P s r q = EffectPublished P s (effect_of r) q
