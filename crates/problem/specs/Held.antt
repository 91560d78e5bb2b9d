-- The problem that a table of 16-bit words holds. The rule tests in code read this table and a state, and nothing else. In its order:
-- - entries 0 to 31: the size of each variable's domain, 0 where the problem has no such variable;
-- - the 1,024 entries of the list of places;
-- - two entries a variable, a bit for each other: the variables that have no block with it;
-- - 32 entries a place: the rows of the pair's lower variable, then those of the higher, 16 each. In a row bit b is set where value b of the
--   other is allowed.
-- No table of rows but this one is kept.
use Rattle.std.specs.Prelude.{◌≡◌, ◌≢◌, Bool, true, false, not, ◌&&◌, cond, List, ℕ, ◌+◌, ◌*◌, ◌/◌, ◌%◌, ◌≤◌, ◌<◌, T, eqb, ltb, length, get_or}
use Rattle.std.proofs.Math.Bool.{and_comm}
use Rattle.bounded.specs.Quantifiers.{lowest}
use Rattle.bounded.specs.Mask.{bit, mask_of}
use Rattle.problem.specs.Places.{place_of}
use Rattle.problem.specs.Problem.{Problem, max_values}

-- row: the settings of j that are allowed with setting a of i, as one word of 16 bits. The bit worth 2^c is set where setting c is one of
-- them, and so no bit at the size of j or beyond.
unfoldable pub row_word : Problem → (i j a : ℕ) → ℕ
row_word P i j a = mask_of max_values (P.allowed i a j)

-- ---- where things stand in a table

-- where its parts start: after 32 sizes and 1,024 places the words that say who has no block with whom, and after two of these a variable
-- the rows
abbrev pub far_start : ℕ
far_start = 1056

abbrev pub rows_start : ℕ
rows_start = far_start + 64

-- the entries of a table: there are 496 places
abbrev pub table_length : ℕ
table_length = rows_start + 32 * 496

-- the entry of the list of places for i and j
abbrev pub place_at : (i j : ℕ) → ℕ
place_at i j = 32 + (32 * i + j)

-- the entry of i that says whether j has a block with it: one for the variables below 16, one for those from 16 on
abbrev pub far_at : (i j : ℕ) → ℕ
far_at i j = far_start + (32 * (j / 16) + i)

-- the first of the 16 rows of i towards j
abbrev pub rows_at : (i j : ℕ) → ℕ
rows_at i j = rows_start + (32 * place_of i j + cond (ltb i j) 0 16)

-- ---- the problem of a table

module _ (t : List ℕ) where
  unfoldable pub held_size : ℕ → ℕ
  held_size i = cond (ltb i 32) (get_or t i 0) 0

  unfoldable pub held_variables : ℕ
  held_variables = lowest 32 (λ i. eqb (held_size i) 0)

  -- value a of i is one of the problem's
  unfoldable pub held_value : ℕ → ℕ → Bool
  held_value i a = ltb i held_variables && ltb a (held_size i)

  -- the row's answer
  unfoldable pub row_allows : ℕ → ℕ → ℕ → ℕ → Bool
  row_allows i a j b = bit (get_or t (rows_at i j + a) 0) b

  -- j has no block with i
  unfoldable pub far_from : (i j : ℕ) → Bool
  far_from i j = bit (get_or t (far_at i j) 0) (j % 16)

  -- the row of a towards j allows b: both are values of the problem, of different variables. A pair is allowed where both of its rows
  -- allow it; in a filled table either row tells.
  unfoldable pub held_row : ℕ → ℕ → ℕ → ℕ → Bool
  held_row i a j b = elim (held_value i a && (held_value j b && not (eqb i j))) [ true ↦ row_allows i a j b | false ↦ false ]

unfoldable pub held : List ℕ → Problem
held t =
    record {
      n = held_variables t;
      size = held_size t;
      allowed = λ i a j b. held_row t i a j b && held_row t j b i a;
      symmetric = λ i a j b. and_comm (held_row t i a j b) (held_row t j b i a);
    }

-- ---- tables that can be read

-- the list of places stands in the table: "The place comes from a constant list of 1,024 entries"
pub record Located (t : List ℕ) : Type 0 where
  pub long : length t ≡ table_length
  pub places : (i j : ℕ) → i < 32 → j < 32 → get_or t (place_at i j) 0 ≡ place_of i j

-- a filled table, which the rule tests may read: it has the list of places; no size is above 16, and none after the first that is 0; the rows
-- of a pair, the one way and the other, are transposes of each other; and a variable that has no block with i bars nothing with it. Of bits
-- beyond the sizes nothing is said.
pub record RowTable (t : List ℕ) : Type 0 where
  pub located : Located t
  pub narrow : (i : ℕ) → held_size t i ≤ max_values
  pub ended : (i : ℕ) → held_variables t ≤ i → held_size t i ≡ 0
  pub turned : (i a j b : ℕ) → T (held_value t i a) → T (held_value t j b) → i ≢ j → row_allows t i a j b ≡ row_allows t j b i a
  pub far : (i a j b : ℕ) → T (held_value t i a) → T (held_value t j b) → i ≢ j → far_from t i j ≡ true → T (row_allows t i a j b)

-- ---- the table of a problem

-- what a table can hold: at most 32 variables of 1 to 16 values, and nothing allowed but values of two different variables
pub record Bounded (P : Problem) : Type 0 where
  pub few : P.n ≤ 32
  pub some : (i : ℕ) → i < P.n → 1 ≤ P.size i
  pub narrow : (i : ℕ) → P.size i ≤ max_values
  pub none : (i : ℕ) → P.n ≤ i → P.size i ≡ 0
  pub listed : (i a j b : ℕ) → T (P.allowed i a j b) → (i < P.n) × (a < P.size i) × (j < P.n) × (b < P.size j) × (i ≢ j)

-- two different variables of a problem
pub record Two (P : Problem) (i j : ℕ) : Type 0 where
  pub one : i < P.n
  pub other : j < P.n
  pub apart : i ≢ j

-- the table is filled with the problem, entry by entry: its sizes, the list of places, and each row of each pair at its place; what has no
-- block with i bars nothing with it
pub record Filled (P : Problem) (t : List ℕ) : Type 0 where
  pub located : Located t
  pub sizes : (i : ℕ) → i < 32 → get_or t i 0 ≡ P.size i
  pub rows : (i a j b : ℕ) → Two P i j → a < P.size i → b < P.size j → row_allows t i a j b ≡ P.allowed i a j b
  pub far : (i a j b : ℕ) → Two P i j → a < P.size i → b < P.size j → far_from t i j ≡ true → T (P.allowed i a j b)
