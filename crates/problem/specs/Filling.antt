-- Filling a table, a pair at a time: what it says of a pair, and what entering a block changes.
use Rattle.std.specs.Prelude.{◌≡◌, Bool, true, List, ℕ, ◌<◌, T, length, get_or}
use Rattle.bounded.specs.Mask.{bit}
use Rattle.problem.specs.Problem.{Problem}
use Rattle.problem.specs.Held.{far_start, row_allows, far_from}

-- what a table says of the pair i < j, both ways round: value a of i is allowed with value b of j where f holds of a and b
pub record Shows (t : List ℕ) (i j : ℕ) (f : ℕ → ℕ → Bool) : Type 0 where
  pub own : (a b : ℕ) → a < 16 → b < 16 → row_allows t i a j b ≡ f a b
  pub turned : (a b : ℕ) → a < 16 → b < 16 → row_allows t j b i a ≡ f a b
  pub far : far_from t i j ≡ true → (a b : ℕ) → a < 16 → b < 16 → T (f a b)
  pub turned_far : far_from t j i ≡ true → (a b : ℕ) → a < 16 → b < 16 → T (f a b)

-- the block of i < j, of 16 rows, is entered: the pair is as the rows say, both ways round, and all else is as it was
pub record Entered (t : List ℕ) (i j : ℕ) (rows : List ℕ) (u : List ℕ) : Type 0 where
  pub long : length u ≡ length t
  pub front : (q : ℕ) → q < far_start → get_or u q 0 ≡ get_or t q 0
  pub here : Shows u i j (λ a b. bit (get_or rows a 0) b)
  pub else : (k l : ℕ) (f : ℕ → ℕ → Bool) → k < l → l < 32 → ((k ≡ i) × (l ≡ j) → ⊥) → Shows t k l f → Shows u k l f
  -- the same bit by bit, also where a table shows nothing beyond the sizes: each row of another pair is as it was, and no two are without a
  -- block that were not so before
  pub kept : (k l : ℕ) → k < l → l < 32 → ((k ≡ i) × (l ≡ j) → ⊥) → (a b : ℕ) → a < 16 → b < 16
      → (row_allows u k a l b ≡ row_allows t k a l b) × (row_allows u l b k a ≡ row_allows t l b k a)
  pub less : (k l : ℕ) → k < 32 → l < 32 → far_from u k l ≡ true → far_from t k l ≡ true

-- Q is P with the block of i < j replaced by the rows x: the same variables and sizes, of i and j what the rows say, and of every other two
-- variables what P says
pub record Replaced (P Q : Problem) (i j : ℕ) (x : List ℕ) : Type 0 where
  pub variables : Q.n ≡ P.n
  pub sizes : (k : ℕ) → Q.size k ≡ P.size k
  pub here : (a b : ℕ) → a < P.size i → b < P.size j → Q.allowed i a j b ≡ bit (get_or x a 0) b
  pub else : (k l : ℕ) → k < l → l < P.n → ((k ≡ i) × (l ≡ j) → ⊥) → (a b : ℕ) → a < P.size k → b < P.size l → Q.allowed k a l b ≡ P.allowed k a l b
