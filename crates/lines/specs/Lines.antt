-- Lines: what one value allows at all variables side by side, 32 words in a row, so that all of them are met with it at once. Drawn from a
-- table and a state; a question reads them and nothing else.
use Rattle.std.specs.Prelude.{◌≡◌, ◌≢◌, List, ℕ, ◌+◌, ◌*◌, ◌<◌, T, length, get_or}
use Rattle.bounded.specs.Mask.{bit}
use Rattle.problem.specs.Problem.{Problem, State}
use Rattle.problem.specs.Held.{rows_at}
use Rattle.problem.specs.Sentences.{Live}

-- 32 variables, 16 values each, 32 words a value
abbrev pub lines_length : ℕ
lines_length = 16384

-- where the line of value a of i starts
abbrev pub line_start : (i a : ℕ) → ℕ
line_start i a = 512 * i + 32 * a

-- its word at j
abbrev pub line_word : List ℕ → (i a j : ℕ) → ℕ
line_word lines i a j = get_or lines (line_start i a + j) 0

-- the lines say what is allowed among the values in the domains of s; at its own variable a value has itself
pub record Drawn (P : Problem) (s : State) (lines : List ℕ) : Type 0 where
  pub long : length lines ≡ lines_length
  pub says : (i a j b : ℕ) → Live s i a → Live s j b → i ≢ j → bit (line_word lines i a j) b ≡ P.allowed i a j b
  pub own : (i a : ℕ) → Live s i a → T (bit (line_word lines i a i) a)

-- ---- what the parts of the drawing promise

-- the lines of i have the rows of the table at the variables of `set` that are not left in `rest`; all else is as it was
pub record DrawnTo (t lines : List ℕ) (i set rest : ℕ) (out : List ℕ) : Type 0 where
  pub long : length out ≡ lines_length
  pub drawn : (j a : ℕ) → j < 32 → a < 16 → T (bit set j) → (T (bit rest j) → ⊥) → line_word out i a j ≡ get_or t (rows_at i j + a) 0
  pub kept : (k j a : ℕ) → j < 32 → a < 16 → (k ≡ i → T (bit set j) → ⊥) → line_word out k a j ≡ line_word lines k a j

-- the same at j alone, for the values of i below n
pub record PairDrawn (t lines : List ℕ) (i j n : ℕ) (out : List ℕ) : Type 0 where
  pub long : length out ≡ lines_length
  pub drawn : (a : ℕ) → a < n → line_word out i a j ≡ get_or t (rows_at i j + a) 0
  pub kept : (k l a : ℕ) → l < 32 → a < 16 → (k ≡ i → l ≡ j → ⊥) → line_word out k a l ≡ line_word lines k a l
