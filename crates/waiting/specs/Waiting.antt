-- What a run's search waits for, as words: which tests are pending, and which wait until a variable changes. A row has 16 tests, one for
-- each bit. Rows come in groups, one row for each variable. Where the word of a test stands is said here and nowhere else.
use Rattle.std.specs.Prelude.{◌≡◌, ◌⊎◌, ◌≢◌, List, ℕ, zero, suc, ◌+◌, ◌*◌, ◌/◌, ◌%◌, ◌≤◌, ◌<◌, T, length, get_or}
use Rattle.bounded.specs.Mask.{bit}
use Rattle.problem.specs.Problem.{Problem, State, substitution_spares}
use Rattle.problem.specs.Sentences.{Snake, Triangle, Neighbourhood, SnakeSubstitution}
use Rattle.rests.specs.Rests.{Rests}

-- how many rows there are, in groups of 32; how many words wait for variables, and how many wait at all: the rest tells for each triangle
-- a value of j
abbrev pub rows : ℕ
rows = 160

abbrev pub groups : ℕ
groups = 5

abbrev pub triangles_from : ℕ
triangles_from = 5120

abbrev pub waiting_length : ℕ
waiting_length = 6144

-- the groups with a row for each variable; that of the triangles is two, the second for j from 16 on
abbrev pub snakes : ℕ
snakes = 0

abbrev pub triangles : ℕ
triangles = 1

abbrev pub neighbourhoods : ℕ
neighbourhoods = 3

abbrev pub substitutions : ℕ
substitutions = 4

-- the row of variable i in group g, and its place among those that wait for l
abbrev pub row_of : (g i : ℕ) → ℕ
row_of g i = 32 * g + i

abbrev pub waits_at : (l row : ℕ) → ℕ
waits_at l row = rows * l + row

-- the group of the triangle of i with j, whose test is that of bit j % 16, and the place of the value of j for which it has failed
abbrev pub triangle_group : (j : ℕ) → ℕ
triangle_group j = triangles + j / 16

abbrev pub triangle_at : (j i : ℕ) → ℕ
triangle_at j i = triangles_from + (32 * j + i)

-- the rule that bit c of the row of i in group g stands for. Kind 4 asks of value c whether any other does in its place, and kind 5 of all
-- values of i at once: of its rows one bit is used.
abbrev pub Passes : Problem → (g i c : ℕ) → State → Type 0
Passes P zero i c q = Snake P q i c
Passes P (suc zero) i c q = Triangle P q i c
Passes P (suc (suc zero)) i c q = Triangle P q i (16 + c)
Passes P (suc (suc (suc zero))) i c q = (a : ℕ) × Neighbourhood P q i c a
Passes P (suc (suc (suc (suc g)))) i c q = (b : ℕ) × (a : ℕ) × SnakeSubstitution P q substitution_spares i b a

-- c is in the set that stands at a place
abbrev pub In : List ℕ → ℕ → ℕ → Type 0
In words p c = T (bit (get_or words p 0) c)

-- value x of l is one of the variables that the test waits for
abbrev pub WaitsFor : (waiting : List ℕ) (g i c l x : ℕ) → Type 0
WaitsFor w g i c l x = (l < 32) × In w (waits_at l (row_of g i)) c

-- the same, or it is the value of j that a triangle waits for
abbrev pub TriangleWaits : (waiting : List ℕ) (g i c j l x : ℕ) → Type 0
TriangleWaits w g i c j l x = WaitsFor w g i c l x ⊎ ((l ≡ j) × (x ≡ get_or w (triangle_at j i) 0))

abbrev pub Awaited : (waiting : List ℕ) (g i c : ℕ) → ℕ → ℕ → Type 0
Awaited w zero i c = WaitsFor w 0 i c
Awaited w (suc zero) i c = TriangleWaits w 1 i c c
Awaited w (suc (suc zero)) i c = TriangleWaits w 2 i c (16 + c)
Awaited w (suc (suc (suc g))) i c = WaitsFor w (suc (suc (suc g))) i c

-- in the word r of the triangles of i, bit j is that of the one with j
pub record TrianglesPending (pending : List ℕ) (i r : ℕ) : Type 0 where
  pub at : (j : ℕ) → j < 32 → bit r j ≡ bit (get_or pending (row_of (triangle_group j) i) 0) (j % 16)

-- a test that is not pending fails, and its failure rests on what it waits for
pub record Waits (P : Problem) (s : State) (pending waiting : List ℕ) : Type 0 where
  pub narrow : length pending ≡ rows
  pub long : length waiting ≡ waiting_length
  pub rests : (g i c : ℕ) → g < groups → i < 32 → c < 16 → (In pending (row_of g i) c → ⊥) → Rests P s (Passes P g i c) (Awaited waiting g i c)

-- ---- what changes them; before: p and w, after: q and x

-- test c of a row waits for the variables of a word, and nothing waits for less
pub record Watched (rests row c : ℕ) (w x : List ℕ) : Type 0 where
  pub long : length x ≡ waiting_length
  pub kept : (r d : ℕ) → In w r d → In x r d
  pub entered : (l : ℕ) → l < 32 → T (bit rests l) → In x (waits_at l row) c
  pub values : (k : ℕ) → triangles_from ≤ k → get_or x k 0 ≡ get_or w k 0

-- beside that it is not pending; every other test is, where it was
pub record Learned (rests row c : ℕ) (p w q x : List ℕ) : Type 0 where
  pub narrow : length q ≡ rows
  pub watched : Watched rests row c w x
  pub pending : (r d : ℕ) → d < 16 → In p r d → ((r ≡ row × d ≡ c) → ⊥) → In q r d

-- what waits for l is pending, and need not wait for it any longer
pub record Woken (l : ℕ) (p w q x : List ℕ) : Type 0 where
  pub narrow : length q ≡ rows
  pub long : length x ≡ waiting_length
  pub pending : (r d : ℕ) → r < rows → In p r d → In q r d
  pub woken : (r d : ℕ) → r < rows → In w (waits_at l r) d → In q r d
  pub kept : (k r d : ℕ) → r < rows → k ≢ l → In w (waits_at k r) d → In x (waits_at k r) d
  pub values : (k : ℕ) → triangles_from ≤ k → get_or x k 0 ≡ get_or w k 0

-- the triangle of i with j has failed by value v of j
pub record TriangleLearned (rests i j v : ℕ) (p w q x : List ℕ) : Type 0 where
  pub narrow : length q ≡ rows
  pub long : length x ≡ waiting_length
  pub pending : (r d : ℕ) → d < 16 → In p r d → ((r ≡ row_of (triangle_group j) i × d ≡ j % 16) → ⊥) → In q r d
  pub kept : (r d : ℕ) → r < triangles_from → In w r d → In x r d
  pub entered : (l : ℕ) → l < 32 → T (bit rests l) → In x (waits_at l (row_of (triangle_group j) i)) (j % 16)
  pub by : get_or x (triangle_at j i) 0 ≡ v
  pub values : (k : ℕ) → triangles_from ≤ k → k ≢ triangle_at j i → get_or x k 0 ≡ get_or w k 0

-- the triangles with l that wait for its value c are pending
pub record TrianglesWoken (l c : ℕ) (p w q : List ℕ) : Type 0 where
  pub narrow : length q ≡ rows
  pub pending : (r d : ℕ) → r < rows → In p r d → In q r d
  pub woken : (i : ℕ) → i < 32 → get_or w (triangle_at l i) 0 ≡ c → In q (row_of (triangle_group l) i) (l % 16)
