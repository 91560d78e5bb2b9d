-- Covering as the code tests it: loops to 32 and 16 over the members of masks.
use Rattle.std.specs.Prelude.{Bool, true, false, not, ◌&&◌, ℕ, eqb, Option, None}
use Rattle.std.specs.Int.Bits.{bit_and}
use Rattle.bounded.specs.Quantifiers.{imp, all_below, any_below, at_lowest}
use Rattle.bounded.specs.Mask.{bit, mask_of, without}
use Rattle.problem.specs.Held.{row_word}
use Rattle.problem.specs.Problem.{Problem, State, max_values, unspoilt, break_at, unbroken, spoiler}

-- the values of i that are allowed with every value of a set of l
unfoldable pub allowed_with : Problem → (x i l : ℕ) → ℕ
allowed_with P x i l = mask_of max_values (λ u. eqb (bit_and x (row_word P i l u)) x)

module _ (P : Problem) (s : State) where
  -- the cover test at a variable of a set; at any other nothing spoils
  unfoldable pub spoiler_in : (rest i a j b l : ℕ) → Option ℕ
  spoiler_in rest i a j b l = elim (bit rest l) [ true ↦ spoiler P s i a j b l | false ↦ None ]

  -- the lowest variable of a set at which a of i does not cover b of j, and the lowest value that spoils it there
  unfoldable pub first_break_in : (rest i a j b : ℕ) → Option (ℕ × ℕ)
  first_break_in rest i a j b = at_lowest 32 (λ l. not (unspoilt (spoiler_in rest i a j b l))) (λ l. break_at l (spoiler_in rest i a j b l)) None

  -- there is none: a of i covers b of j at each variable of the set
  abbrev pub covers_in : (rest i a j b : ℕ) → Bool
  covers_in rest i a j b = unbroken (first_break_in rest i a j b)

  -- those of a set of values of i that cover w of j at each variable of the set `rest`
  unfoldable pub servers_in : (rest good i j w : ℕ) → ℕ
  servers_in rest good i j w = mask_of max_values (λ u. bit good u && covers_in rest i u j w)

  -- some u of i, of a set of values, covers w of j at each variable of the set `rest`
  unfoldable pub served_in : (rest good i j w : ℕ) → Bool
  served_in rest good i j w = any_below 16 (λ u. bit good u && covers_in rest i u j w)

  -- each value of `bad` that is not one of `good` is served by one of `good`; both are sets of values of j
  unfoldable pub all_served_in : (rest good bad j : ℕ) → Bool
  all_served_in rest good bad j = all_below 16 (λ w. imp (bit bad w && not (bit good w)) (served_in rest good j j w))

-- the active variables other than i, and other than i and j
abbrev pub others : (active i : ℕ) → ℕ
others active i = without 32 active i

abbrev pub thirds : (active i j : ℕ) → ℕ
thirds active i j = without 32 (without 32 active i) j
