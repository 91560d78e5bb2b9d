-- First plans of small problems, as one statement, by computation. Assumes nothing.
use mathlib.Core.Path.{◌≡◌, refl}
use mathlib.Core.List.{List, [], ◌∷◌}
use Prim.Native.Nat.{ℕ}
use Rattle.bounded.specs.Quantifiers as bounded
use Rattle.problem.specs.Problem.{Problem, both_ways, full, eliminate, any_live, all_active, all_other}
use Rattle.problem.specs.PutBack.{solves}
use Rattle.problem.specs.Samples.{problem, unequal}
use Rattle.first_plan.specs.First.{found, none, or_else, first_of, first_from, first_plan}

-- items that are all unequal, of so many settings each
abbrev apart : List ℕ → Problem
apart sizes = problem sizes unequal

-- Of the six plans of three items the first is 0 1 2; by highest settings first it would be 2 1 0. Where settings 0 and 1 of item 0 lead to
-- no plan, it has 2. An item out keeps its byte. Where there is no plan, all items do.
pub samples :
    (first_plan (apart (3 ∷ 3 ∷ 3 ∷ [])) (full (apart (3 ∷ 3 ∷ 3 ∷ []))) (255 ∷ 255 ∷ 255 ∷ []) ≡ found (0 ∷ 1 ∷ 2 ∷ []))
    × (first_plan (apart (3 ∷ 2 ∷ 2 ∷ [])) (full (apart (3 ∷ 2 ∷ 2 ∷ []))) (255 ∷ 255 ∷ 255 ∷ []) ≡ found (2 ∷ 0 ∷ 1 ∷ []))
    × (first_plan (apart (3 ∷ 3 ∷ 3 ∷ [])) (eliminate (apart (3 ∷ 3 ∷ 3 ∷ [])) (full (apart (3 ∷ 3 ∷ 3 ∷ []))) 1) (255 ∷ 254 ∷ 255 ∷ []) ≡ found (0 ∷ 254 ∷ 1 ∷ []))
    × (first_plan (apart (2 ∷ 2 ∷ 2 ∷ [])) (full (apart (2 ∷ 2 ∷ 2 ∷ []))) (7 ∷ 8 ∷ 9 ∷ []) ≡ none (7 ∷ 8 ∷ 9 ∷ []))
unfolding bounded.all_below bounded.any_below both_ways full eliminate any_live all_active all_other solves or_else first_of first_from first_plan
samples = (refl, refl, refl, refl)
