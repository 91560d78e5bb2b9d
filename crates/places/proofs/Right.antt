-- The list of places is right as a whole. Assumes nothing.
use mathlib.Core.Path.{◌≡◌, sym, ap, ◌∙◌}
use Prim.Native.Nat.{ℕ, ◌+◌, ◌*◌, ◌/◌, ◌%◌, ◌<◌}
use native.Mathlib.Omega.{arith}
use lib.ListN.{length, get_or}
use Rattle.bounded.proofs.Table.{length_tab, get_d_tab}
use Rattle.problem.specs.Places.{place_of, place_list}
use Rattle.problem.proofs.Places.{place_symmetric}

-- it has 1,024 entries
pub places_long : length place_list ≡ 1024
unfolding place_list
places_long = length_tab 1024 _

-- and each is the place of its two items
pub places_right : (i j : ℕ) → i < 32 → j < 32 → get_or place_list (32 * i + j) 0 ≡ place_of i j
unfolding place_list
places_right i j li lj =
    let k = 32 * i + j in
    let d : k / 32 ≡ i = omega arith in
    let m : k % 32 ≡ j = omega arith in
    get_d_tab 1024 (λ k. place_of (k / 32) (k % 32)) k 0 (omega arith) ∙ ap (λ (x : ℕ). place_of x (k % 32)) d ∙ ap (place_of i) m

-- "the same for the pair turned round": the list is its own transpose
pub places_symmetric : (i j : ℕ) → i < 32 → j < 32 → get_or place_list (32 * i + j) 0 ≡ get_or place_list (32 * j + i) 0
places_symmetric i j li lj = places_right i j li lj ∙ place_symmetric i j ∙ sym (places_right j i lj li)
