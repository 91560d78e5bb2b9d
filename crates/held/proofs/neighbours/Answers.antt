-- `held::neighbours`: what is left of the 32 when those without a block are taken away. Assumes nothing.
use mathlib.Core.Path.{◌≡◌, ap, ◌∙◌}
use mathlib.Core.Bool.{not}
use mathlib.Core.List.{List}
use mathlib.Core.Logic.{⊎_elim}
use Prim.Native.Nat.{ℕ, ◌+◌, ◌-◌, ◌*◌, ◌%◌, ◌^◌, ◌≤◌, ◌<◌}
use native.Mathlib.Omega.{arith}
use lib.ListN.{get_or}
use Rattle.bounded.specs.Mask.{bit}
use Rattle.bounded.proofs.Truth.{lt_dec}
use Rattle.bounded.proofs.Mask.{bit_not, bit_first, bit_second}
use Rattle.problem.specs.Held.{far_start, far_at, far_from}
use Rattle.held.specs.Ready.{Near}
use Rattle.held.proofs.neighbours.Goals as goal

-- the two words of i, side by side
far_bits : (t : List ℕ) (i j : ℕ) → j < 32 → get_or t (far_start + i) 0 < 2 ^ 16 → bit (get_or t (far_start + i) 0 + 65536 * get_or t (far_start + 32 + i) 0) j ≡ far_from t i j
unfolding far_from
far_bits t i j l small =
    ⊎_elim
    (λ (m : j < 16).
    let p : far_start + i ≡ far_at i j = omega arith in
    let q : j ≡ j % 16 = omega arith in
    bit_first 16 (get_or t (far_start + i) 0) (get_or t (far_start + 32 + i) 0) j m ∙ ap (λ (k : ℕ). bit (get_or t k 0) j) p ∙ ap (bit (get_or t (far_at i j) 0)) q)
    (λ (m : 16 ≤ j).
    let p : far_start + 32 + i ≡ far_at i j = omega arith in
    let q : j - 16 ≡ j % 16 = omega arith in
    bit_second 16 (get_or t (far_start + i) 0) (get_or t (far_start + 32 + i) 0) j small m ∙ ap (λ (k : ℕ). bit (get_or t k 0) (j - 16)) p ∙ ap (bit (get_or t (far_at i j) 0)) q)
    (lt_dec j 16)

-- the set of all 32 without them
near_of : (t : List ℕ) (i x : ℕ) → x ≡ get_or t (far_start + i) 0 + 65536 * get_or t (far_start + 32 + i) 0 → get_or t (far_start + i) 0 < 2 ^ 16 → get_or t (far_start + 32 + i) 0 < 2 ^ 16 → Near t i (4294967295 - x)
near_of t i x e low high =
    record {
      small = omega arith;
      all = λ j l. bit_not 32 x j (omega arith) l ∙ ap not (ap (λ (y : ℕ). bit y j) e ∙ far_bits t i j l low);
    }

pub returns : goal.returns
returns c =
    let a = c.args in
    let small = c.shared_slice_known-1.given in
    near_of a.t.now a.i c.joined.result c.joined.ensures.is c.joined.ensures.apart (small (far_start + 32 + a.i)).fits
