-- A state crosses whole: its bytes say it, and bytes are what the state that they say has. Assumes nothing.
use mathlib.Core.Path.{◌≡◌, refl, sym, ap, ◌∙◌}
use mathlib.Core.List.{List, ◌++◌}
use mathlib.Core.Logic.{⊎_elim}
use Prim.Native.Nat.{ℕ, zero, suc, ◌+◌, ◌*◌, ◌≤◌, ◌<◌}
use native.Mathlib.Omega.{arith}
use lib.ListN.{length, get_or, length-append, get_or-eq_default}
use Rattle.bounded.specs.Table.{tab}
use Rattle.bounded.proofs.Table.{length_tab, get_d_tab}
use Rattle.bounded.proofs.Truth.{lt_dec}
use Rattle.buffers.specs.Bytes.{number_at, number_bytes, words_bytes, AreBytes}
use Rattle.buffers.proofs.Words.{length_words, words_below, stands_words, words_again}
use Rattle.buffers.proofs.Stands.{stands_all, stands_over, stands_number, number_again}
use Rattle.problem.specs.Masks.{Proper}
use Rattle.problem.specs.declared.Masks.{Masks}
use Rattle.boundary.specs.State.{state_length, masks_bytes, masks_in}

pub state_length_lem : (m : Masks) → length m.domains ≡ 32 → length (masks_bytes m) ≡ 68
unfolding masks_bytes
state_length_lem m k = length-append (number_bytes 4 m.active) (words_bytes m.domains) ∙ ap (λ (n : ℕ). 4 + n) (length_words m.domains ∙ ap (λ (n : ℕ). 2 * n) k)

-- its bytes are bytes
pub state_below : (m : Masks) → AreBytes (masks_bytes m)
unfolding masks_bytes
state_below m zero = omega arith
state_below m (suc zero) = omega arith
state_below m (suc (suc zero)) = omega arith
state_below m (suc (suc (suc zero))) = omega arith
state_below m (suc (suc (suc (suc k)))) = words_below m.domains k

-- the state that bytes say is one that the struct can hold
pub in_proper : (b : List ℕ) → ((k : ℕ) → k < state_length → get_or b k 0 < 256) → Proper (masks_in b)
unfolding masks_in
in_proper b h =
    record {
      active_lt = (let h₀ = h 0 (omega arith) in let h₁ = h 1 (omega arith) in let h₂ = h 2 (omega arith) in let h₃ = h 3 (omega arith) in omega arith);
      length_is = length_tab 32 (λ i. number_at b 2 (4 + 2 * i));
      domain_lt = λ i l.
          rw (get_d_tab 32 (λ i. number_at b 2 (4 + 2 * i)) i 0 l)
          (let h₀ = h (4 + 2 * i) (omega arith) in let h₁ = h (4 + 2 * i + 1) (omega arith) in omega arith);
    }

-- a state that the struct can hold is what its bytes say
pub masks_crossed : (m : Masks) → Proper m → masks_in (masks_bytes m) ≡ m
unfolding masks_in masks_bytes
masks_crossed m R =
    let s = masks_bytes m in
    let l = R.length_is in
    let lt = R.active_lt in
    let p = stands_number s 4 m.active 0 (words_bytes m.domains) (omega arith) (stands_all s) in
    let t = stands_over s 0 4 (number_bytes 4 m.active) (words_bytes m.domains) (stands_all s) refl in
    let q = ap (λ (n : ℕ). tab n (λ i. number_at s 2 (4 + 2 * i))) (sym l) ∙ stands_words s m.domains 4 t (λ i h. R.domain_lt i (omega arith)) in
    λ k. record { active = p k; domains = q k }

-- 68 bytes are the bytes of the state that they say
pub bytes_crossed : (b : List ℕ) → length b ≡ state_length → ((k : ℕ) → k < state_length → get_or b k 0 < 256) → masks_bytes (masks_in b) ≡ b
unfolding masks_in masks_bytes
bytes_crossed b e h =
    sym (number_again b bytes 4 0 (omega arith) ∙ ap (λ (r : List ℕ). number_bytes 4 (number_at b 4 0) ++ r) (words_again b bytes 32 4 (omega arith)))
  where
    bytes : AreBytes b
    bytes k = ⊎_elim (h k) (λ (l : 68 ≤ k). let z = get_or-eq_default b 0 {n = k} (omega arith) in omega arith) (lt_dec k 68)
