-- Sets of all numbers below a bound, the full state, and cause 11, as the code tests them. Assumes nothing.
use mathlib.Core.Path.{◌≡◌, sym, ap, ◌∙◌, subst}
use mathlib.Core.Bool.{Bool, true, false, ◌&&◌}
use mathlib.Core.Logic.{⊎_elim}
use Prim.Native.Nat.{ℕ, ◌^◌, ◌≤◌, ◌<◌}
use native.Mathlib.Omega.{arith}
use lib.Dec.{T, eqb, ltb}
use lib.ListN.{get_or}
use lib.Pow.{pow_mono}
use Rattle.bounded.specs.Quantifiers.{imp, all_below, any_below}
use Rattle.bounded.specs.Mask.{bit, mask_of}
use Rattle.bounded.proofs.Truth.{T_ext, T_false, T_not, and_iff, imp_iff, not_iff, ltb_iff, lt_dec}
use Rattle.bounded.proofs.Quantifiers.{all_iff, any_iff}
use Rattle.bounded.proofs.Mask.{bit_high, bit_mask, mask_lt, mask_ext, zero_bits}
use Rattle.problem.specs.Problem.{Problem, State, state_fits}
use Rattle.problem.specs.Masks.{state_of}
use Rattle.problem.specs.declared.Masks.{Masks}
use Rattle.problem.proofs.Reflect.{fits_says}
use Rattle.hand_call.specs.Parts.{fits_at}

-- ---- the numbers below a bound

-- a set is within the numbers below z, as one comparison
pub below_word : (x z : ℕ) → x < 2 ^ 16 → z ≤ 16 → ltb x (2 ^ z) ≡ all_below 16 (λ a. imp (bit x a) (ltb a z))
below_word x z p q =
    T_ext (
      λ h. simp (all_iff, imp_iff, ltb_iff) (λ a k u. ⊎_elim (λ m. m) (λ m. absurd (T_not (bit_high z x a ((ltb_iff x (2 ^ z)).0 h) m) u)) (lt_dec a z)),
      λ h. (ltb_iff x (2 ^ z)).1 (subst (λ (y : ℕ). y < 2 ^ z) (sym (same (simp (all_iff, imp_iff, ltb_iff) at h))) (mask_lt z (bit x))),
    )
  where
    same : ((a : ℕ) → a < 16 → T (bit x a) → a < z) → x ≡ mask_of z (bit x)
    same f =
        let r : 2 ^ z ≤ 2 ^ 16 = pow_mono q in
        mask_ext 16 x (mask_of z (bit x)) p (omega (arith, mask_lt z (bit x)))
        (λ c k. ⊎_elim
        (λ m. sym (bit_mask z (bit x) c m))
        (λ (m : z ≤ c). T_false _ (λ u. let g = f c k u in omega arith) ∙ sym (bit_high z (mask_of z (bit x)) c (mask_lt z (bit x)) m))
        (lt_dec c z))

-- ---- cause 11, variable by variable

pub fits_all : (P : Problem) (s : State) → all_below 32 (fits_at P s) ≡ state_fits P s
unfolding fits_at
fits_all P s =
    T_ext (
      λ h. let f = simp (all_iff, and_iff, imp_iff, ltb_iff) at h in (fits_says P s).1 (λ i l o. (f i l).0 o, λ i l a k o. (f i l).1 a k o),
      λ h. let g = (fits_says P s).0 h in simp (all_iff, and_iff, imp_iff, ltb_iff) (λ i l. (λ o. g.0 i l o, λ a k o. g.1 i l a k o)),
    )

-- an active variable: below n, with values below its size
pub fits_active : (P : Problem) (m : Masks) (i : ℕ) → bit m.active i ≡ true → (ltb i P.n && all_below 16 (λ a. imp (bit (get_or m.domains i 0) a) (ltb a (P.size i)))) ≡ fits_at P (state_of m) i
unfolding fits_at state_of
fits_active P m i e = ap (λ (b : Bool). imp b (ltb i P.n) && all_below 16 (λ a. imp (bit (get_or m.domains i 0) a) (b && ltb a (P.size i)))) (sym e)

-- one that is not: an empty domain
pub fits_idle : (P : Problem) (m : Masks) (i : ℕ) → get_or m.domains i 0 < 2 ^ 16 → bit m.active i ≡ false → eqb (get_or m.domains i 0) 0 ≡ fits_at P (state_of m) i
unfolding fits_at state_of
fits_idle P m i l e =
    zero_bits 16 x l
    ∙ T_ext (
      λ h. simp (all_iff, imp_iff) (λ a k u. absurd ((not_iff (any_below 16 (bit x))).0 h ((any_iff 16 (bit x)).1 (a, k, u)))),
      λ h. (not_iff (any_below 16 (bit x))).1 (λ u. let y = (any_iff 16 (bit x)).0 u in (simp (all_iff, imp_iff) at h) y.0 y.1 y.2),
    )
    ∙ ap (λ (b : Bool). imp b (ltb i P.n) && all_below 16 (λ a. imp (bit x a) (b && ltb a (P.size i)))) (sym e)
  where
    x : ℕ
    x = get_or m.domains i 0
