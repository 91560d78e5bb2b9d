-- Sets as numbers: a part is no greater, and a loop may take the lowest or the highest member out until none is left. Assumes nothing.
use mathlib.Core.Path.{◌≡◌, refl, sym, ap, ◌∙◌, subst}
use mathlib.Core.Bool.{Bool, false, not, ◌&&◌}
use mathlib.Core.Logic.{◌⊎◌, inl, inr, ◌≢◌, ⊎_elim}
use Prim.Native.Nat.{ℕ, ◌^◌, ◌≤◌, ◌<◌}
use native.Mathlib.Nat.{lt_of_le_of_lt}
use native.Mathlib.Omega.{arith}
use lib.Bits.{bit_and, and_le_l, and_le_r}
use lib.Dec.{T, eqb}
use borrow.Author.Tests.{ne_eqb}
use Rattle.bounded.specs.Quantifiers.{any_below, lowest}
use Rattle.bounded.specs.Mask.{bit, without, Highest}
use Rattle.bounded.proofs.Truth.{T_of, T_not, split, clash, and_iff, imp_iff, not_iff, eqb_iff, eq_dec}
use Rattle.bounded.proofs.Quantifiers.{all_iff, any_iff, lowest_is, lowest_le, lowest_least}
use Rattle.bounded.proofs.Mask.{bit_and_lem, member_some, within, zero_bits}

-- the lowest member of a set that is not empty
pub lowest_member : (n x : ℕ) → x < 2 ^ n → x ≢ 0 → (lowest n (bit x) < n) × T (bit x (lowest n (bit x)))
lowest_member n x l d = lowest_is n (bit x) ((any_iff n (bit x)).0 (⊎_elim (λ e. T_of e) (λ e. absurd (clash (zero_bits n x l ∙ ap not e) (ne_eqb x 0 d))) (split (any_below n (bit x)))))

-- a part of a set is no greater number, and a smaller one where a member is missing
pub part_le : (n x y : ℕ) → x < 2 ^ n → ((c : ℕ) → c < n → T (bit x c) → T (bit y c)) → x ≤ y
part_le n x y l h =
    let e : bit_and x y ≡ x = (eqb_iff (bit_and x y) x).0 (subst T (sym (within n x y l)) ((all_iff n _).1 (λ c k. (imp_iff (bit x c) (bit y c)).1 (h c k)))) in
    omega (arith, and_le_r x y)

pub part_lt : (n x y b : ℕ) → x < 2 ^ n → ((c : ℕ) → c < n → T (bit x c) → T (bit y c)) → T (bit y b) → (T (bit x b) → ⊥) → x < y
part_lt n x y b l h on off = let d : x ≢ y = λ e. off (subst (λ (z : ℕ). T (bit z b)) (sym e) on) in omega (arith, part_le n x y l h)

-- what is left once b is taken out
pub without_part : (n x b c : ℕ) → T (bit (without n x b) c) → T (bit x c)
without_part n x b c t = ((and_iff (bit x c) _).0 (subst T (bit_and_lem x _ c) t)).0

-- for each of the two sizes of set, by its law of `without`
module _ (n : ℕ) (law : (x b c : ℕ) → b < n → c < n → bit (without n x b) c ≡ (bit x c && not (eqb c b))) (x b : ℕ) (l : b < n) where
  pub without_other : (c : ℕ) → c < n → T (bit (without n x b) c) → c ≢ b
  without_other c k t e = (not_iff (eqb c b)).0 ((and_iff (bit x c) (not (eqb c b))).0 (subst T (law x b c l k) t)).1 ((eqb_iff c b).1 e)

  pub without_gone : (c : ℕ) → c < n → T (bit x c) → (T (bit (without n x b) c) → ⊥) → c ≡ b
  without_gone c k on off = go (eq_dec c b)
    where
      go : (c ≡ b) ⊎ (c ≢ b) → c ≡ b
      go (inl e) = e
      go (inr d) = absurd (off (subst T (sym (law x b c l k)) ((and_iff (bit x c) (not (eqb c b))).1 (on, (not_iff (eqb c b)).1 (λ t. d ((eqb_iff c b).0 t))))))

  without_less : x < 2 ^ n → T (bit x b) → without n x b < x
  without_less m on = part_lt n (without n x b) x b (lt_of_le_of_lt (and_le_l x _) m) (λ c k. without_part n x b c) on (λ t. without_other b l t refl)

-- ---- a loop that takes a member out each turn

-- what is left of a set of numbers below n
pub record Left (n set rest : ℕ) : Type 0 where
  pub small : rest < 2 ^ n
  pub part : (c : ℕ) → T (bit rest c) → T (bit set c)

pub left_all : (n set : ℕ) → set < 2 ^ n → Left n set set
left_all n set l = record { small = l; part = λ c t. t }

pub left_and : (n set x : ℕ) → set < 2 ^ n → Left n set (bit_and x set)
left_and n set x l = record { small = lt_of_le_of_lt (and_le_r x set) l; part = λ c t. ((and_iff (bit x c) (bit set c)).0 (subst T (bit_and_lem x set c) t)).1 }

pub left_next : {n set rest : ℕ} (b : ℕ) → Left n set rest → Left n set (without n rest b)
left_next {n} {set} {rest} b L = record { small = lt_of_le_of_lt (and_le_l rest _) L.small; part = λ c t. L.part c (without_part n rest b c t) }

-- the lowest member is one, and without it the set is a smaller number
pub left_lowest : (n : ℕ) → ((x b c : ℕ) → b < n → c < n → bit (without n x b) c ≡ (bit x c && not (eqb c b))) → {set rest b : ℕ} → Left n set rest → rest ≢ 0 → b ≡ lowest n (bit rest) → (b < n) × T (bit rest b) × (without n rest b < rest)
left_lowest n law {set} {rest} {b} L d e =
    let m = lowest_member n rest L.small d in
    let k : b < n = omega (arith, m.0) in
    let on : T (bit rest b) = subst (λ (c : ℕ). T (bit rest c)) (sym e) m.1 in
    (k, on, without_less n law rest b k L.small on)

-- the highest member likewise
pub left_highest : (n : ℕ) → ((x b c : ℕ) → b < n → c < n → bit (without n x b) c ≡ (bit x c && not (eqb c b))) → {set rest b : ℕ} → Left n set rest → Highest n rest b → (b < n) × T (bit rest b) × (without n rest b < rest)
left_highest n law {set} {rest} {b} L H = (H.small, H.member, without_less n law rest b H.small L.small H.member)

-- a set that is without b has only others
pub left_other : (n : ℕ) → ((x b c : ℕ) → b < n → c < n → bit (without n x b) c ≡ (bit x c && not (eqb c b))) → {set rest c : ℕ} (x b : ℕ) → Left n set rest → set ≡ without n x b → b < n → c < n → T (bit rest c) → c ≢ b
left_other n law {c = c} x b L e l k t = without_other n law x b l c k (subst (λ (y : ℕ). T (bit y c)) e (L.part c t))

-- ---- a loop that seeks the lowest number at which a test holds

-- every number below n at which f holds is still left
pub record Sought (n : ℕ) (f : ℕ → Bool) (set rest : ℕ) : Type 0 where
  pub left : Left n set rest
  pub all : (c : ℕ) → c < n → T (f c) → T (bit rest c)

pub sought_all : (n : ℕ) (f : ℕ → Bool) (set : ℕ) → set < 2 ^ n → ((c : ℕ) → c < n → T (f c) → T (bit set c)) → Sought n f set set
sought_all n f set l h = record { left = left_all n set l; all = h }

-- one passed at which it does not hold
pub sought_next : (n : ℕ) → ((x b c : ℕ) → b < n → c < n → bit (without n x b) c ≡ (bit x c && not (eqb c b))) → {f : ℕ → Bool} {set rest b : ℕ} → Sought n f set rest → b < n → f b ≡ false → Sought n f set (without n rest b)
sought_next n law {f} {set} {rest} {b} S l e =
    record {
      left = left_next b S.left;
      all = λ c k t. subst T (sym (law rest b c l k)) ((and_iff (bit rest c) (not (eqb c b))).1 (S.all c k t, (not_iff (eqb c b)).1 (λ q. T_not e (subst (λ (x : ℕ). T (f x)) ((eqb_iff c b).0 q) t))));
    }

-- the lowest left: it holds at none before
pub sought_least : {n : ℕ} {f : ℕ → Bool} {set rest b : ℕ} → Sought n f set rest → b ≡ lowest n (bit rest) → (c : ℕ) → c < b → T (f c) → ⊥
sought_least {n} {f} {set} {rest} {b} S e c l t = let q = lowest_le n (bit rest) in lowest_least n (bit rest) c (omega arith) (S.all c (omega arith) t)

-- none left: it holds at none
pub sought_none : {n : ℕ} {f : ℕ → Bool} {set rest : ℕ} → Sought n f set rest → rest ≡ 0 → (c : ℕ) → c < n → T (f c) → ⊥
sought_none {n} {f} {set} {rest} S e c l t = member_some rest c (S.all c l t) e
