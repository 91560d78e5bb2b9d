-- Sets of small numbers as one number: members, the bitwise operations, and equality by members. Assumes nothing.
use Prim.Native.Nat.{ℕ, zero, suc, ◌+◌, ◌-◌, ◌*◌, ◌/◌, ◌%◌, ◌^◌, ◌<◌, ◌≤◌, min, max}
use mathlib.Core.Path.{◌≡◌, refl, sym, ap, ◌∙◌, subst}
use mathlib.Core.Bool.{Bool, true, false, cond, not, ◌&&◌, ◌||◌, and-true}
use mathlib.Core.Logic.{◌⊎◌, inl, inr, ⊎_elim, ◌≢◌}
use native.Mathlib.Nat.{not-suc-le-zero, one-mul, mul_comm, mul_assoc, add-mul-div_right, zero-div, lt_of_le_of_lt, lt_of_lt_of_le, div-eq_of_lt, mod-eq_of_lt, pow-le-pow_right}
use native.Mathlib.Numerals.{add-one}
use native.Mathlib.Omega.{arith}
use lib.Dec.{T, eqb, ltb}
use lib.Bits.{bit_and, and_step, and_shr, and_le_l, and_le_r, bit_or, or_step, or_shr, or_lt, or_zero_r, or_shifted_r}
use lib.Count.{count_leading_zeros, leading_top, count_trailing_zeros, under}
use lib.Pow.{shr-shr, pow-add, pow_mono, pow_pos, high}
use borrow.Author.Tests.{eq-eqb, ne_eqb, eqb-true, eqb-false, lt-ltb, le-ltb}
use Rattle.bounded.specs.Quantifiers.{all_below, any_below, lowest, at_lowest, imp}
use Rattle.bounded.specs.Mask.{bit, mask_of, without, Highest}
use Rattle.bounded.proofs.Truth.{T_ext, T_of, T_not, and_iff, or_iff, imp_iff, eqb_iff, split, clash, at_or_below, eq_dec, lt_dec}
use Rattle.bounded.proofs.Quantifiers.{all_iff, lowest_here, lowest_later}
use Rattle.bounded.proofs.Loops.{any_each, any_intro, at_lowest_some, at_lowest_end}

-- ---- a digit is 0 or 1

digit : (n : ℕ) → n % 2 < 2
digit n = omega arith

and_digit : (p q : ℕ) → p < 2 → q < 2 → eqb (min p q) 1 ≡ (eqb p 1 && eqb q 1)
and_digit zero zero l m = refl
and_digit zero (suc zero) l m = refl
and_digit (suc zero) zero l m = refl
and_digit (suc zero) (suc zero) l m = refl
and_digit (suc (suc p)) q l m = absurd (omega arith)
and_digit zero (suc (suc q)) l m = absurd (omega arith)
and_digit (suc zero) (suc (suc q)) l m = absurd (omega arith)

or_digit : (p q : ℕ) → p < 2 → q < 2 → eqb (max p q) 1 ≡ (eqb p 1 || eqb q 1)
or_digit zero zero l m = refl
or_digit zero (suc zero) l m = refl
or_digit (suc zero) zero l m = refl
or_digit (suc zero) (suc zero) l m = refl
or_digit (suc (suc p)) q l m = absurd (omega arith)
or_digit zero (suc (suc q)) l m = absurd (omega arith)
or_digit (suc zero) (suc (suc q)) l m = absurd (omega arith)

and_mod2 : (a b : ℕ) → bit_and a b % 2 ≡ min (a % 2) (b % 2)
and_mod2 a b = omega (arith, and_step a b)

or_mod2 : (a b : ℕ) → bit_or a b % 2 ≡ max (a % 2) (b % 2)
or_mod2 a b = omega (arith, or_step a b)

pub bit_and_lem : (x y c : ℕ) → bit (bit_and x y) c ≡ (bit x c && bit y c)
bit_and_lem x y c =
    ap (λ (n : ℕ). eqb (n % 2) 1) (and_shr x y c)
    ∙ ap (λ (n : ℕ). eqb n 1) (and_mod2 (x / 2 ^ c) (y / 2 ^ c))
    ∙ and_digit (x / 2 ^ c % 2) (y / 2 ^ c % 2) (digit (x / 2 ^ c)) (digit (y / 2 ^ c))

pub bit_or_lem : (x y c : ℕ) → bit (bit_or x y) c ≡ (bit x c || bit y c)
bit_or_lem x y c =
    ap (λ (n : ℕ). eqb (n % 2) 1) (or_shr x y c)
    ∙ ap (λ (n : ℕ). eqb n 1) (or_mod2 (x / 2 ^ c) (y / 2 ^ c))
    ∙ or_digit (x / 2 ^ c % 2) (y / 2 ^ c % 2) (digit (x / 2 ^ c)) (digit (y / 2 ^ c))

pub bit_none : (c : ℕ) → bit 0 c ≡ false
bit_none c = ap (λ (n : ℕ). eqb (n % 2) 1) (zero-div (2 ^ c))

pub member_some : (x c : ℕ) → T (bit x c) → x ≢ 0
member_some x c t e = T_not (ap (λ (y : ℕ). bit y c) e ∙ bit_none c) t

-- no bit is set above a number
pub bit_high : (n x c : ℕ) → x < 2 ^ n → n ≤ c → bit x c ≡ false
bit_high n x c h l =
    let q : x < 2 ^ c = lt_of_lt_of_le h (pow-le-pow_right (omega arith) l) in
    ap (λ (k : ℕ). eqb (k % 2) 1) (div-eq_of_lt q)

pub member_lt : (n x c : ℕ) → x < 2 ^ n → T (bit x c) → c < n
member_lt n x c h t = ⊎_elim (λ l. l) (λ l. absurd (T_not (bit_high n x c h l) t)) (lt_dec c n)

-- ---- sets with the same members are one number

bit_zero : (x : ℕ) → bit x 0 ≡ eqb (x % 2) 1
bit_zero x = let e : x / 2 ^ 0 ≡ x = omega arith in ap (λ (n : ℕ). eqb (n % 2) 1) e

bit_suc : (x c : ℕ) → bit x (suc c) ≡ bit (x / 2) c
bit_suc x c = ap (λ (n : ℕ). eqb (n % 2) 1) (sym (shr-shr x 1 c ∙ ap (λ (k : ℕ). x / 2 ^ k) (omega arith)))

same_digit : (p q : ℕ) → p < 2 → q < 2 → eqb p 1 ≡ eqb q 1 → p ≡ q
same_digit p q l m e =
    ⊎_elim
    (λ t. eqb-true p 1 t ∙ sym (eqb-true q 1 (sym e ∙ t)))
    (λ t. let h = eqb-false p 1 t in let k = eqb-false q 1 (sym e ∙ t) in omega arith)
    (split (eqb p 1))

double : (n : ℕ) → 2 ^ suc n ≡ 2 ^ n * 2
double n = ap (λ (k : ℕ). 2 ^ k) (sym (add-one n)) ∙ pow-add 2 n 1

pub mask_ext : (n x y : ℕ) → x < 2 ^ n → y < 2 ^ n → ((c : ℕ) → c < n → bit x c ≡ bit y c) → x ≡ y
mask_ext zero x y l m h = omega arith
mask_ext (suc n) x y l m h =
    let p : 2 ^ suc n ≡ 2 ^ n * 2 = double n in
    let d : x % 2 ≡ y % 2 = same_digit _ _ (digit x) (digit y) (sym (bit_zero x) ∙ h 0 (omega arith) ∙ bit_zero y) in
    let e : x / 2 ≡ y / 2 = mask_ext n (x / 2) (y / 2) (omega arith) (omega arith) (λ c k. sym (bit_suc x c) ∙ h (suc c) (omega arith) ∙ bit_suc y c) in
    omega arith

-- ---- the set of a test

weight_le : (b : Bool) (x : ℕ) → cond b x 0 ≤ x
weight_le true x = omega arith
weight_le false x = omega arith

pub mask_lt : (n : ℕ) (f : ℕ → Bool) → mask_of n f < 2 ^ n
unfolding mask_of
mask_lt zero f = omega arith
mask_lt (suc n) f = omega (arith, mask_lt n f, weight_le (f n) (2 ^ n), double n)

-- a low part below 2 ^ n, and a digit at n
bit_top : (n x : ℕ) (b : Bool) → x < 2 ^ n → bit (x + cond b (2 ^ n) 0) n ≡ b
bit_top n x true l =
    let q : x + 2 ^ n ≡ 1 * 2 ^ n + x = omega arith in
    ap (λ (m : ℕ). eqb (m / 2 ^ n % 2) 1) q ∙ ap (λ (m : ℕ). eqb (m % 2) 1) (high 1 n l)
bit_top n x false l =
    let q : x + 0 ≡ 0 * 2 ^ n + x = omega arith in
    ap (λ (m : ℕ). eqb (m / 2 ^ n % 2) 1) q ∙ ap (λ (m : ℕ). eqb (m % 2) 1) (high 0 n l)

-- below n the digit at n does not show
bit_low : (n x c : ℕ) (b : Bool) → c < n → bit (x + cond b (2 ^ n) 0) c ≡ bit x c
bit_low n x c true l =
    let d : ℕ = n - suc c in
    let e : n ≡ suc d + c = omega arith in
    let p : 2 ^ n ≡ 2 ^ d * 2 * 2 ^ c = ap (λ (k : ℕ). 2 ^ k) e ∙ pow-add 2 (suc d) c ∙ ap (λ (k : ℕ). k * 2 ^ c) (double d) in
    let q : (x + 2 ^ n) / 2 ^ c ≡ x / 2 ^ c + 2 ^ d * 2 = ap (λ (k : ℕ). (x + k) / 2 ^ c) p ∙ add-mul-div_right x (2 ^ d * 2) (pow_pos c) in
    ap (λ (m : ℕ). eqb (m % 2) 1) q ∙ (let r : (x / 2 ^ c + 2 ^ d * 2) % 2 ≡ x / 2 ^ c % 2 = omega arith in ap (λ (m : ℕ). eqb m 1) r)
bit_low n x c false l = let q : x + 0 ≡ x = omega arith in ap (λ (m : ℕ). bit m c) q

pub bit_mask : (n : ℕ) (f : ℕ → Bool) (c : ℕ) → c < n → bit (mask_of n f) c ≡ f c
unfolding mask_of
bit_mask zero f c l = absurd (not-suc-le-zero l)
bit_mask (suc n) f c l =
    ⊎_elim
    (λ e. subst (λ (k : ℕ). bit (mask_of n f + cond (f n) (2 ^ n) 0) k ≡ f k) (sym e) (bit_top n (mask_of n f) (f n) (mask_lt n f)))
    (λ m. bit_low n (mask_of n f) c (f n) m ∙ bit_mask n f c m)
    (at_or_below l)

-- what has f's members is f's set
pub mask_is : (n x : ℕ) (f : ℕ → Bool) → x < 2 ^ n → ((c : ℕ) → c < n → bit x c ≡ f c) → x ≡ mask_of n f
mask_is n x f l h = mask_ext n x (mask_of n f) l (mask_lt n f) (λ c k. h c k ∙ sym (bit_mask n f c k))

-- a set whose test holds only below n, read back at any number
pub bit_mask_all : (n : ℕ) (f : ℕ → Bool) → ((k : ℕ) → T (f k) → k < n) → (k : ℕ) → bit (mask_of n f) k ≡ f k
bit_mask_all n f h k = ⊎_elim (λ l. bit_mask n f k l) (λ l. bit_high n (mask_of n f) k (mask_lt n f) l ∙ sym (off l)) (lt_dec k n)
  where
    off : n ≤ k → f k ≡ false
    off l = ⊎_elim (λ t. absurd (omega (arith, h k (T_of t)))) (λ t. t) (split (f k))

pub mask_none : (f : ℕ → Bool) → 0 ≡ mask_of 0 f
unfolding mask_of
mask_none f = refl

pub mask_more : (n : ℕ) (f : ℕ → Bool) → mask_of (n + 1) f ≡ mask_of n f + cond (f n) (2 ^ n) 0
unfolding mask_of
mask_more n f = rw (add-one n)

-- the set of all numbers below z, as a number
mask_all : (z : ℕ) → mask_of z (λ _. true) ≡ 2 ^ z - 1
unfolding mask_of
mask_all zero = refl
mask_all (suc z) = let e = mask_all z in let p = double z in let q = pow_pos z in omega arith

pub full_bit : (z b : ℕ) → b < z → bit (2 ^ z - 1) b ≡ true
full_bit z b h = ap (λ (x : ℕ). bit x b) (sym (mask_all z)) ∙ bit_mask z (λ _. true) b h

-- and as a set of numbers below n
pub below_mask : (n z : ℕ) → z ≤ n → 2 ^ z - 1 ≡ mask_of n (λ c. ltb c z)
below_mask n z l = let p : 2 ^ z ≤ 2 ^ n = pow_mono l in mask_is n (2 ^ z - 1) (λ c. ltb c z) (omega (arith, pow_pos z)) (λ c k. go c (lt_dec c z))
  where
    go : (c : ℕ) → (c < z) ⊎ (z ≤ c) → bit (2 ^ z - 1) c ≡ ltb c z
    go c (inl h) = full_bit z c h ∙ sym (lt-ltb c z h)
    go c (inr h) = bit_high z (2 ^ z - 1) c (omega (arith, pow_pos z)) h ∙ sym (le-ltb c z h)

-- ---- the members left out, and the lowest member

-- a set and what it leaves out are all
either : (b : Bool) (x : ℕ) → cond b x 0 + cond (not b) x 0 ≡ x
either true x = omega arith
either false x = omega arith

two_sums : (n : ℕ) (f : ℕ → Bool) → mask_of n f + mask_of n (λ c. not (f c)) + 1 ≡ 2 ^ n
unfolding mask_of
two_sums zero f = refl
two_sums (suc n) f = omega (arith, two_sums n f, either (f n) (2 ^ n), double n)

-- the members that x lacks
pub bit_not : (n x c : ℕ) → x < 2 ^ n → c < n → bit (2 ^ n - 1 - x) c ≡ not (bit x c)
bit_not n x c l m =
    let e : 2 ^ n - 1 - x ≡ mask_of n (λ c. not (bit x c)) = omega (arith, two_sums n (bit x), mask_is n x (bit x) l (λ c k. refl)) in
    ap (λ (y : ℕ). bit y c) e ∙ bit_mask n (λ c. not (bit x c)) c m

pub bit_not16 : (x c : ℕ) → x < 2 ^ 16 → c < 16 → bit (65535 - x) c ≡ not (bit x c)
bit_not16 = bit_not 16

-- what x has of y, taken from x
pub without_met : (n x y : ℕ) → x < 2 ^ n → y < 2 ^ n → bit_and x (2 ^ n - 1 - bit_and x y) ≡ bit_and x (2 ^ n - 1 - y)
without_met n x y l m =
    mask_ext n (bit_and x (2 ^ n - 1 - bit_and x y)) (bit_and x (2 ^ n - 1 - y)) (lt_of_le_of_lt (and_le_l x _) l) (lt_of_le_of_lt (and_le_l x _) l)
    (λ c k. bit_and_lem x (2 ^ n - 1 - bit_and x y) c ∙ ap (λ (b : Bool). bit x c && b) (bit_not n (bit_and x y) c (lt_of_le_of_lt (and_le_l x y) l) k ∙ ap not (bit_and_lem x y c))
    ∙ again (bit x c) (bit y c) ∙ ap (λ (b : Bool). bit x c && b) (sym (bit_not n y c m k)) ∙ sym (bit_and_lem x (2 ^ n - 1 - y) c))
  where
    again : (a b : Bool) → (a && not (a && b)) ≡ (a && not b)
    again true b = refl
    again false b = refl

-- ---- one bit, by `&` and `|` with a power of 2

-- a power of 2 is the set of one number
pub bit_single : (b c : ℕ) → bit (2 ^ b) c ≡ eqb c b
bit_single b c =
    let z : 2 ^ b ≡ 0 + 2 ^ b = omega arith in
    ⊎_elim
    (λ l. ap (λ (k : ℕ). bit k c) z ∙ bit_low b 0 c true l ∙ bit_none c ∙ sym (ne_eqb c b (λ e. absurd (omega arith))))
    (λ l. ⊎_elim
    (λ e. ap (λ (k : ℕ). bit (2 ^ b) k) e ∙ ap (λ (k : ℕ). bit k b) z ∙ bit_top b 0 true (pow_pos b) ∙ sym (eq-eqb c b e))
    (λ d. bit_high (suc b) (2 ^ b) c (omega (arith, double b, pow_pos b)) (omega arith) ∙ sym (ne_eqb c b d))
    (eq_dec c b))
    (lt_dec c b)

single_lt : (n b : ℕ) → b < n → 2 ^ b < 2 ^ n
single_lt n b l = lt_of_lt_of_le (omega (arith, double b, pow_pos b)) (pow-le-pow_right (omega arith) l)

-- 2 ^ b as a word of n bits, as a shift makes it
pub one_shifted : (n b : ℕ) → b < n → (1 * 2 ^ b) % 2 ^ n ≡ 2 ^ b
one_shifted n b l = ap (λ (x : ℕ). x % 2 ^ n) (one-mul (2 ^ b)) ∙ mod-eq_of_lt (single_lt n b l)

and_zero : (t : Bool) → (t && false) ≡ false
and_zero true = refl
and_zero false = refl

one_bit : (x b c : ℕ) → bit (bit_and x (2 ^ b)) c ≡ (bit x c && eqb c b)
one_bit x b c = bit_and_lem x (2 ^ b) c ∙ ap (λ (t : Bool). bit x c && t) (bit_single b c)

-- `x & (1 << b) == 0`
pub bit_miss : (x b : ℕ) → bit_and x (2 ^ b) ≡ 0 → bit x b ≡ false
bit_miss x b e =
    sym (and-true (bit x b)) ∙ ap (λ (t : Bool). bit x b && t) (sym (eq-eqb b b refl)) ∙ sym (one_bit x b b) ∙ ap (λ (y : ℕ). bit y b) e ∙ bit_none b

-- `x & (1 << b) != 0`
pub bit_hit : (x b : ℕ) → b < 16 → (bit_and x (2 ^ b) ≡ 0 → ⊥) → bit x b ≡ true
bit_hit x b l h =
    ⊎_elim
    (λ t. t)
    (λ t.
    let q : 2 ^ b ≤ 2 ^ 15 = pow_mono {j = 15} (omega arith) in
    let r = and_le_r x (2 ^ b) in
    absurd (h (mask_ext 16 (bit_and x (2 ^ b)) 0 (omega arith) (omega arith) (λ c m. one_bit x b c ∙ none c t ∙ sym (bit_none c)))))
    (split (bit x b))
  where
    none : (c : ℕ) → bit x b ≡ false → (bit x c && eqb c b) ≡ false
    none c t =
        ⊎_elim
        (λ e. ap (λ (y : ℕ). bit x y && eqb c b) e ∙ ap (λ (u : Bool). u && eqb c b) t)
        (λ d. ap (λ (u : Bool). bit x c && u) (ne_eqb c b d) ∙ and_zero (bit x c))
        (eq_dec c b)

-- a loop that collects the members of a test by `|`: one number more
pub mask_or : (f : ℕ → Bool) (w n y : ℕ) → w ≡ mask_of n f → y ≡ cond (f n) (2 ^ n) 0 → bit_or w y ≡ mask_of (n + 1) f
mask_or f w n y e h = ap (λ (v : ℕ). bit_or v y) e ∙ ap (λ (v : ℕ). bit_or (mask_of n f) v) h ∙ go (f n) ∙ sym (mask_more n f)
  where
    go : (t : Bool) → bit_or (mask_of n f) (cond t (2 ^ n) 0) ≡ mask_of n f + cond t (2 ^ n) 0
    go true =
        let q = or_shifted_r 1 n (mask_of n f) (mask_lt n f) in
        ap (λ (v : ℕ). bit_or (mask_of n f) v) (sym (one-mul (2 ^ n))) ∙ q ∙ (let z : 1 * 2 ^ n + mask_of n f ≡ mask_of n f + 2 ^ n = omega arith in z)
    go false = or_zero_r (mask_of n f) ∙ (let z : mask_of n f ≡ mask_of n f + 0 = omega arith in z)

-- ---- one member put in or taken out

pub bit_with : (x b c : ℕ) → bit (bit_or x (2 ^ b)) c ≡ (bit x c || eqb c b)
bit_with x b c = bit_or_lem x (2 ^ b) c ∙ ap (λ (t : Bool). bit x c || t) (bit_single b c)

pub with_keeps : (x b c : ℕ) → T (bit x c) → T (bit (bit_or x (2 ^ b)) c)
with_keeps x b c t = subst T (sym (bit_with x b c)) ((or_iff (bit x c) (eqb c b)).1 (inl t))

pub with_has : (x b : ℕ) → T (bit (bit_or x (2 ^ b)) b)
with_has x b = subst T (sym (bit_with x b b)) ((or_iff (bit x b) (eqb b b)).1 (inr ((eqb_iff b b).1 refl)))

pub with_lt : (n x b : ℕ) → x < 2 ^ n → b < n → bit_or x (2 ^ b) < 2 ^ n
with_lt n x b l m = or_lt n x (2 ^ b) l (single_lt n b m)

pub bit_without : (n x b c : ℕ) → b < n → c < n → bit (without n x b) c ≡ (bit x c && not (eqb c b))
bit_without n x b c l m = bit_and_lem x (2 ^ n - 1 - 2 ^ b) c ∙ ap (λ (t : Bool). bit x c && t) (bit_not n (2 ^ b) c (single_lt n b l) m ∙ ap not (bit_single b c))

pub bit_without16 : (x b c : ℕ) → b < 16 → c < 16 → bit (without 16 x b) c ≡ (bit x c && not (eqb c b))
bit_without16 = bit_without 16

pub bit_without32 : (x b c : ℕ) → b < 32 → c < 32 → bit (without 32 x b) c ≡ (bit x c && not (eqb c b))
bit_without32 = bit_without 32

-- ---- two sets side by side

module _ (n x y c : ℕ) where
  -- below n it is the first
  pub bit_first : c < n → bit (x + 2 ^ n * y) c ≡ bit x c
  bit_first l =
      let d : ℕ = n - suc c in
      let e : n ≡ suc d + c = omega arith in
      let p : 2 ^ n ≡ 2 ^ d * 2 * 2 ^ c = ap (λ (k : ℕ). 2 ^ k) e ∙ pow-add 2 (suc d) c ∙ ap (λ (k : ℕ). k * 2 ^ c) (double d) in
      let r : 2 ^ n * y ≡ 2 ^ d * y * 2 * 2 ^ c = ap (λ (k : ℕ). k * y) p ∙ moved (2 ^ d) (2 ^ c) in
      let q : (x + 2 ^ n * y) / 2 ^ c ≡ x / 2 ^ c + 2 ^ d * y * 2 = ap (λ (k : ℕ). (x + k) / 2 ^ c) r ∙ add-mul-div_right x (2 ^ d * y * 2) (pow_pos c) in
      ap (λ (m : ℕ). eqb (m % 2) 1) q ∙ (let z : (x / 2 ^ c + 2 ^ d * y * 2) % 2 ≡ x / 2 ^ c % 2 = omega arith in ap (λ (m : ℕ). eqb m 1) z)
    where
      moved : (a b : ℕ) → a * 2 * b * y ≡ a * y * 2 * b
      moved a b = mul_comm (a * 2 * b) y ∙ sym (mul_assoc y (a * 2) b) ∙ ap (λ (k : ℕ). k * b) (sym (mul_assoc y a 2) ∙ ap (λ (k : ℕ). k * 2) (mul_comm y a))

  -- and from n on the second
  pub bit_second : x < 2 ^ n → n ≤ c → bit (x + 2 ^ n * y) c ≡ bit y (c - n)
  bit_second l m =
      let e : n + (c - n) ≡ c = omega arith in
      let q : (x + 2 ^ n * y) / 2 ^ n ≡ y = ap (λ (k : ℕ). k / 2 ^ n) (turned (2 ^ n)) ∙ high y n l in
      ap (λ (k : ℕ). eqb (k % 2) 1)
      (ap (λ (k : ℕ). (x + 2 ^ n * y) / 2 ^ k) (sym e) ∙ sym (shr-shr (x + 2 ^ n * y) n (c - n)) ∙ ap (λ (k : ℕ). k / 2 ^ (c - n)) q)
    where
      turned : (a : ℕ) → x + a * y ≡ y * a + x
      turned a = let p = mul_comm a y in omega arith

-- the zeros below a set's lowest member are its number
pub zeros_lowest : (n x : ℕ) → count_trailing_zeros n x ≡ lowest n (bit x)
unfolding count_trailing_zeros lowest
zeros_lowest zero x = refl
zeros_lowest (suc n) x = go (x % 2) refl (zeros_lowest n (x / 2))
  where
    go : (r : ℕ) → x % 2 ≡ r → count_trailing_zeros n (x / 2) ≡ lowest n (bit (x / 2)) → under (x % 2) (count_trailing_zeros n (x / 2)) ≡ lowest (suc n) (bit x)
    go zero e ih =
        ap (λ (r : ℕ). under r (count_trailing_zeros n (x / 2))) e ∙ ap suc (ih ∙ (λ i. lowest n (λ k. sym (bit_suc x k) i)))
        ∙ sym (lowest_later n (bit x) (bit_zero x ∙ ne_eqb (x % 2) 1 (λ h. omega arith)))
    go (suc r) e ih = ap (λ (r : ℕ). under r (count_trailing_zeros n (x / 2))) e ∙ sym (lowest_here n (bit x) (bit_zero x ∙ eq-eqb (x % 2) 1 (omega arith)))

-- ---- whole words

-- x is within y, as one comparison
pub within : (n x y : ℕ) → x < 2 ^ n → eqb (bit_and x y) x ≡ all_below n (λ c. imp (bit x c) (bit y c))
within n x y h =
    T_ext (
      λ t. (all_iff n _).1 (λ c l. (imp_iff (bit x c) (bit y c)).1 (λ u. ((and_iff (bit x c) (bit y c)).0 (subst T (bit_and_lem x y c) (subst (λ (z : ℕ). T (bit z c)) (sym ((eqb_iff (bit_and x y) x).0 t)) u))).1)),
      λ t. (eqb_iff (bit_and x y) x).1 (mask_ext n (bit_and x y) x (lt_of_le_of_lt (and_le_l x y) h) h (λ c l. bit_and_lem x y c ∙ T_ext (λ u. ((and_iff (bit x c) (bit y c)).0 u).0, λ u. (and_iff (bit x c) (bit y c)).1 (u, (imp_iff (bit x c) (bit y c)).0 ((all_iff n _).0 t c l) u)))),
    )

-- the highest member stands below the zeros
pub zeros_highest : (n x r : ℕ) → x < 2 ^ n → x ≢ 0 → count_leading_zeros n x + suc r ≡ n → Highest n x r
zeros_highest n x r l d e =
    let t = leading_top n x (omega arith) l in
    let q : t.0 ≡ r = omega (arith, t.1) in
    subst (Highest n x) q (record {
      small = omega (arith, t.1);
      member = T_of (let z : x - 2 ^ t.0 + 2 ^ t.0 ≡ x = omega (arith, t.2) in ap (λ (y : ℕ). bit y t.0) (sym z) ∙ bit_top t.0 (x - 2 ^ t.0) true (omega (arith, t.2, t.3, double t.0)));
      none_above = λ c h k on. T_not (bit_high (suc t.0) x c t.3 h) on;
    })

-- and there are fewer of them than places
pub zeros_less : (n x : ℕ) → x < 2 ^ n → x ≢ 0 → count_leading_zeros n x < n
zeros_less n x l d = let t = leading_top n x (omega arith) l in omega (arith, t.1)

-- a set that is 0 has no member
pub zero_bits : (n x : ℕ) → x < 2 ^ n → eqb x 0 ≡ not (any_below n (bit x))
zero_bits n x l =
    ⊎_elim
    (λ t. ne_eqb x 0 (λ e. clash t (ap (λ (m : ℕ). any_below n (bit m)) e ∙ any_intro (bit 0) n (λ k h. bit_none k))) ∙ ap not (sym t))
    (λ t. eq-eqb x 0 (mask_ext n x 0 l (pow_pos n) (λ c k. any_each (bit x) n t c k ∙ sym (bit_none c))) ∙ ap not (sym t))
    (split (any_below n (bit x)))

-- at the lowest member of a set: there is none, or it is the number of the zeros below it
module _ {A : Type 0} (g : ℕ → A) (z : A) (n x : ℕ) (l : x < 2 ^ n) where
  pub at_lowest_zero : x ≡ 0 → at_lowest n (bit x) g z ≡ z
  at_lowest_zero e = at_lowest_end (bit x) g z n (any_intro (bit x) n (λ k h. ap (λ (y : ℕ). bit y k) e ∙ bit_none k))

  pub at_lowest_member : (x ≡ 0 → ⊥) → at_lowest n (bit x) g z ≡ g (lowest n (bit x))
  at_lowest_member d = at_lowest_some (bit x) g z n (⊎_elim (λ e. e) (λ e. absurd (clash (zero_bits n x l ∙ ap not e) (ne_eqb x 0 d))) (split (any_below n (bit x))))
