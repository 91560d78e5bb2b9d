-- What stands in a list from a place on: bytes just written, read again; and bytes that are read, written again. Assumes nothing.
use mathlib.Core.Path.{◌≡◌, refl, sym, ap, ◌∙◌}
use mathlib.Core.List.{List, [], ◌∷◌, ◌++◌}
use Prim.Native.Nat.{ℕ, zero, suc, ◌+◌, ◌*◌, ◌/◌, ◌%◌, ◌^◌, ◌≤◌, ◌<◌}
use native.Mathlib.Nat.{add-zero, div-add-mod', mod-lt, mod-eq_of_lt, div-eq_of_lt, mul-add-div_right, mul-add-mod_self_right, mul-le-mul_right, add-mul, mul_assoc, suc-mul, pow-suc, pow-succ'}
use native.Mathlib.Omega.{arith}
use lib.ListN.{length, get_or, drop, length-append}
use lib.Seq.{drop-drop, drop-append_seam, drop-cons, get_or-drop}
use Rattle.bounded.specs.Table.{tab}
use Rattle.buffers.specs.Bytes.{byte_at, number_at, number_bytes, AreBytes}

-- ---- the bytes of a number

pub pow_some : (w : ℕ) → 0 < 256 ^ w
pow_some zero = omega arith
pow_some (suc w) = let h = pow_some w in rw (pow-suc 256 w) (omega arith)

pub length_number : (w x : ℕ) → length (number_bytes w x) ≡ w
length_number zero x = refl
length_number (suc w) x = ap suc (length_number w x)

-- a byte worth m and what is below m are what is below 256 m
digit_joined : (x m : ℕ) → 0 < m → x / m % 256 * m + x % m ≡ x % (256 * m)
digit_joined x m h =
    let h' = x / m / 256 in
    let l = x / m % 256 in
    let e : x / m / 256 * 256 + x / m % 256 ≡ x / m = div-add-mod' (x / m) 256 in
    let d : x / m * m ≡ x / m / 256 * (256 * m) + x / m % 256 * m = ap (λ (y : ℕ). y * m) (sym e) ∙ add-mul (h' * 256) l m ∙ ap (λ (y : ℕ). y + l * m) (mul_assoc h' 256 m) in
    let f : x / m * m + x % m ≡ x = div-add-mod' x m in
    let g : x ≡ x / m / 256 * (256 * m) + (x / m % 256 * m + x % m) = omega arith in
    let r = mod-lt x h in
    let k : l < 256 = mod-lt (x / m) (omega arith) in
    let b : suc l * m ≤ 256 * m = mul-le-mul_right m k in
    let c = suc-mul l m in
    let q : l * m + x % m < 256 * m = omega arith in
    sym (ap (λ (y : ℕ). y % (256 * m)) g ∙ mul-add-mod_self_right h' (256 * m) (l * m + x % m) ∙ mod-eq_of_lt q)

-- the bytes of a number tell no more of it than they have room for
number_low : (w k x : ℕ) → number_bytes w (k * 256 ^ w + x) ≡ number_bytes w x
number_low zero k x = refl
number_low (suc w) k x =
    let m = 256 ^ w in
    let e : k * 256 ^ suc w ≡ k * 256 * m = ap (λ (y : ℕ). k * y) (pow-succ' 256 w) ∙ sym (mul_assoc k 256 m) in
    let q = mul-add-div_right (pow_some w) (k * 256) x in
    let d : (k * 256 * m + x) / m % 256 ≡ x / m % 256 = ap (λ (y : ℕ). y % 256) q ∙ mul-add-mod_self_right k 256 (x / m) in
    ap (λ (y : ℕ). number_bytes (suc w) (y + x)) e ∙ (λ i. d i ∷ number_low w (k * 256) x i)

-- ---- what stands

-- from p on, s is r
pub record Stands (s : List ℕ) (p : ℕ) (r : List ℕ) : Type 0 where
  pub rest : drop p s ≡ r
  pub ends : p + length r ≡ length s

module _ (s : List ℕ) where
  pub stands_all : Stands s 0 s
  stands_all = record { rest = refl; ends = omega arith }

  -- the byte k further on
  pub stands_at : (p k : ℕ) (r : List ℕ) → Stands s p r → byte_at s (p + k) ≡ byte_at r k
  stands_at p k r h = sym (get_or-drop p s k 0) ∙ ap (λ (l : List ℕ). get_or l k 0) h.rest

  pub stands_byte : (p x : ℕ) (r : List ℕ) → Stands s p (x ∷ r) → byte_at s p ≡ x
  stands_byte p x r h = ap (byte_at s) (sym (add-zero p)) ∙ stands_at p 0 (x ∷ r) h

  -- past what stands first
  pub stands_over : (p q : ℕ) (xs r : List ℕ) → Stands s p (xs ++ r) → p + length xs ≡ q → Stands s q r
  stands_over p q xs r h e =
      let l = length-append xs r in
      let m = h.ends in
      record {
        rest = ap (λ (k : ℕ). drop k s) (sym e) ∙ sym (drop-drop (length xs) p s) ∙ ap (drop (length xs)) h.rest ∙ drop-append_seam xs r;
        ends = omega arith;
      }

  pub stands_next : (p x : ℕ) (r : List ℕ) → Stands s p (x ∷ r) → Stands s (p + 1) r
  stands_next p x r h = stands_over p (p + 1) (x ∷ []) r h refl

  -- a number that was written is read
  stands_low : (w x p : ℕ) (r : List ℕ) → Stands s p (number_bytes w x ++ r) → number_at s w p ≡ x % 256 ^ w
  stands_low zero x p r t = omega arith
  stands_low (suc w) x p r t =
      let b = stands_byte p (x / 256 ^ w % 256) (number_bytes w x ++ r) t in
      let n = stands_low w x (p + 1) r (stands_next p (x / 256 ^ w % 256) (number_bytes w x ++ r) t) in
      rw (b, n) (digit_joined x (256 ^ w) (pow_some w) ∙ ap (λ (k : ℕ). x % k) (sym (pow-succ' 256 w)))

  pub stands_number : (w x p : ℕ) (r : List ℕ) → x < 256 ^ w → Stands s p (number_bytes w x ++ r) → number_at s w p ≡ x
  stands_number w x p r h t = stands_low w x p r t ∙ mod-eq_of_lt h

  -- ---- and what is read, written again

  -- a byte that stands at p
  pub byte_again : (p : ℕ) → p < length s → drop p s ≡ byte_at s p ∷ drop (p + 1) s
  byte_again p h = let u : suc p ≡ p + 1 = omega arith in drop-cons s p 0 h ∙ ap (λ (k : ℕ). byte_at s p ∷ drop k s) u

  -- bytes that are known one by one
  pub sizes_again : (k p : ℕ) (f : ℕ → ℕ) → p + k ≤ length s → ((i : ℕ) → i < k → byte_at s (p + i) ≡ f i) → drop p s ≡ tab k f ++ drop (p + k) s
  unfolding tab
  sizes_again zero p f h e = let q : p ≡ p + zero = omega arith in ap (λ (k : ℕ). drop k s) q
  sizes_again (suc k) p f h e =
      let q : p + 0 ≡ p = omega arith in
      let b : byte_at s p ≡ f 0 = rw q at (e 0 (omega arith)) in
      let u : p + 1 + k ≡ p + suc k = omega arith in
      let ih = sizes_again k (p + 1) (λ i. f (suc i)) (omega arith) (λ i l. let z : p + suc i ≡ p + 1 + i = omega arith in rw z at (e (suc i) (omega arith))) in
      byte_again p (omega arith) ∙ ap {B = List ℕ} (λ l. byte_at s p ∷ l) ih ∙ rw (b, u)

  module _ (bytes : AreBytes s) where
    number_below : (w p : ℕ) → number_at s w p < 256 ^ w
    number_below zero p = omega arith
    number_below (suc w) p =
        let n = number_below w (p + 1) in
        let b : suc (byte_at s p) * 256 ^ w ≤ 256 * 256 ^ w = mul-le-mul_right (256 ^ w) (bytes p) in
        let e = suc-mul (byte_at s p) (256 ^ w) in
        rw (pow-succ' 256 w) (omega arith)

    -- a number
    pub number_again : (w p : ℕ) → p + w ≤ length s → drop p s ≡ number_bytes w (number_at s w p) ++ drop (p + w) s
    number_again zero p h = ap (λ (k : ℕ). drop k s) (sym (add-zero p))
    number_again (suc w) p h =
        let x = number_at s w (p + 1) in
        let n = number_below w (p + 1) in
        let q = mul-add-div_right (pow_some w) (byte_at s p) x in
        let z = div-eq_of_lt n in
        let b = bytes p in
        let y : (byte_at s p * 256 ^ w + x) / 256 ^ w ≡ byte_at s p = omega arith in
        let d : (byte_at s p * 256 ^ w + x) / 256 ^ w % 256 ≡ byte_at s p = ap (λ (k : ℕ). k % 256) y ∙ mod-eq_of_lt b in
        let ih = number_again w (p + 1) (omega arith) in
        let e : p + 1 + w ≡ p + suc w = omega arith in
        byte_again p (omega arith)
        ∙ (λ i. sym d i ∷ (ih ∙ ap (λ (k : ℕ). number_bytes w x ++ drop k s) e ∙ ap (λ (l : List ℕ). l ++ drop (p + suc w) s) (sym (number_low w (byte_at s p) x))) i)
