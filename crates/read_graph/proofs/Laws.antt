-- One turn of each loop of the reader. Assumes nothing.
use mathlib.Core.Path.{◌≡◌, refl, sym, ap, ◌∙◌, subst}
use mathlib.Core.Bool.{Bool, true, false, ◌&&◌, ◌||◌}
use mathlib.Core.List.{List, [], ◌∷◌}
use mathlib.Core.Logic.{⊎_elim, ◌≢◌}
use Prim.Native.Nat.{ℕ, zero, suc, ◌+◌, ◌-◌, ◌*◌, ◌^◌, ◌≤◌, ◌<◌}
use native.Mathlib.Nat.{pow-suc, pow-le-pow_right}
use native.Mathlib.Numerals.{add-one}
use native.Mathlib.Omega.{arith}
use lib.Dec.{eqb, leb}
use borrow.Author.Tests.{leb-true, eq-eqb, ne_eqb, eqb-false}
use lib.ListN.{length, drop, get_or, drop_of_length-le, get_or-eq_default}
use lib.Seq.{drop-cons}
use Rattle.std.specs.Prelude.{nat_eq}
use Rattle.std.specs.List.{starts_with}
use Rattle.bounded.proofs.Truth.{lt_dec, clash, both, neither}
use Rattle.graph.specs.Graph.{is_digit, decimal_from, decimal_of, begins}
use Rattle.graph.specs.Scan.{line_in, digits_in}
use Rattle.graph.proofs.Fields.{digits_more, digits_stop, drop_at}
use Rattle.graph.proofs.Lines.{line_none, line_more}
use Rattle.read_graph.specs.Parts.{Passing, ends_in_four, ends_in_eight}

-- ---- a byte of a file, which ends as a line does

-- what is read where nothing stands does not matter within a list
pub get_d_any : (l : List ℕ) (k d e : ℕ) → k < length l → get_or l k d ≡ get_or l k e
get_d_any [] k d e h = absurd (omega arith)
get_d_any (x ∷ l) zero d e h = refl
get_d_any (x ∷ l) (suc k) d e h = get_d_any l k d e (omega arith)

-- a byte that is not a newline stands in the file
pub byte_within : (f : List ℕ) (k : ℕ) → get_or f k 10 ≢ 10 → k < length f
byte_within f k n = ⊎_elim (λ (h : k < length f). h) (λ (h : length f ≤ k). absurd (n (get_or-eq_default f 10 h))) (lt_dec k (length f))

pub digit_within : (f : List ℕ) (k : ℕ) → is_digit (get_or f k 10) ≡ true → k < length f
digit_within f k d = byte_within f k (λ e. clash {b = is_digit 10} (ap is_digit (sym e) ∙ d) refl)

-- what is left at a place is its byte and what is left at the next
pub drop_next : (f : List ℕ) (k : ℕ) → k < length f → drop k f ≡ get_or f k 10 ∷ drop (k + 1) f
drop_next f k h = drop-cons f k 10 h ∙ ap (λ (n : ℕ). get_or f k 10 ∷ drop n f) (sym (add-one k))

-- ---- digits

-- k digits say less than 10 ^ k, and nine fit
pub tens_more : (v k d : ℕ) → v < 10 ^ k → d ≤ 9 → v * 10 + d < 10 ^ (k + 1)
tens_more v k d h l = let e : 10 ^ (k + 1) ≡ 10 ^ k * 10 = ap (λ (n : ℕ). 10 ^ n) (add-one k) ∙ pow-suc 10 k in omega arith

pub tens_fit : (v k : ℕ) → v < 10 ^ k → k < 10 → v < 1000000000
tens_fit v k h l = let m : 10 ^ k ≤ 10 ^ 9 = pow-le-pow_right {n = 10} (omega arith) (let q : k ≤ 9 = omega arith in q) in omega arith

-- a digit is one of ten
pub digit_low : (x : ℕ) → is_digit x ≡ true → (48 ≤ x) × (x ≤ 57)
digit_low x d = let q = both (leb 48 x) (leb x 57) d in (leb-true 48 x q.0, leb-true x 57 q.1)

-- of the digits from p, k were read and make v: those still to come, from p + k
pub record Digiting (f : List ℕ) (p v k : ℕ) : Type 0 where
  pub few : k ≤ 10
  pub small : v < 10 ^ k
  pub value : decimal_from v (digits_in (10 - k) (drop (p + k) f)) ≡ decimal_of (digits_in 10 (drop p f))
  pub long : k + length (digits_in (10 - k) (drop (p + k) f)) ≡ length (digits_in 10 (drop p f))

pub digits_start : (f : List ℕ) (p : ℕ) → Digiting f p 0 0
digits_start f p =
    let q : p + 0 ≡ p = omega arith in
    record { few = omega arith; small = omega arith; value = rw q; long = rw q (omega arith) }

module _ (f : List ℕ) (p v k : ℕ) (I : Digiting f p v k) (more : k < 10) where
  left : 10 - k ≡ suc (10 - (k + 1))
  left = omega arith

  pub digits_turn : is_digit (get_or f (p + k) 10) ≡ true → Digiting f p (v * 10 + (get_or f (p + k) 10 - 48)) (k + 1)
  unfolding decimal_from
  digits_turn d =
      let h = digit_within f (p + k) d in
      let q : p + k + 1 ≡ p + (k + 1) = omega arith in
      let e : digits_in (10 - k) (drop (p + k) f) ≡ get_or f (p + k) 10 ∷ digits_in (10 - (k + 1)) (drop (p + (k + 1)) f) =
      ap (λ (n : ℕ). digits_in n (drop (p + k) f)) left ∙ ap (digits_in (suc (10 - (k + 1)))) (drop_next f (p + k) h) ∙ digits_more (10 - (k + 1)) (get_or f (p + k) 10) (drop (p + k + 1) f) d
      ∙ ap (λ (n : ℕ). get_or f (p + k) 10 ∷ digits_in (10 - (k + 1)) (drop n f)) q in
      let b = digit_low (get_or f (p + k) 10) d in
      let b0 = b.0 in
      let b1 = b.1 in
      let l = ap length e in
      let m = I.long in
      record {
        few = omega arith;
        small = tens_more v k (get_or f (p + k) 10 - 48) I.small (omega arith);
        value = ap (decimal_from v) (sym e) ∙ I.value;
        long = omega arith;
      }

  pub digits_over : is_digit (get_or f (p + k) 10) ≡ false → (v ≡ decimal_of (digits_in 10 (drop p f))) × (p + k ≡ p + length (digits_in 10 (drop p f)))
  unfolding decimal_from digits_in
  digits_over d =
      let e : digits_in (10 - k) (drop (p + k) f) ≡ [] = ap (λ (n : ℕ). digits_in n (drop (p + k) f)) left ∙ stop (drop (p + k) f) (drop_at f (p + k) 10 ∙ refl) in
      let l = ap length e in
      let m = I.long in
      (ap (decimal_from v) (sym e) ∙ I.value, omega arith)
    where
      stop : (r : List ℕ) → get_or r 0 10 ≡ get_or f (p + k) 10 → digits_in (suc (10 - (k + 1))) r ≡ []
      stop [] q = refl
      stop (x ∷ r) q = digits_stop (10 - (k + 1)) x r (ap is_digit q ∙ d)

pub digits_full : (f : List ℕ) (p v k : ℕ) → Digiting f p v k → 10 ≤ k → (v ≡ decimal_of (digits_in 10 (drop p f))) × (p + k ≡ p + length (digits_in 10 (drop p f)))
unfolding decimal_from digits_in
digits_full f p v k I h =
    let few = I.few in
    let z : 10 - k ≡ 0 = omega arith in
    let e : digits_in (10 - k) (drop (p + k) f) ≡ [] = ap (λ (n : ℕ). digits_in n (drop (p + k) f)) z in
    let l = ap length e in
    let m = I.long in
    (ap (decimal_from v) (sym e) ∙ I.value, omega arith)

-- ---- the end of a line

pub line_turn : (f : List ℕ) (p k : ℕ) → Passing f p k → k < length f → get_or f k 0 ≢ 10 → Passing f p (k + 1)
line_turn f p k I h n =
    let q : get_or f k 10 ≢ 10 = λ e. n (get_d_any f k 0 10 h ∙ e) in
    let e : line_in (drop k f) ≡ get_or f k 10 ∷ line_in (drop (k + 1) f) = ap line_in (drop_next f k h) ∙ line_more (get_or f k 10) (drop (k + 1) f) (ne_eqb (get_or f k 10) 10 q) in
    let l = ap length e in
    let m = I.rest in
    record { within = omega arith; rest = omega arith }

pub line_hit : (f : List ℕ) (p k : ℕ) → Passing f p k → k < length f → get_or f k 0 ≡ 10 → k ≡ p + length (line_in (drop p f))
line_hit f p k I h n =
    let q : get_or f k 10 ≡ 10 = sym (get_d_any f k 0 10 h) ∙ n in
    let e : line_in (drop k f) ≡ [] = ap line_in (drop_next f k h) ∙ line_none (get_or f k 10) (drop (k + 1) f) (eq-eqb (get_or f k 10) 10 q) in
    let l = ap length e in
    let m = I.rest in
    omega arith

pub line_last : (f : List ℕ) (p k : ℕ) → Passing f p k → length f ≤ k → k ≡ p + length (line_in (drop p f))
unfolding line_in
line_last f p k I h =
    let e : line_in (drop k f) ≡ [] = ap line_in (drop_of_length-le f {i = k} h) in
    let l = ap length e in
    let m = I.rest in
    omega arith

-- a byte that does not end it is passed, and so are four
line_one : (f : List ℕ) (p k m : ℕ) → Passing f p k → k < length f → eqb (get_or f k 0) 10 ≡ false → k + 1 ≡ m → Passing f p m
line_one f p k m I h n e = subst (Passing f p) e (line_turn f p k I h (eqb-false (get_or f k 0) 10 n))

line_four : (f : List ℕ) (p k : ℕ) → Passing f p k → k + 4 ≤ length f → ends_in_four f k ≡ false → Passing f p (k + 4)
line_four f p k I h n =
    let at : ℕ → Bool = λ j. eqb (get_or f j 0) 10 in
    let a = neither (at k || at (k + 1)) (at (k + 2) || at (k + 3)) n in
    let b = neither (at k) (at (k + 1)) a.0 in
    let c = neither (at (k + 2)) (at (k + 3)) a.1 in
    line_one f p (k + 3) (k + 4) (line_one f p (k + 2) (k + 3) (line_one f p (k + 1) (k + 2) (line_one f p k (k + 1) I (omega arith) b.0 (omega arith)) (omega arith) b.1 (omega arith)) (omega arith) c.0 (omega arith)) (omega arith) c.1 (omega arith)

pub line_eight : (f : List ℕ) (p k : ℕ) → Passing f p k → k + 8 ≤ length f → ends_in_eight f k ≡ false → Passing f p (k + 8)
line_eight f p k I h n =
    let e : k + 4 + 4 ≡ k + 8 = omega arith in
    let a = neither (ends_in_four f k) (ends_in_four f (k + 4)) n in
    subst (Passing f p) e (line_four f p (k + 4) (line_four f p k I (omega arith) a.0) (omega arith) a.1)

-- ---- a word

-- it begins a text exactly where the library finds it at the front
pub begins_starts : (w r : List ℕ) → starts_with nat_eq r w ≡ begins w r
unfolding begins
begins_starts [] r = refl
begins_starts (x ∷ w) [] = refl
begins_starts (x ∷ w) (y ∷ r) = ap (λ (t : Bool). eqb x y && t) (begins_starts w r)
