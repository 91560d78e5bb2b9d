-- The two ways at a variable: a plan has its lowest value or another. Assumes nothing.
use mathlib.Core.Path.{◌≡◌, refl, sym, ap, subst, ◌∙◌}
use mathlib.Core.Bool.{Bool, true, false}
use mathlib.Core.List.{List}
use mathlib.Core.Logic.{◌⊎◌, inl, inr, ◌≢◌, ⊎_elim}
use Prim.Native.Nat.{ℕ, ◌+◌, ◌^◌, ◌<◌, ◌≤◌}
use native.Mathlib.Nat.{lt_of_le_of_lt}
use native.Mathlib.Omega.{arith}
use lib.Bits.{and_le_l}
use lib.Dec.{T, eqb}
use lib.ListN.{get_or, set, length-set}
use lib.Pow.{pow_mono}
use lib.Seq.{get_or-set_same, get_or-set_other}
use Rattle.bounded.specs.Quantifiers.{lowest, sum_to}
use Rattle.bounded.specs.Mask.{bit}
use Rattle.bounded.proofs.Truth.{T_dec, clash, not_iff, eqb_iff, eq_dec}
use Rattle.bounded.proofs.Quantifiers.{sum_le, sum_lt, count_le, count_lt, count_most}
use Rattle.bounded.proofs.Mask.{bit_single, bit_without16, member_lt, member_some}
use Rattle.bounded.proofs.Members.{lowest_member, part_le, part_lt, without_part, without_other, without_gone}
use Rattle.any_plan.specs.Question.{Sets, Queried, PlanWithin, lowest_of, AnyPlan}
use Rattle.any_plan.specs.Steps.{without_lowest, open_at, open_count, Pruned}
use Rattle.any_plan.proofs.Laws.{only}

-- ---- a set with more than one value

module _ (x : ℕ) (l : x < 2 ^ 16) (d : without_lowest x ≢ 0) where
  small : without_lowest x < 2 ^ 16
  small = lt_of_le_of_lt (and_le_l x _) l

  -- another value than the lowest
  abbrev other : ℕ
  other = lowest 16 (bit (without_lowest x))

  other_in : T (bit (without_lowest x) other)
  other_in = (lowest_member 16 (without_lowest x) small d).1

  other_on : T (bit x other)
  other_on = without_part 16 x (lowest 16 (bit x)) other other_in

  pub some_value : x ≢ 0
  some_value = member_some x other other_on

  low : (lowest 16 (bit x) < 16) × T (bit x (lowest 16 (bit x)))
  low = lowest_member 16 x l some_value

  apart : other ≢ lowest 16 (bit x)
  apart = without_other 16 bit_without16 x (lowest 16 (bit x)) low.0 other (member_lt 16 x other l other_on) other_in

  pub lowest_lt : lowest 16 (bit x) < 16
  lowest_lt = low.0

  -- the two ways are smaller sets
  single_in : (c : ℕ) → T (bit (2 ^ lowest 16 (bit x)) c) → c ≡ lowest 16 (bit x)
  single_in c t = (eqb_iff c (lowest 16 (bit x))).0 (subst T (bit_single (lowest 16 (bit x)) c) t)

  pub single_part : (c : ℕ) → T (bit (2 ^ lowest 16 (bit x)) c) → T (bit x c)
  single_part c t = subst (λ (k : ℕ). T (bit x k)) (sym (single_in c t)) low.1

  pub single_has : T (bit (2 ^ lowest 16 (bit x)) (lowest 16 (bit x)))
  single_has = subst T (sym (bit_single (lowest 16 (bit x)) (lowest 16 (bit x)))) ((eqb_iff (lowest 16 (bit x)) (lowest 16 (bit x))).1 refl)

  pub single_small : 2 ^ lowest 16 (bit x) < 2 ^ 16
  single_small = let p : 2 ^ lowest 16 (bit x) ≤ 2 ^ 15 = pow_mono {j = 15} (omega (arith, low.0)) in omega arith

  pub single_less : 2 ^ lowest 16 (bit x) < x
  single_less = part_lt 16 _ x other single_small (λ c k. single_part c) other_on (λ t. apart (single_in other t))

  pub others_part : (c : ℕ) → T (bit (without_lowest x) c) → T (bit x c)
  others_part c = without_part 16 x (lowest 16 (bit x)) c

  pub others_less : without_lowest x < x
  others_less = part_lt 16 (without_lowest x) x (lowest 16 (bit x)) small (λ c k. others_part c) low.1 (λ t. without_other 16 bit_without16 x (lowest 16 (bit x)) low.0 (lowest 16 (bit x)) low.0 t refl)

  pub others_small : without_lowest x < 2 ^ 16
  others_small = small

  -- a value is the lowest or one of the others
  pub others_has : (c : ℕ) → T (bit x c) → c ≢ lowest 16 (bit x) → T (bit (without_lowest x) c)
  others_has c t n = ⊎_elim (λ h. h) (λ h. absurd (n (without_gone 16 bit_without16 x (lowest 16 (bit x)) low.0 c (member_lt 16 x c l t) t h))) (T_dec (bit (without_lowest x) c))

-- a part of a set has more than one value only where the set has
pub open_part : (x y : ℕ) → x < 2 ^ 16 → y < 2 ^ 16 → ((c : ℕ) → T (bit y c) → T (bit x c)) → without_lowest y ≢ 0 → without_lowest x ≢ 0
open_part x y l m h d e = apart y m d (only x _ l e (h _ (other_on y m d)) ∙ sym (only x _ l e (h _ (low y m d).1)))

-- one value is all of a single set
pub single_closed : (x : ℕ) → x < 2 ^ 16 → without_lowest x ≢ 0 → without_lowest (2 ^ lowest 16 (bit x)) ≡ 0
single_closed x l d = go (eq_dec (without_lowest y) 0)
  where
    y : ℕ
    y = 2 ^ lowest 16 (bit x)

    go : (without_lowest y ≡ 0) ⊎ (without_lowest y ≢ 0) → without_lowest y ≡ 0
    go (inl e) = e
    go (inr n) = let s = single_small x l d in absurd (apart y s n (single_in x l d _ (other_on y s n) ∙ sym (single_in x l d _ (low y s n).1)))

-- ---- the sets' measure

-- the sum of the sets as numbers: it falls with every value that goes
abbrev pub total : List ℕ → ℕ
total on = sum_to 32 (λ j. get_or on j 0)

open_iff : (on : List ℕ) (j : ℕ) → T (open_at on j) → without_lowest (get_or on j 0) ≢ 0
open_iff on j t e = (not_iff (eqb (without_lowest (get_or on j 0)) 0)).0 t ((eqb_iff (without_lowest (get_or on j 0)) 0).1 e)

iff_open : (on : List ℕ) (j : ℕ) → without_lowest (get_or on j 0) ≢ 0 → T (open_at on j)
iff_open on j d = (not_iff (eqb (without_lowest (get_or on j 0)) 0)).1 (λ t. d ((eqb_iff (without_lowest (get_or on j 0)) 0).0 t))

pub none_around : (on : List ℕ) → 0 + open_count on ≤ 32
none_around on = omega (arith, count_most 32 (open_at on))

module _ {lines on left : List ℕ} (S : Sets on) (K : Pruned lines on left) where
  pub pruned_total : total left ≤ total on
  pruned_total = sum_le 32 _ _ (λ j l. part_le 16 (get_or left j 0) (get_or on j 0) (K.sets.small j l) (λ c k. K.part j c l))

  pub pruned_open : open_count left ≤ open_count on
  pruned_open = count_le 32 (open_at left) (open_at on) (λ j l t. iff_open on j (open_part (get_or on j 0) (get_or left j 0) (S.small j l) (K.sets.small j l) (λ c. K.part j c l) (open_iff left j t)))

-- ---- one set made smaller

module _ {on : List ℕ} (S : Sets on) (i y : ℕ) (l : i < 32) (small : y < 2 ^ 16) (some : y ≢ 0) (part : (c : ℕ) → T (bit y c) → T (bit (get_or on i 0) c)) where
  abbrev next : List ℕ
  next = set on i y

  here : get_or next i 0 ≡ y
  here = get_or-set_same on i y 0 (omega (arith, S.long))

  there : (j : ℕ) → j ≢ i → get_or next j 0 ≡ get_or on j 0
  there j d = get_or-set_other on i j y 0 d

  pub next_sets : Sets next
  next_sets = record { long = length-set on i y ∙ S.long; small = λ j h. go j h (eq_dec j i) }
    where
      go : (j : ℕ) → j < 32 → (j ≡ i) ⊎ (j ≢ i) → get_or next j 0 < 2 ^ 16
      go j h (inl e) = rw (e, here) small
      go j h (inr d) = rw (there j d) (S.small j h)

  next_part : (j c : ℕ) → T (bit (get_or next j 0) c) → T (bit (get_or on j 0) c)
  next_part j c t = go (eq_dec j i)
    where
      go : (j ≡ i) ⊎ (j ≢ i) → T (bit (get_or on j 0) c)
      go (inl e) = rw e (part c (subst (λ (z : ℕ). T (bit z c)) (ap (λ (k : ℕ). get_or next k 0) e ∙ here) t))
      go (inr d) = subst (λ (z : ℕ). T (bit z c)) (there j d) t

  next_some : (j : ℕ) → Queried on j → get_or next j 0 ≢ 0
  next_some j a z = go (eq_dec j i)
    where
      go : (j ≡ i) ⊎ (j ≢ i) → ⊥
      go (inl e) = some (sym here ∙ ap (λ (k : ℕ). get_or next k 0) (sym e) ∙ z)
      go (inr d) = a.1 (sym (there j d) ∙ z)

  asked : (j : ℕ) → Queried next j → Queried on j
  asked j a = (a.0, λ z. let m = lowest_member 16 (get_or next j 0) (next_sets.small j a.0) a.1 in member_some (get_or on j 0) _ (next_part j _ m.1) z)

  -- a plan within is a plan of the sets
  pub next_back : {lines : List ℕ} (q : ℕ → ℕ) → PlanWithin lines next q → PlanWithin lines on q
  next_back q W =
      record {
        among = λ j a. next_part j (q j) (W.among j (a.0, next_some j a));
        agree = λ k j a b. W.agree k j (a.0, next_some k a) (b.0, next_some j b);
      }

  -- and one that has such a value at i is within
  pub next_to : {lines : List ℕ} (q : ℕ → ℕ) → PlanWithin lines on q → T (bit y (q i)) → PlanWithin lines next q
  next_to q W t = record { among = λ j a. go j a (eq_dec j i); agree = λ k j a b. W.agree k j (asked k a) (asked j b) }
    where
      go : (j : ℕ) → Queried next j → (j ≡ i) ⊎ (j ≢ i) → T (bit (get_or next j 0) (q j))
      go j a (inl e) = rw (e, here) t
      go j a (inr d) = rw (there j d) (W.among j (asked j a))

  pub next_total : y < get_or on i 0 → total next < total on
  next_total h = sum_lt 32 _ _ (λ j k. part_le 16 (get_or next j 0) (get_or on j 0) (next_sets.small j k) (λ c m. next_part j c)) i l (rw here h)

  next_opens : (j : ℕ) → j < 32 → T (open_at next j) → T (open_at on j)
  next_opens j k t = iff_open on j (open_part (get_or on j 0) (get_or next j 0) (S.small j k) (next_sets.small j k) (next_part j) (open_iff next j t))

  pub next_open : open_count next ≤ open_count on
  next_open = count_le 32 (open_at next) (open_at on) next_opens

  pub next_fewer : without_lowest y ≡ 0 → without_lowest (get_or on i 0) ≢ 0 → open_count next < open_count on
  next_fewer e d = count_lt 32 (open_at next) (open_at on) next_opens i l (λ t. open_iff next i t (ap without_lowest here ∙ e)) (iff_open on i d)

-- ---- the two ways

module _ {on : List ℕ} (S : Sets on) (i : ℕ) (l : i < 32) (d : without_lowest (get_or on i 0) ≢ 0) where
  abbrev x : ℕ
  x = get_or on i 0

  abbrev low_value : ℕ
  low_value = lowest 16 (bit x)

  x_small : x < 2 ^ 16
  x_small = S.small i l

  single_some : 2 ^ low_value ≢ 0
  single_some = member_some (2 ^ low_value) low_value (single_has x x_small d)

  -- ---- its lowest value

  module _ (a y : ℕ) (ea : a ≡ low_value) (ey : y ≡ 2 ^ a) where
    is : y ≡ 2 ^ low_value
    is = ey ∙ ap (λ (k : ℕ). 2 ^ k) ea

    pub first_sets : Sets (set on i y)
    first_sets = rw is (next_sets S i (2 ^ low_value) l (single_small x x_small d) single_some (single_part x x_small d))

    pub first_total : total (set on i y) < total on
    first_total = rw is (next_total S i (2 ^ low_value) l (single_small x x_small d) single_some (single_part x x_small d) (single_less x x_small d))

    -- a variable fewer has more than one value
    pub first_open : open_count (set on i y) < open_count on
    first_open = rw is (next_fewer S i (2 ^ low_value) l (single_small x x_small d) single_some (single_part x x_small d) (single_closed x x_small d) d)

    -- a plan has it
    pub first_told : {lines left : List ℕ} {r : Bool} → AnyPlan lines (set on i y) r left → r ≡ true → AnyPlan lines on true left
    first_told {lines} {left} X e =
        record {
          sets = X.sets;
          yes = λ t. next_back S i (2 ^ low_value) l (single_small x x_small d) single_some (single_part x x_small d) (lowest_of left) (subst (λ (z : ℕ). PlanWithin lines (set on i z) (lowest_of left)) is (X.yes e));
          no = λ t. absurd (clash {b = true} refl t);
        }

    -- none has it
    pub first_none : {lines left : List ℕ} {r : Bool} → AnyPlan lines (set on i y) r left → r ≡ false → (q : ℕ → ℕ) → PlanWithin lines on q → q i ≢ low_value
    first_none {lines} X e q W f =
        X.no e q (rw is (next_to S i (2 ^ low_value) l (single_small x x_small d) single_some (single_part x x_small d) q W (subst (λ (c : ℕ). T (bit (2 ^ low_value) c)) (sym f) (single_has x x_small d))))

  -- ---- another value

  module _ (o : ℕ) (eo : o ≡ without_lowest x) where
    pub second_sets : Sets (set on i o)
    second_sets = rw eo (next_sets S i (without_lowest x) l (others_small x x_small d) d (others_part x x_small d))

    pub second_total : total (set on i o) < total on
    second_total = rw eo (next_total S i (without_lowest x) l (others_small x x_small d) d (others_part x x_small d) (others_less x x_small d))

    pub second_open : open_count (set on i o) ≤ open_count on
    second_open = rw eo (next_open S i (without_lowest x) l (others_small x x_small d) d (others_part x x_small d))

    pub second_told : {lines after : List ℕ} {r : Bool} → ((q : ℕ → ℕ) → PlanWithin lines on q → q i ≢ low_value) → AnyPlan lines (set on i o) r after → AnyPlan lines on r after
    second_told {lines} {after} n X =
        record {
          sets = X.sets;
          yes = λ t. next_back S i (without_lowest x) l (others_small x x_small d) d (others_part x x_small d) (lowest_of after) (subst (λ (z : ℕ). PlanWithin lines (set on i z) (lowest_of after)) eo (X.yes t));
          no = λ t q W. X.no t q (rw eo (next_to S i (without_lowest x) l (others_small x x_small d) d (others_part x x_small d) q W (others_has x x_small d (q i) (W.among i (l, some_value x x_small d)) (n q W))));
        }
