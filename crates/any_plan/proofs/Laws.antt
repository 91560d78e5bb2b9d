-- Sets narrowed by the lines of variables with one value: every plan stays. Assumes nothing.
use mathlib.Core.Path.{◌≡◌, refl, sym, ap, subst, ◌∙◌}
use mathlib.Core.Bool.{Bool, true, false, not, ◌&&◌, ◌||◌}
use mathlib.Core.List.{List}
use mathlib.Core.Logic.{◌⊎◌, inl, inr, ◌≢◌, ⊎_elim}
use Prim.Native.Nat.{ℕ, ◌+◌, ◌-◌, ◌^◌, ◌<◌, ◌≤◌}
use native.Mathlib.Nat.{lt_of_le_of_lt}
use native.Mathlib.Omega.{arith}
use lib.Bits.{bit_and, and_le_l}
use lib.Dec.{T, eqb}
use lib.ListN.{length, get_or, set, length-set}
use lib.Seq.{get_or-set_same, get_or-set_other}
use borrow.Author.Tests.{eqb-true, eqb-false, not-true, not-false}
use Rattle.std.specs.Prelude.{None, Some}
use Rattle.std.proofs.lemmas.Option.{none-some, same_Some}
use Rattle.bounded.specs.Quantifiers.{lowest, any_below}
use Rattle.bounded.specs.Mask.{bit}
use Rattle.bounded.proofs.Truth.{T_true, T_of, T_not, T_ext, clash, and_iff, not_iff, eqb_iff, eq_dec, neither}
use Rattle.bounded.proofs.Quantifiers.{any_iff}
use Rattle.bounded.proofs.Loops.{any_none, any_each, any_next}
use Rattle.bounded.proofs.Mask.{bit_and_lem, bit_none, bit_without16, mask_ext, member_lt, member_some}
use Rattle.bounded.proofs.Members.{lowest_member, without_gone}
use Rattle.lines.specs.Lines.{lines_length, line_start, line_word}
use Rattle.any_plan.specs.Question.{Sets, Queried, PlanWithin, lowest_of, AnyPlan}
use Rattle.any_plan.specs.Steps.{without_lowest, Pruned, Settled, met_at, emptied_at, Met, Next, barred_at, LineAgrees}

-- ---- a set

-- 32 words are 32 sets of values
pub typed_sets : {on : List ℕ} → length on ≡ 32 → ((j : ℕ) → get_or on j 0 < 65536) → Sets on
typed_sets l f = record { long = l; small = λ j h. f j }

-- a set with a value has its lowest
pub lowest_in : {on : List ℕ} → Sets on → (j : ℕ) → Queried on j → (lowest_of on j < 16) × T (bit (get_or on j 0) (lowest_of on j))
lowest_in {on} S j a = lowest_member 16 (get_or on j 0) (S.small j a.0) a.1

-- its line lies within the lines
pub line_within : {on : List ℕ} → Sets on → (k r : ℕ) → Queried on k → r ≡ lowest_of on k → line_start k r + 32 ≤ lines_length
line_within S k r a e = let l = a.0 in omega (arith, (lowest_in S k a).0)

-- an empty set has no other value
pub others_none : (x : ℕ) → x ≡ 0 → 0 ≡ without_lowest x
others_none x e = omega (arith, and_le_l x (2 ^ 16 - 1 - 2 ^ lowest 16 (bit x)))

-- a set of one value has no other
pub only : (x c : ℕ) → x < 2 ^ 16 → without_lowest x ≡ 0 → T (bit x c) → c ≡ lowest 16 (bit x)
only x c l e t =
    let m = lowest_member 16 x l (member_some x c t) in
    without_gone 16 bit_without16 x (lowest 16 (bit x)) m.0 c (member_lt 16 x c l t) t (λ o. T_not (ap (λ (y : ℕ). bit y c) e ∙ bit_none c) o)

met_bit : (lines on : List ℕ) (p j c : ℕ) → T (bit (get_or on j 0) c) → T (bit (get_or lines (p + j) 0) c) → T (bit (met_at lines on p j) c)
met_bit lines on p j c a b = subst T (sym (bit_and_lem (get_or on j 0) (get_or lines (p + j) 0) c)) ((and_iff (bit (get_or on j 0) c) (bit (get_or lines (p + j) 0) c)).1 (a, b))

met_parts : (lines on : List ℕ) (p j c : ℕ) → T (bit (met_at lines on p j) c) → T (bit (get_or on j 0) c) × T (bit (get_or lines (p + j) 0) c)
met_parts lines on p j c t = (and_iff (bit (get_or on j 0) c) (bit (get_or lines (p + j) 0) c)).0 (subst T (bit_and_lem (get_or on j 0) (get_or lines (p + j) 0) c) t)

-- ---- a loop that is never left early

pub any_step : (f : ℕ → Bool) {b : Bool} (n : ℕ) → b ≡ any_below n f → (b || f n) ≡ any_below (n + 1) f
any_step f n e = ap (λ (c : Bool). c || f n) e ∙ sym (any_next f n)

pub any_last : (f : ℕ → Bool) {b : Bool} (n k : ℕ) → n ≤ k → k ≤ n → b ≡ any_below k f → b ≡ any_below n f
any_last f n k l m e = let g : k ≡ n = omega arith in e ∙ ap (λ (i : ℕ). any_below i f) g

-- the sets below n are met with the line at p
pub record MetTo (lines on : List ℕ) (p n : ℕ) (left : List ℕ) : Type 0 where
  pub long : length left ≡ 32
  pub done : (j : ℕ) → j < n → get_or left j 0 ≡ met_at lines on p j
  pub rest : (j : ℕ) → n ≤ j → get_or left j 0 ≡ get_or on j 0

pub met_none : (lines on : List ℕ) (p : ℕ) → length on ≡ 32 → MetTo lines on p 0 on
met_none lines on p l = record { long = l; done = λ j h. absurd (omega arith); rest = λ j h. refl }

pub met_more : {lines on left : List ℕ} {p n : ℕ} → n < 32 → MetTo lines on p n left → MetTo lines on p (n + 1) (set left n (bit_and (get_or left n 0) (get_or lines (p + n) 0)))
met_more {lines} {on} {left} {p} {n} l M =
    record {
      long = length-set left n _ ∙ M.long;
      done = λ j h. done j h (eq_dec j n);
      rest = λ j h. get_or-set_other left n j _ 0 (λ (e : j ≡ n). omega arith) ∙ M.rest j (omega arith);
    }
  where
    done : (j : ℕ) → j < n + 1 → (j ≡ n) ⊎ (j ≢ n) → get_or (set left n (bit_and (get_or left n 0) (get_or lines (p + n) 0))) j 0 ≡ met_at lines on p j
    done j h (inl e) = rw e (get_or-set_same left n _ 0 (omega (arith, M.long)) ∙ ap (λ (x : ℕ). bit_and x (get_or lines (p + n) 0)) (M.rest n (omega arith)))
    done j h (inr d) = get_or-set_other left n j _ 0 d ∙ M.done j (omega arith)

-- whether one of them was emptied
pub record EmptiedTo (lines on : List ℕ) (p n : ℕ) (dead : Bool) : Type 0 where
  pub emptied : dead ≡ any_below n (emptied_at lines on p)

pub emptied_none : (lines on : List ℕ) (p : ℕ) → EmptiedTo lines on p 0 false
emptied_none lines on p = record { emptied = sym (any_none (emptied_at lines on p)) }

pub emptied_more : {lines on left : List ℕ} {p n : ℕ} {dead : Bool} → MetTo lines on p n left → EmptiedTo lines on p n dead
    → EmptiedTo lines on p (n + 1) (dead || (not (eqb (get_or left n 0) 0) && eqb (bit_and (get_or left n 0) (get_or lines (p + n) 0)) 0))
emptied_more {lines} {on} {p = p} {n} M E = record { emptied = rw (M.rest n (omega arith)) (any_step (emptied_at lines on p) n E.emptied) }

pub met_all : {lines on left : List ℕ} {p n : ℕ} {dead : Bool} → 32 ≤ n → n ≤ 32 → MetTo lines on p n left → EmptiedTo lines on p n dead → Met lines on p dead left
met_all {lines} {on} {left} {p} {n} l m M E = record { long = M.long; each = λ j h. M.done j (omega arith); emptied = any_last (emptied_at lines on p) 32 n l m E.emptied }

-- ---- sets narrowed

pub pruned_same : {lines on : List ℕ} → Sets on → Pruned lines on on
pruned_same S = record { sets = S; part = λ j c l t. t; some = λ j a. a.1; plans = λ q W. W }

pub pruned_trans : {lines on mid left : List ℕ} → Pruned lines on mid → Pruned lines mid left → Pruned lines on left
pruned_trans K L =
    record {
      sets = L.sets;
      part = λ j c l t. K.part j c l (L.part j c l t);
      some = λ j a. L.some j (a.0, K.some j a);
      plans = λ q W. L.plans q (K.plans q W);
    }

-- a plan within what is left is one within the sets
pub pruned_back : {lines on left : List ℕ} → Pruned lines on left → (q : ℕ → ℕ) → PlanWithin lines left q → PlanWithin lines on q
pruned_back K q W =
    record {
      among = λ j a. K.part j (q j) a.0 (W.among j (a.0, K.some j a));
      agree = λ k j a b. W.agree k j (a.0, K.some k a) (b.0, K.some j b);
    }

-- what is told of what is left is told of the sets
pub told_pruned : {lines on mid left : List ℕ} {r : Bool} → Pruned lines on mid → AnyPlan lines mid r left → AnyPlan lines on r left
told_pruned {left = left} K X = record { sets = X.sets; yes = λ e. pruned_back K (lowest_of left) (X.yes e); no = λ e q W. X.no e q (K.plans q W) }

-- nothing was done
pub settled_same : {lines on : List ℕ} → Sets on → Settled lines on false on
settled_same S = record { sets = S; kept = λ e. pruned_same S; closed = λ e. absurd (clash {b = false} e refl) }

-- it stops open
pub settled_pruned : {lines on left : List ℕ} → Pruned lines on left → Settled lines on false left
settled_pruned K = record { sets = K.sets; kept = λ e. K; closed = λ e. absurd (clash {b = false} e refl) }

-- one step more
pub settled_more : {lines on mid left : List ℕ} {dead : Bool} → Pruned lines on mid → Settled lines mid dead left → Settled lines on dead left
settled_more K X = record { sets = X.sets; kept = λ e. pruned_trans K (X.kept e); closed = λ e q W. X.closed e q (K.plans q W) }

-- ---- met with the line of a variable that has one value

module _ {lines on left : List ℕ} (k : ℕ) {dead : Bool} (S : Sets on) (a : Queried on k) (one : without_lowest (get_or on k 0) ≡ 0)
    (M : Met lines on (line_start k (lowest_of on k)) dead left) where
  abbrev p : ℕ
  p = line_start k (lowest_of on k)

  -- every plan within the sets has a value of every set left
  stays : (q : ℕ → ℕ) → PlanWithin lines on q → (j : ℕ) → Queried on j → T (bit (met_at lines on p j) (q j))
  stays q W j b =
      let e : q k ≡ lowest_of on k = only (get_or on k 0) (q k) (S.small k a.0) one (W.among k a) in
      met_bit lines on p j (q j) (W.among j b) (subst (λ (c : ℕ). T (bit (line_word lines k c j) (q j))) e (W.agree k j a b))

  part : (j c : ℕ) → j < 32 → T (bit (get_or left j 0) c) → T (bit (get_or on j 0) c)
  part j c l t = (met_parts lines on p j c (subst (λ (x : ℕ). T (bit x c)) (M.each j l) t)).0

  left_sets : Sets left
  left_sets = record { long = M.long; small = λ j l. rw (M.each j l) (lt_of_le_of_lt (and_le_l (get_or on j 0) (get_or lines (p + j) 0)) (S.small j l)) }

  not_emptied : dead ≡ false → (j : ℕ) → Queried on j → get_or left j 0 ≢ 0
  not_emptied e j b z =
      clash
      (T_true (emptied_at lines on p j) ((and_iff (not (eqb (get_or on j 0) 0)) (eqb (met_at lines on p j) 0)).1 ((not_iff (eqb (get_or on j 0) 0)).1 (λ t. b.1 ((eqb_iff (get_or on j 0) 0).0 t)), (eqb_iff (met_at lines on p j) 0).1 (sym (M.each j b.0) ∙ z))))
      (any_each (emptied_at lines on p) 32 (sym M.emptied ∙ e) j b.0)

  asked : (j : ℕ) → Queried left j → Queried on j
  asked j b = (b.0, λ z. let m = lowest_member 16 (get_or left j 0) (left_sets.small j b.0) b.1 in member_some (get_or on j 0) _ (part j _ b.0 m.1) z)

  pub met_settled : Settled lines on dead left
  met_settled =
      record {
        sets = left_sets;
        kept = λ e. record {
          sets = left_sets;
          part = part;
          some = not_emptied e;
          plans = λ q W. record {
            among = λ j b. rw (M.each j b.0) (stays q W j (asked j b));
            agree = λ i j b c. W.agree i j (asked i b) (asked j c);
          };
        };
        closed = λ e q W.
            let x = (any_iff 32 (emptied_at lines on p)).0 (T_of (sym M.emptied ∙ e)) in
            let y = (and_iff (not (eqb (get_or on x.0 0) 0)) (eqb (met_at lines on p x.0) 0)).0 x.2 in
            let b : Queried on x.0 = (x.1, λ z. (not_iff (eqb (get_or on x.0 0) 0)).0 y.0 ((eqb_iff (get_or on x.0 0) 0).1 z)) in
            member_some (met_at lines on p x.0) (q x.0) (stays q W x.0 b) ((eqb_iff (met_at lines on p x.0) 0).0 y.1);
      }

-- where neither test of `meet_one` holds, k has one value
one_value : (x o : ℕ) → (eqb x 0 || not (eqb o 0)) ≡ false → o ≡ without_lowest x → (x ≢ 0) × (without_lowest x ≡ 0)
one_value x o e f = let n = neither (eqb x 0) (not (eqb o 0)) e in (eqb-false x 0 n.0, sym f ∙ eqb-true o 0 (not-false (eqb o 0) n.1))

module _ {on : List ℕ} (k r o : ℕ) (S : Sets on) (l : k < 32) (e : (eqb (get_or on k 0) 0 || not (eqb o 0)) ≡ false) (f : o ≡ without_lowest (get_or on k 0)) (g : r ≡ lowest_of on k) where
  pub one_within : line_start k r + 32 ≤ lines_length
  one_within = line_within S k r (l, (one_value (get_or on k 0) o e f).0) g

  pub one_settled : {lines left : List ℕ} {dead : Bool} → Met lines on (line_start k r) dead left → Settled lines on dead left
  one_settled {lines} {left} {dead} M =
      let x = one_value (get_or on k 0) o e f in
      met_settled k S (l, x.0) x.1 (subst (λ (z : ℕ). Met lines on (line_start k z) dead left) g M)

-- ---- whether the only values left agree

-- what is not asked about agrees
pub agrees_out : (lines on : List ℕ) (k : ℕ) → get_or on k 0 ≡ 0 → LineAgrees lines on k true
agrees_out lines on k e = record { yes = λ t a. absurd (a.1 e); no = λ t. absurd (clash {b = true} refl t) }

-- the line of its lowest value bars no value, or one
pub agrees_line : {lines on : List ℕ} {r : Bool} (k z : ℕ) → Queried on k → z ≡ line_start k (lowest_of on k) → r ≡ any_below 32 (barred_at lines on z) → LineAgrees lines on k (not r)
agrees_line {lines} {on} {r} k z a e f =
    record {
      yes = λ t b j l. any_each (barred_at lines on (line_start k (lowest_of on k))) 32 (sym g ∙ not-true r t) j l;
      no = λ t. let x = (any_iff 32 (barred_at lines on (line_start k (lowest_of on k)))).0 (T_of (sym g ∙ not-false r t)) in (a, (x.0, x.1, T_true _ x.2));
    }
  where
    g : r ≡ any_below 32 (barred_at lines on (line_start k (lowest_of on k)))
    g = f ∙ ap (λ (z : ℕ). any_below 32 (barred_at lines on z)) e

-- every line so far does
pub record AgreeBelow (lines on : List ℕ) (n : ℕ) : Type 0 where
  pub each : (k : ℕ) → k < n → Queried on k → (j : ℕ) → j < 32 → barred_at lines on (line_start k (lowest_of on k)) j ≡ false

pub agree_none : (lines on : List ℕ) → AgreeBelow lines on 0
agree_none lines on = record { each = λ k l. absurd (omega arith) }

pub agree_more : {lines on : List ℕ} {n : ℕ} → AgreeBelow lines on n → (Queried on n → (j : ℕ) → j < 32 → barred_at lines on (line_start n (lowest_of on n)) j ≡ false) → AgreeBelow lines on (n + 1)
agree_more {lines} {on} {n} B h = record { each = λ k l. go k (eq_dec k n) l }
  where
    go : (k : ℕ) → (k ≡ n) ⊎ (k ≢ n) → k < n + 1 → Queried on k → (j : ℕ) → j < 32 → barred_at lines on (line_start k (lowest_of on k)) j ≡ false
    go k (inl e) l = subst (λ (m : ℕ). Queried on m → (j : ℕ) → j < 32 → barred_at lines on (line_start m (lowest_of on m)) j ≡ false) (sym e) h
    go k (inr d) l = B.each k (omega arith)

pub agree_end : {lines on : List ℕ} {n : ℕ} → 32 ≤ n → AgreeBelow lines on n → AgreeBelow lines on 32
agree_end l B = record { each = λ k h. B.each k (omega arith) }

-- a set within a line
barred_not : (lines on : List ℕ) (p j : ℕ) → barred_at lines on p j ≡ false → met_at lines on p j ≡ get_or on j 0
barred_not lines on p j e = eqb-true (met_at lines on p j) (get_or on j 0) (not-false _ e)

module _ {lines on : List ℕ} (S : Sets on) where
  -- all do
  pub agreed : AgreeBelow lines on 32 → AnyPlan lines on true on
  agreed B =
      record {
        sets = S;
        yes = λ e. record {
          among = λ j a. (lowest_in S j a).1;
          agree = λ k j a b. (met_parts lines on (line_start k (lowest_of on k)) j (lowest_of on j) (rw (barred_not lines on _ j (B.each k a.0 a j b.0)) (lowest_in S j b).1)).1;
        };
        no = λ e. absurd (clash {b = true} refl e);
      }

-- one does not
module _ {on : List ℕ} (S : Sets on) (N : Next on None) where
  one : (i : ℕ) → Queried on i → (c : ℕ) → T (bit (get_or on i 0) c) → c ≡ lowest_of on i
  one i b c t = only (get_or on i 0) c (S.small i b.0) (N.none refl i b.0) t

  module _ {lines : List ℕ} (k : ℕ) (a : Queried on k) (j : ℕ) (l : j < 32) (h : barred_at lines on (line_start k (lowest_of on k)) j ≡ true) where
    q_line : (q : ℕ → ℕ) → PlanWithin lines on q → (c : ℕ) → T (bit (get_or on j 0) c) → T (bit (line_word lines k (lowest_of on k) j) c)
    q_line q W c t =
        let b : Queried on j = (l, member_some (get_or on j 0) c t) in
        let e : q k ≡ lowest_of on k = one k a (q k) (W.among k a) in
        let f : q j ≡ c = one j b (q j) (W.among j b) ∙ sym (one j b c t) in
        subst (λ (d : ℕ). T (bit (line_word lines k (lowest_of on k) j) d)) f (subst (λ (d : ℕ). T (bit (line_word lines k d j) (q j))) e (W.agree k j a b))

    pub disagreed : AnyPlan lines on false on
    disagreed =
        record {
          sets = S;
          yes = λ e. absurd (clash {b = false} e refl);
          no = λ e q W.
              (not_iff (eqb (met_at lines on (line_start k (lowest_of on k)) j) (get_or on j 0))).0 (T_of h)
              ((eqb_iff (met_at lines on (line_start k (lowest_of on k)) j) (get_or on j 0)).1
              (mask_ext 16 (met_at lines on (line_start k (lowest_of on k)) j) (get_or on j 0) (lt_of_le_of_lt (and_le_l (get_or on j 0) _) (S.small j l)) (S.small j l)
              (λ c m. T_ext (λ t. (met_parts lines on (line_start k (lowest_of on k)) j c t).0, λ t. met_bit lines on (line_start k (lowest_of on k)) j c t (q_line q W c t)))));
        }

-- ---- the next variable

pub next_some : {on : List ℕ} {i : ℕ} → i < 32 → without_lowest (get_or on i 0) ≢ 0 → Next on (Some i)
next_some {on} {i} l d = record { some = λ j e. subst (λ (k : ℕ). (k < 32) × (without_lowest (get_or on k 0) ≢ 0)) (same_Some i j e) (l, d); none = λ e. absurd (none-some i (sym e)) }

pub next_none : {on : List ℕ} → ((j : ℕ) → j < 32 → without_lowest (get_or on j 0) ≡ 0) → Next on None
next_none f = record { some = λ i e. absurd (none-some i e); none = λ e. f }

-- no variable so far has more than one value
pub record ClosedBelow (on : List ℕ) (n : ℕ) : Type 0 where
  pub each : (j : ℕ) → j < n → without_lowest (get_or on j 0) ≡ 0

pub closed_none : (on : List ℕ) → ClosedBelow on 0
closed_none on = record { each = λ j l. absurd (omega arith) }

pub closed_more : {on : List ℕ} {n : ℕ} → ClosedBelow on n → without_lowest (get_or on n 0) ≡ 0 → ClosedBelow on (n + 1)
closed_more {on} {n} B e = record { each = λ j l. ⊎_elim (λ g. ap (λ (k : ℕ). without_lowest (get_or on k 0)) g ∙ e) (λ d. B.each j (omega arith)) (eq_dec j n) }
