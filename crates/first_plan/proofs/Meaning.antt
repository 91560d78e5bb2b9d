-- The first plan is a plan, no plan comes before it, and none is answered only where there is no plan. Assumes nothing.
use mathlib.Core.Path.{◌≡◌, refl, sym, ap, subst, ◌∙◌}
use mathlib.Core.Bool.{Bool, true, false, cond}
use mathlib.Core.List.{List}
use mathlib.Core.Logic.{◌⊎◌, inl, inr, ◌≢◌, ◌↔◌}
use Prim.Native.Nat.{ℕ, zero, suc, ◌+◌, ◌≤◌, ◌<◌}
use native.Mathlib.Nat.{not-suc-le-zero}
use native.Mathlib.Omega.{arith}
use lib.Dec.{T}
use lib.ListN.{length, set, length-set}
use lib.Seq.{get_or-set_same, get_or-set_other}
use Rattle.bounded.proofs.Truth.{T_true, T_of, clash, eq_dec, lt_dec}
use Rattle.problem.specs.Problem.{Problem, State}
use Rattle.problem.specs.PutBack.{solves, plan_of}
use Rattle.problem.specs.Sentences.{Active, Fits, Solution, Solvable}
use Rattle.problem.proofs.Sound.{solves_iff}
use Rattle.first_plan.specs.First.{none, or_else, first_of, first_from, first_plan, NotAfter}
use Rattle.first_plan.specs.declared.Found.{Found}

-- ---- the first of several answers

pub or_yes : (r s : Found) → r.ok ≡ true → or_else r s ≡ r
unfolding or_else
or_yes r s k = ap (λ (b : Bool). cond b r s) k

pub or_no : (r s : Found) → r.ok ≡ false → or_else r s ≡ s
unfolding or_else
or_no r s k = ap (λ (b : Bool). cond b r s) k

or_either : (Q : Found → Type 0) (r s : Found) → Q r → Q s → Q (or_else r s)
unfolding or_else
or_either Q r s x y = go r.ok
  where
    go : (b : Bool) → Q (cond b r s)
    go true = x
    go false = y

-- it is one of the answers, or none
first_of_any : (Q : Found → Type 0) (k v : ℕ) (f : ℕ → Found) (w : List ℕ) → Q (none w) → ((u : ℕ) → Q (f u)) → Q (first_of k v f w)
unfolding first_of
first_of_any Q zero v f w x y = x
first_of_any Q (suc k) v f w x y = or_either Q (f v) (first_of k (suc v) f w) (y v) (first_of_any Q k (suc v) f w x y)

-- where it is none, w is left as it was
first_of_left : (k v : ℕ) (f : ℕ → Found) (w : List ℕ) → (first_of k v f w).ok ≡ false → (first_of k v f w).plan ≡ w
unfolding first_of
first_of_left zero v f w e = refl
first_of_left (suc k) v f w e = go (f v).ok refl e (first_of_left k (suc v) f w)
  where
    rest : Found
    rest = first_of k (suc v) f w

    go : (b : Bool) → (f v).ok ≡ b → (or_else (f v) rest).ok ≡ false → (rest.ok ≡ false → rest.plan ≡ w) → (or_else (f v) rest).plan ≡ w
    go true q x ih = absurd (clash q (ap (λ (r : Found). r.ok) (sym (or_yes (f v) rest q)) ∙ x))
    go false q x ih = ap (λ (r : Found). r.plan) (or_no (f v) rest q) ∙ ih (ap (λ (r : Found). r.ok) (sym (or_no (f v) rest q)) ∙ x)

-- where the answer at u is a plan, so is the first, and it stands no later
first_of_first : (k v : ℕ) (f : ℕ → Found) (w : List ℕ) (u : ℕ) → v ≤ u → u < v + k → (f u).ok ≡ true → (m : ℕ) × (m ≤ u) × (first_of k v f w ≡ f m) × ((f m).ok ≡ true)
unfolding first_of
first_of_first zero v f w u l h e = absurd (omega arith)
first_of_first (suc k) v f w u l h e = go (f v).ok refl (eq_dec u v) (first_of_first k (suc v) f w u)
  where
    go : (b : Bool) → (f v).ok ≡ b → (u ≡ v) ⊎ (u ≢ v)
        → (suc v ≤ u → u < suc v + k → (f u).ok ≡ true → (m : ℕ) × (m ≤ u) × (first_of k (suc v) f w ≡ f m) × ((f m).ok ≡ true))
        → (m : ℕ) × (m ≤ u) × (or_else (f v) (first_of k (suc v) f w) ≡ f m) × ((f m).ok ≡ true)
    go true q _ ih = (v, l, or_yes (f v) (first_of k (suc v) f w) q, q)
    go false q (inl g) ih = absurd (clash (subst (λ (c : ℕ). (f c).ok ≡ true) g e) q)
    go false q (inr g) ih = let x = ih (omega arith) (omega arith) e in (x.0, x.1, or_no (f v) (first_of k (suc v) f w) q ∙ x.2, x.3)

module _ {P : Problem} {s : State} (F : Fits P s) where
  -- what the items from i on answer once i has v
  abbrev rest : (d i : ℕ) → List ℕ → ℕ → Found
  rest d i w v = first_from P s d (suc i) (set w i v)

  pub from_in : (d i : ℕ) (w : List ℕ) → s.active i ≡ true → first_from P s (suc d) i w ≡ first_of (P.size i) 0 (rest d i w) w
  unfolding first_from
  from_in d i w e = ap (λ (b : Bool). cond b (first_of (P.size i) 0 (rest d i w) w) (first_from P s d (suc i) w)) e

  pub from_out : (d i : ℕ) (w : List ℕ) → s.active i ≡ false → first_from P s (suc d) i w ≡ first_from P s d (suc i) w
  unfolding first_from
  from_out d i w e = ap (λ (b : Bool). cond b (first_of (P.size i) 0 (rest d i w) w) (first_from P s d (suc i) w)) e

  -- it is a plan
  from_solves : (d i : ℕ) (w : List ℕ) → (first_from P s d i w).ok ≡ true → T (solves P s (plan_of (first_from P s d i w).plan))
  unfolding first_from
  from_solves zero i w = λ e. T_of e
  from_solves (suc d) i w = go (s.active i) (λ x. from_solves d (suc i) x)
    where
      Q : Found → Type 0
      Q r = r.ok ≡ true → T (solves P s (plan_of r.plan))

      go : (b : Bool) → ((x : List ℕ) → Q (first_from P s d (suc i) x)) → Q (cond b (first_of (P.size i) 0 (rest d i w) w) (first_from P s d (suc i) w))
      go true ih = first_of_any Q (P.size i) 0 (rest d i w) w (λ e. absurd (clash {b = false} e refl)) (λ v. ih (set w i v))
      go false ih = ih w

  -- it is as long as it was
  from_long : (d i : ℕ) (w : List ℕ) → length (first_from P s d i w).plan ≡ length w
  unfolding first_from
  from_long zero i w = refl
  from_long (suc d) i w = go (s.active i) (λ x. from_long d (suc i) x)
    where
      Q : Found → Type 0
      Q r = length r.plan ≡ length w

      go : (b : Bool) → ((x : List ℕ) → length (first_from P s d (suc i) x).plan ≡ length x) → Q (cond b (first_of (P.size i) 0 (rest d i w) w) (first_from P s d (suc i) w))
      go true ih = first_of_any Q (P.size i) 0 (rest d i w) w refl (λ v. ih (set w i v) ∙ length-set w i v)
      go false ih = ih w

  -- where there is none, w is left as it was
  from_left : (d i : ℕ) (w : List ℕ) → (first_from P s d i w).ok ≡ false → (first_from P s d i w).plan ≡ w
  unfolding first_from
  from_left zero i w = λ e. refl
  from_left (suc d) i w = go (s.active i) (from_left d (suc i) w)
    where
      Q : Found → Type 0
      Q r = r.ok ≡ false → r.plan ≡ w

      go : (b : Bool) → Q (first_from P s d (suc i) w) → Q (cond b (first_of (P.size i) 0 (rest d i w) w) (first_from P s d (suc i) w))
      go true ih = first_of_left (P.size i) 0 (rest d i w) w
      go false ih = ih

  -- it keeps what w says of items out, and of items before i
  from_keeps : (d i : ℕ) (w : List ℕ) (j : ℕ) → (Active s j → j < i) → plan_of (first_from P s d i w).plan j ≡ plan_of w j
  unfolding first_from
  from_keeps zero i w j h = refl
  from_keeps (suc d) i w j h = go (s.active i) refl (λ x g. from_keeps d (suc i) x j g)
    where
      Q : Found → Type 0
      Q r = plan_of r.plan j ≡ plan_of w j

      go : (b : Bool) → s.active i ≡ b → ((x : List ℕ) → (Active s j → j < suc i) → plan_of (first_from P s d (suc i) x).plan j ≡ plan_of x j) → Q (cond b (first_of (P.size i) 0 (rest d i w) w) (first_from P s d (suc i) w))
      go true e ih =
          first_of_any Q (P.size i) 0 (rest d i w) w refl
          (λ v. ih (set w i v) (λ o. let l = h o in omega arith) ∙ get_or-set_other w i j v 0 (λ g. let l : j < i = h (subst (λ (c : ℕ). Active s c) (sym g) (T_of e)) in omega arith))
      go false e ih = ih w (λ o. let l = h o in omega arith)

  -- q has the settings of w at the items in before i
  Follows : ℕ → List ℕ → (ℕ → ℕ) → Type 0
  Follows i w q = (j : ℕ) → Active s j → j < i → plan_of w j ≡ q j

  follows_set : (i : ℕ) (w : List ℕ) (q : ℕ → ℕ) → i < length w → Follows i w q → Follows (suc i) (set w i (q i)) q
  unfolding Follows
  follows_set i w q l f j o h = go (eq_dec j i)
    where
      go : (j ≡ i) ⊎ (j ≢ i) → plan_of (set w i (q i)) j ≡ q j
      go (inl e) = rw e (get_or-set_same w i (q i) 0 l)
      go (inr d) = get_or-set_other w i j (q i) 0 d ∙ f j o (omega arith)

  follows_out : (i : ℕ) (w : List ℕ) (q : ℕ → ℕ) → s.active i ≡ false → Follows i w q → Follows (suc i) w q
  unfolding Follows
  follows_out i w q e f j o h = go (eq_dec j i)
    where
      go : (j ≡ i) ⊎ (j ≢ i) → plan_of w j ≡ q j
      go (inl g) = absurd (clash (ap s.active (sym g) ∙ T_true (s.active j) o) e)
      go (inr d) = f j o (omega arith)

  -- the d items from i on, with all items in before their end, have their places in the plan
  Spans : (d i : ℕ) → List ℕ → Type 0
  Spans d i w = (i + d ≤ length w) × ((j : ℕ) → Active s j → j < i + d)

  spans_set : (d i v : ℕ) (w : List ℕ) → Spans (suc d) i w → Spans d (suc i) (set w i v)
  unfolding Spans
  spans_set d i v w x = let e : length (set w i v) ≡ length w = length-set w i v in (omega (arith, x.0), λ j o. omega (arith, x.1 j o))

  spans_out : (d i : ℕ) (w : List ℕ) → Spans (suc d) i w → Spans d (suc i) w
  unfolding Spans
  spans_out d i w x = (omega (arith, x.0), λ j o. omega (arith, x.1 j o))

  -- where a plan has the settings of w so far, one is found
  from_some : (d i : ℕ) (w : List ℕ) (q : ℕ → ℕ) → Solution P s q → Spans d i w → Follows i w q → (first_from P s d i w).ok ≡ true
  unfolding first_from Follows Spans
  from_some zero i w q A x f =
      T_true (solves P s (plan_of w)) ((solves_iff F (plan_of w)).1 (record { live = λ j o. rw (at j o) (A.live j o); ok = λ j k o p d. rw (at j o, at k p) (A.ok j k o p d) }))
    where
      at : (j : ℕ) → Active s j → plan_of w j ≡ q j
      at j o = f j o (omega (arith, x.1 j o))
  from_some (suc d) i w q A x f = go (s.active i) refl (λ y. from_some d (suc i) y q A)
    where
      go : (b : Bool) → s.active i ≡ b → ((y : List ℕ) → Spans d (suc i) y → Follows (suc i) y q → (first_from P s d (suc i) y).ok ≡ true) → (cond b (first_of (P.size i) 0 (rest d i w) w) (first_from P s d (suc i) w)).ok ≡ true
      go true e ih =
          let z = first_of_first (P.size i) 0 (rest d i w) w (q i) (omega arith) (let l : q i < P.size i = F.live_lt i (q i) (A.live i (T_of e)) in omega arith) (ih (set w i (q i)) (spans_set d i (q i) w x) (follows_set i w q (omega (arith, x.0)) f)) in
          ap (λ (r : Found). r.ok) z.2 ∙ z.3
      go false e ih = ih w (spans_out d i w x) (follows_out i w q e f)

  -- no plan that has the settings of w so far comes before it
  from_least : (d i : ℕ) (w : List ℕ) (q : ℕ → ℕ) → Solution P s q → Spans d i w → Follows i w q → NotAfter s (plan_of (first_from P s d i w).plan) q
  unfolding first_from Follows Spans
  from_least zero i w q A x f = inl (λ j o. f j o (omega (arith, x.1 j o)))
  from_least (suc d) i w q A x f = go (s.active i) refl (λ y. from_least d (suc i) y q A)
    where
      go : (b : Bool) → s.active i ≡ b → ((y : List ℕ) → Spans d (suc i) y → Follows (suc i) y q → NotAfter s (plan_of (first_from P s d (suc i) y).plan) q) → NotAfter s (plan_of (cond b (first_of (P.size i) 0 (rest d i w) w) (first_from P s d (suc i) w)).plan) q
      go false e ih = ih w (spans_out d i w x) (follows_out i w q e f)
      go true e ih = subst (λ (r : Found). NotAfter s (plan_of r.plan) q) (sym z.2) (here (eq_dec z.0 (q i)))
        where
          short : i < length w
          short = omega (arith, x.0)

          z : (m : ℕ) × (m ≤ q i) × (first_of (P.size i) 0 (rest d i w) w ≡ rest d i w m) × ((rest d i w m).ok ≡ true)
          z = first_of_first (P.size i) 0 (rest d i w) w (q i) (omega arith) (let l : q i < P.size i = F.live_lt i (q i) (A.live i (T_of e)) in omega arith) (from_some d (suc i) (set w i (q i)) q A (spans_set d i (q i) w x) (follows_set i w q short f))

          here : (z.0 ≡ q i) ⊎ (z.0 ≢ q i) → NotAfter s (plan_of (rest d i w z.0).plan) q
          here (inl g) = subst (λ (m : ℕ). NotAfter s (plan_of (rest d i w m).plan) q) (sym g) (ih (set w i (q i)) (spans_set d i (q i) w x) (follows_set i w q short f))
          here (inr g) =
              let own : plan_of (rest d i w z.0).plan i ≡ z.0 = from_keeps d (suc i) (set w i z.0) i (λ o. omega arith) ∙ get_or-set_same w i z.0 0 short in
              inr (i, T_of e, omega (arith, own, z.1), λ j l o. from_keeps d (suc i) (set w i z.0) j (λ _. omega arith) ∙ get_or-set_other w i j z.0 0 (λ (h : j ≡ i). omega arith) ∙ f j o l)

  -- ---- the first plan

  module _ (w : List ℕ) (room : P.n ≤ length w) where
    all_spanned : Spans P.n 0 w
    unfolding Spans
    all_spanned = (omega arith, λ j o. omega (arith, F.active_lt j o))

    pub first_is_plan : (first_plan P s w).ok ≡ true → Solution P s (plan_of (first_plan P s w).plan)
    unfolding first_plan
    first_is_plan e = (solves_iff F _).0 (from_solves P.n 0 w e)

    -- no plan comes before it
    pub first_is_least : (q : ℕ → ℕ) → Solution P s q → NotAfter s (plan_of (first_plan P s w).plan) q
    unfolding first_plan Follows
    first_is_least q A = from_least P.n 0 w q A all_spanned (λ j o l. absurd (not-suc-le-zero l))

    -- one is found exactly where there is one
    pub first_iff : T (first_plan P s w).ok ↔ Solvable P s
    unfolding first_plan Follows
    first_iff = (λ t. (plan_of (first_plan P s w).plan, first_is_plan (T_true _ t)), λ x. T_of (from_some P.n 0 w x.0 x.1 all_spanned (λ j o l. absurd (not-suc-le-zero l))))

  -- items out keep what w says of them, and the plan its length
  pub first_keeps : (w : List ℕ) (j : ℕ) → (Active s j → ⊥) → plan_of (first_plan P s w).plan j ≡ plan_of w j
  unfolding first_plan
  first_keeps w j h = from_keeps P.n 0 w j (λ o. absurd (h o))

  pub first_long : (w : List ℕ) → length (first_plan P s w).plan ≡ length w
  unfolding first_plan
  first_long w = from_long P.n 0 w

  -- where there is none, the plan is left as it was
  pub first_none_keeps : (w : List ℕ) → (first_plan P s w).ok ≡ false → (first_plan P s w).plan ≡ w
  unfolding first_plan
  first_none_keeps w e = from_left P.n 0 w e

-- two plans of which neither is after the other are the same at the items in: only one plan is first
pub first_unique : (s : State) (p q : ℕ → ℕ) → NotAfter s p q → NotAfter s q p → (j : ℕ) → Active s j → p j ≡ q j
first_unique s p q (inl f) y j o = f j o
first_unique s p q (inr x) (inl g) j o = sym (g j o)
first_unique s p q (inr x) (inr y) j o = absurd (go (eq_dec x.0 y.0) (lt_dec x.0 y.0))
  where
    go : (x.0 ≡ y.0) ⊎ (x.0 ≢ y.0) → (x.0 < y.0) ⊎ (y.0 ≤ x.0) → ⊥
    go (inl e) _ = let h : q x.0 < p x.0 = subst (λ (k : ℕ). q k < p k) (sym e) y.2 in omega (arith, x.2)
    go (inr d) (inl l) = let h : q x.0 ≡ p x.0 = y.3 x.0 l x.1 in omega (arith, x.2)
    go (inr d) (inr l) = let h : p y.0 ≡ q y.0 = x.3 y.0 (omega arith) y.1 in omega (arith, y.2)
