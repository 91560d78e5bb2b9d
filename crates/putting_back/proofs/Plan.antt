-- The plan test, entry by entry and pair by pair. Assumes nothing.
use mathlib.Core.Path.{◌≡◌, sym, ap, ◌∙◌, subst}
use mathlib.Core.Bool.{Bool, true, false, ◌&&◌}
use mathlib.Core.Logic.{◌⊎◌, inl, inr, ◌≢◌, ◌↔◌, ⊎_elim}
use mathlib.Core.List.{List}
use Prim.Native.Nat.{ℕ, ◌<◌}
use lib.Dec.{T, eqb}
use lib.ListN.{length}
use Rattle.bounded.specs.Quantifiers.{all_below}
use Rattle.bounded.proofs.Truth.{T_ext, T_dec, and_iff, or_iff, imp_iff, not_iff, eqb_iff}
use Rattle.bounded.proofs.Quantifiers.{all_iff}
use Rattle.problem.specs.Problem.{Problem, State}
use Rattle.problem.specs.PutBack.{solves, plan_of}
use Rattle.problem.specs.Sentences.{Active, Live, Allowed, Fits, Solution}
use Rattle.problem.proofs.Sound.{solves_iff}
use Rattle.put_back.specs.PutBack.{plan_fits}
use Rattle.putting_back.specs.Plan.{entry_fits, pairs_of}

pub entry_iff : (s : State) (i v : ℕ) → T (entry_fits s i v) ↔ ((Active s i → Live s i v) × ((Active s i → ⊥) → v ≡ 255))
unfolding entry_fits
entry_iff s i v = go (s.active i)
  where
    go : (b : Bool) → T (elim b as (λ x. Bool) [ true ↦ s.live i v | false ↦ eqb v 255 ]) ↔ ((T b → T (s.live i v)) × ((T b → ⊥) → v ≡ 255))
    go true = (λ h. (λ a. h, λ n. absurd (n tt)), λ h. h.0 tt)
    go false = (λ h. (λ a. absurd a, λ n. (eqb_iff v 255).0 h), λ h. (eqb_iff v 255).1 (h.1 (λ a. a)))

pub entry_in : (s : State) (i v : ℕ) → s.active i ≡ true → s.live i v ≡ entry_fits s i v
unfolding entry_fits
entry_in s i v e = ap (λ (b : Bool). elim b as (λ x. Bool) [ true ↦ s.live i v | false ↦ eqb v 255 ]) (sym e)

pub entry_out : (s : State) (i v : ℕ) → s.active i ≡ false → eqb v 255 ≡ entry_fits s i v
unfolding entry_fits
entry_out s i v e = ap (λ (b : Bool). elim b as (λ x. Bool) [ true ↦ s.live i v | false ↦ eqb v 255 ]) (sym e)

module _ {P : Problem} {s : State} (F : Fits P s) (p : List ℕ) where
  -- what the test says of a plan, either way
  abbrev Entry : Type 0
  Entry = (i : ℕ) → i < P.n → T (entry_fits s i (plan_of p i))

  abbrev Pairs : Type 0
  Pairs = (i : ℕ) → i < P.n → (j : ℕ) → j < P.n → Active s i × (Active s j × (i ≢ j)) → Allowed P i (plan_of p i) j (plan_of p j)

  solved : Entry → Pairs → Solution P s (plan_of p)
  solved e q =
      record {
        live = λ i h. ((entry_iff s i (plan_of p i)).0 (e i (F.active_lt i h))).0 h;
        ok = λ i j hi hj d. q i (F.active_lt i hi) j (F.active_lt j hj) (hi, (hj, d));
      }

  out : (i : ℕ) → T (entry_fits s i (plan_of p i)) → T (s.active i) ⊎ T (eqb (plan_of p i) 255)
  out i e = ⊎_elim (λ t. inl t) (λ n. inr ((eqb_iff (plan_of p i) 255).1 (((entry_iff s i (plan_of p i)).0 e).1 n))) (T_dec (s.active i))

  entered : (i : ℕ) → T (s.active i) ⊎ T (eqb (plan_of p i) 255) → Solution P s (plan_of p) → T (entry_fits s i (plan_of p i))
  entered i x A =
      (entry_iff s i (plan_of p i)).1 (
        λ h. A.live i h,
        λ n. ⊎_elim (λ h. absurd (n h)) (λ h. (eqb_iff (plan_of p i) 255).0 h) x,
      )

  plan_iff : T (plan_fits P s p) ↔ (((i : ℕ) → i < P.n → T (s.active i) ⊎ T (eqb (plan_of p i) 255)) × T (solves P s (plan_of p)))
  unfolding plan_fits
  plan_iff = (λ h. simp (and_iff, all_iff, or_iff) at h, λ h. simp (and_iff, all_iff, or_iff) h)

  pairs_iff : T (all_below P.n (pairs_of P s (plan_of p))) ↔ Pairs
  unfolding pairs_of
  pairs_iff = (λ h. simp (all_iff, imp_iff, and_iff, not_iff, eqb_iff) at h, λ h. simp (all_iff, imp_iff, and_iff, not_iff, eqb_iff) h)

  abbrev entries : Bool
  entries = all_below P.n (λ i. entry_fits s i (plan_of p i))

  abbrev pairs : Bool
  pairs = all_below P.n (pairs_of P s (plan_of p))

  entries_iff : T entries ↔ Entry
  entries_iff = all_iff P.n (λ i. entry_fits s i (plan_of p i))

  pub plan_says : plan_fits P s p ≡ (all_below P.n (λ i. entry_fits s i (plan_of p i)) && all_below P.n (pairs_of P s (plan_of p)))
  plan_says =
      T_ext (
        λ h. let x = plan_iff.0 h in
            let A = (solves_iff F (plan_of p)).0 x.1 in
            (and_iff entries pairs).1 (entries_iff.1 (λ i l. entered i (x.0 i l) A), pairs_iff.1 (λ i li j lj g. A.ok i j g.0 g.1.0 g.1.1)),
        λ h. let x = (and_iff entries pairs).0 h in
            let e = entries_iff.0 x.0 in
            plan_iff.1 (λ i l. out i (e i l), (solves_iff F (plan_of p)).1 (solved e (pairs_iff.0 x.1))),
      )

  -- the two loops, to the length of the plan
  sized : length p ≡ P.n → all_below (length p) (λ i. entry_fits s i (plan_of p i)) ≡ entries
  sized n = ap (λ (k : ℕ). all_below k (λ i. entry_fits s i (plan_of p i))) n

  pub plan_pairs : length p ≡ P.n → all_below (length p) (λ i. entry_fits s i (plan_of p i)) ≡ true → all_below P.n (pairs_of P s (plan_of p)) ≡ plan_fits P s p
  plan_pairs n e = ap (λ (b : Bool). b && pairs) (sym e ∙ sized n) ∙ sym plan_says

  pub plan_entries : length p ≡ P.n → all_below (length p) (λ i. entry_fits s i (plan_of p i)) ≡ false → false ≡ plan_fits P s p
  plan_entries n e = ap (λ (b : Bool). b && pairs) (sym e ∙ sized n) ∙ sym plan_says

  -- a plan that passes solves the state
  pub plan_solves : plan_fits P s p ≡ true → Solution P s (plan_of p)
  plan_solves e = (solves_iff F (plan_of p)).0 (plan_iff.0 (subst T (sym e) tt)).1
