-- The start is arc consistent, contains every arc consistent family of domains, and keeps every solution. Assumes nothing.
use mathlib.Core.Path.{◌≡◌, refl, sym, subst}
use mathlib.Core.Bool.{Bool, ◌&&◌}
use mathlib.Core.Logic.Iff
use mathlib.Core.Logic.{◌↔◌, ◌⊎◌, inl, inr}
use Prim.Native.Nat.{ℕ, zero, suc, ◌<◌}
use native.Mathlib.Nat.{not-suc-le-zero}
use native.Mathlib.Omega.{arith}
use lib.Dec.{T, eqb, ltb}
use Rattle.bounded.proofs.Truth.{and_iff, eqb_iff, ltb_iff}
use Rattle.problem.specs.Problem.{Problem, State, full, all_active, all_live, live_count}
use Rattle.problem.specs.Hand.{supported, prune, prune_times, start_turns, start}
use Rattle.problem.proofs.Reflect.{full_fits, all_active_iff, all_active_or, all_live_iff, all_live_or, supported_iff}
use Rattle.problem.specs.Sentences.{Active, Live, Allowed, Fits, Supported, ArcConsistent, Solution}
use Rattle.problem.proofs.Count.{count_falls}

module _ (P : Problem) where
  prune_live : {s : State} → Fits P s → (i a : ℕ) → Live (prune P s) i a ↔ (Live s i a × Supported P s i a)
  unfolding prune
  prune_live F i a = simp (and_iff, supported_iff F) Iff.rfl

  pub prune_fits : {s : State} → Fits P s → Fits P (prune P s)
  unfolding prune
  prune_fits F =
      record { active_lt = F.active_lt; live_active = λ i a o. F.live_active i a (simp and_iff at o).0; live_lt = λ i a o. F.live_lt i a (simp and_iff at o).0 }

  -- every live value is supported everywhere, or a pruning uses one up
  settled : {s : State} → Fits P s → ArcConsistent P s ⊎ (live_count P (prune P s) < live_count P s)
  settled {s} F = go (all_active_or P s (λ i. all_live P s i (λ a. supported P s i a)))
    where
      one : (i : ℕ) → Active s i → (a : ℕ) × Live s i a × (T (supported P s i a) → ⊥) → live_count P (prune P s) < live_count P s
      one i h x =
          count_falls P s (prune P s) (λ i a o. ((prune_live F i a).0 o).0) i x.0 (F.active_lt i h) (F.live_lt i x.0 x.1) x.1
          (λ o. x.2 ((supported_iff F i x.0).1 ((prune_live F i x.0).0 o).1))

      go : T (all_active P s (λ i. all_live P s i (λ a. supported P s i a))) ⊎ ((i : ℕ) × Active s i × (T (all_live P s i (λ a. supported P s i a)) → ⊥)) → ArcConsistent P s ⊎ (live_count P (prune P s) < live_count P s)
      go (inl t) = inl (λ i a o. (simp (all_active_iff F, all_live_iff F, supported_iff F) at t) i (F.live_active i a o) a o)
      go (inr x) = elim (all_live_or P s x.0 (λ a. supported P s x.0 a)) [ inl t ↦ absurd (x.2 t) | inr y ↦ inr (one x.0 x.1 y) ]

  prune_consistent : {s : State} → Fits P s → ArcConsistent P s → ArcConsistent P (prune P s)
  unfolding prune
  prune_consistent F C i a o j h d =
      let x = C i a ((prune_live F i a).0 o).0 j h d in
      (x.0, (prune_live F j x.0).1 (x.1, C j x.0 x.1), x.2)

  times_consistent : (f : ℕ) {s : State} → Fits P s → ArcConsistent P s → ArcConsistent P (prune_times f P s)
  unfolding prune_times
  times_consistent zero F C = C
  times_consistent (suc f) F C = times_consistent f (prune_fits F) (prune_consistent F C)

  times_enough : (f : ℕ) {s : State} → Fits P s → live_count P s < f → ArcConsistent P (prune_times f P s)
  unfolding prune_times
  times_enough zero F lt = absurd (not-suc-le-zero lt)
  times_enough (suc f) {s} F lt = go (settled F) (times_enough f (prune_fits F))
    where
      go : ArcConsistent P s ⊎ (live_count P (prune P s) < live_count P s) → (live_count P (prune P s) < f → ArcConsistent P (prune_times f P (prune P s))) → ArcConsistent P (prune_times f P (prune P s))
      go (inl C) ih = times_consistent f (prune_fits F) (prune_consistent F C)
      go (inr l) ih = ih (omega arith)

  times_fits : (f : ℕ) {s : State} → Fits P s → Fits P (prune_times f P s)
  unfolding prune_times
  times_fits zero F = F
  times_fits (suc f) F = times_fits f (prune_fits F)

  times_active : (f : ℕ) (s : State) → (prune_times f P s).active ≡ s.active
  unfolding prune_times prune
  times_active zero s = refl
  times_active (suc f) s = times_active f (prune P s)

  -- what is arc consistent within s, with the variables of s active, stays
  times_keep : (f : ℕ) {s : State} (r : State) → Fits P s → ArcConsistent P r → ((i : ℕ) → Active s i → Active r i) → ((i a : ℕ) → Live r i a → Live s i a) → (i a : ℕ) → Live r i a → Live (prune_times f P s) i a
  unfolding prune_times prune
  times_keep zero r F C g h i a o = h i a o
  times_keep (suc f) r F C g h i a o =
      times_keep f r (prune_fits F) C g (λ i a o. (prune_live F i a).1 (h i a o, λ j hj d. let x = C i a o j (g j hj) d in (x.0, h j x.0 x.1, x.2))) i a o

  pub start_fits : Fits P (start P)
  unfolding start
  start_fits = times_fits (start_turns P) (full_fits P)

  -- all items are in
  pub start_active : (start P).active ≡ (full P).active
  unfolding start
  start_active = times_active (start_turns P) (full P)

  pub start_consistent : ArcConsistent P (start P)
  unfolding start
  start_consistent = times_enough (start_turns P) (full_fits P) (omega arith)

  -- the largest: every arc consistent family of domains of all variables is within the start
  pub start_largest : (r : State) → ArcConsistent P r → ((i : ℕ) → i < P.n → Active r i) → ((i a : ℕ) → Live r i a → (i < P.n) × (a < P.size i)) → (i a : ℕ) → Live r i a → Live (start P) i a
  unfolding start full
  start_largest r C g h =
      times_keep (start_turns P) r (full_fits P) C (λ i q. g i ((ltb_iff i P.n).0 q))
      (λ i a o. simp (and_iff, ltb_iff) ((h i a o).0, (h i a o).1))

  -- the values of a solution are an arc consistent family: starting keeps every solution
  pub start_keeps : (p : ℕ → ℕ) → Solution P (full P) p ↔ Solution P (start P) p
  unfolding full
  start_keeps p = (λ A. record { live = live A; ok = λ i j hi hj d. A.ok i j (up i hi) (up j hj) d }, λ A. record { live = λ i h. simp (and_iff, ltb_iff) ((ltb_iff i P.n).0 h, start_fits.live_lt i (p i) (A.live i (down i h))); ok = λ i j hi hj d. A.ok i j (down i hi) (down j hj) d })
    where
      up : (i : ℕ) → Active (start P) i → Active (full P) i
      up i h = subst (λ (f : ℕ → Bool). T (f i)) start_active h

      down : (i : ℕ) → Active (full P) i → Active (start P) i
      down i h = subst (λ (f : ℕ → Bool). T (f i)) (sym start_active) h

      -- the family of p's own values
      own : State
      own = record { active = λ i. ltb i P.n; live = λ i a. ltb i P.n && eqb a (p i) }

      live : Solution P (full P) p → (i : ℕ) → Active (start P) i → Live (start P) i (p i)
      live A i h =
          start_largest own consistent (λ i l. (ltb_iff i P.n).1 l) within i (p i) (simp (and_iff, ltb_iff, eqb_iff) ((ltb_iff i P.n).0 (up i h), refl))
        where
          consistent : ArcConsistent P own
          consistent i a o j hj d =
              let x = simp (and_iff, eqb_iff) at o in
              (p j, simp (and_iff, eqb_iff) (hj, refl), subst (λ (c : ℕ). Allowed P i c j (p j)) (sym x.1) (A.ok i j x.0 hj (λ e. d (sym e))))

          within : (i a : ℕ) → Live own i a → (i < P.n) × (a < P.size i)
          within i a o =
              let x = simp (and_iff, eqb_iff) at o in
              ((ltb_iff i P.n).0 x.0, subst (λ (c : ℕ). c < P.size i) (sym x.1) ((full_fits P).live_lt i (p i) (A.live i x.0)))
