-- A hand call: the lowest value for which the snake rule holds, and the refusals in their order. Assumes nothing.
use mathlib.Core.Path.{◌≡◌, ap, ◌∙◌, subst}
use mathlib.Core.Bool.{true, false, ◌&&◌}
use mathlib.Core.List.{List}
use Prim.Native.Nat.{ℕ, ◌≤◌, ◌<◌}
use native.Mathlib.Omega.{arith}
use lib.Dec.{T, ltb}
use Rattle.bounded.specs.Quantifiers.{lowest}
use Rattle.bounded.specs.Mask.{bit}
use Rattle.bounded.proofs.Truth.{T_true, T_false, T_of, and_iff, ltb_iff}
use Rattle.bounded.proofs.Quantifiers.{lowest_is, lowest_passes, lowest_least, lowest_unique}
use Rattle.problem.specs.Problem.{Problem, state_fits, none_empty, any_live, lowest_live, snake}
use Rattle.problem.specs.Hand.{call}
use Rattle.problem.specs.Held.{held}
use Rattle.problem.specs.Masks.{state_of}
use Rattle.problem.specs.declared.Masks.{Masks}
use Rattle.problem.specs.declared.Call.TheVariants.{Eliminated, NotActive, Emptied, NoSnake}
use Rattle.problem.proofs.Reflect.{fits_test, any_live_iff, snake_iff}
use Rattle.problem.specs.Sentences.{Live}
use Rattle.problem.proofs.OneCall.{call_item, call_emptied, call_none, call_done}
use Rattle.held.specs.Ready.{Ready}
use Rattle.held.proofs.Laws.{live_value, active_32}

-- ---- the lowest value

module _ {t : List ℕ} {m : Masks} (R : Ready t m) (i : ℕ) where
  snake_live : (v : ℕ) → T (snake (held t) (state_of m) i v) → Live (state_of m) i v
  snake_live v h = ((snake_iff R.fits i v).0 h).0

  pub snake_some : lowest 16 (snake (held t) (state_of m) i) < 16 → any_live (held t) (state_of m) i (λ v. snake (held t) (state_of m) i v) ≡ true
  snake_some l =
      let p = lowest_passes 16 (snake (held t) (state_of m) i) l in
      T_true _ ((any_live_iff R.fits i (λ v. snake (held t) (state_of m) i v)).1 (lowest 16 (snake (held t) (state_of m) i), snake_live _ p, p))

  pub snake_lowest : lowest 16 (snake (held t) (state_of m) i) < 16 → lowest_live (held t) (state_of m) i (λ v. snake (held t) (state_of m) i v) ≡ lowest 16 (snake (held t) (state_of m) i)
  unfolding lowest_live
  snake_lowest l =
      let p = lowest_passes 16 (snake (held t) (state_of m) i) l in
      let q = R.fits.live_lt i (lowest 16 (snake (held t) (state_of m) i)) (snake_live _ p) in
      lowest_unique ((held t).size i) (λ c. (state_of m).live i c && snake (held t) (state_of m) i c) (lowest 16 (snake (held t) (state_of m) i)) (omega arith)
      (λ k lt h. lowest_least 16 (snake (held t) (state_of m) i) k lt ((and_iff ((state_of m).live i k) (snake (held t) (state_of m) i k)).0 h).1)
      (λ lt. (and_iff ((state_of m).live i (lowest 16 (snake (held t) (state_of m) i))) (snake (held t) (state_of m) i (lowest 16 (snake (held t) (state_of m) i)))).1 (snake_live _ p, p))

  pub snake_none : 16 ≤ lowest 16 (snake (held t) (state_of m) i) → any_live (held t) (state_of m) i (λ v. snake (held t) (state_of m) i v) ≡ false
  snake_none l =
      T_false _ (λ h. let x = (any_live_iff R.fits i (λ v. snake (held t) (state_of m) i v)).0 h in
      let y = lowest_is 16 (snake (held t) (state_of m) i) (x.0, (live_value R i x.0 x.1).value, x.2) in
      omega (arith, y.0))

  pub active_below : bit m.active i ≡ true → i < 32
  unfolding state_of
  active_below e = active_32 R i (T_of e)

  -- an active variable of a state that fits is one of the problem's
  pub active_in : bit m.active i ≡ true → (ltb i (held t).n && (state_of m).active i) ≡ true
  unfolding state_of
  active_in e = T_true _ ((and_iff (ltb i (held t).n) (bit m.active i)).1 ((ltb_iff i (held t).n).1 (R.fits.active_lt i (T_of e)), T_of e))

active_out : (P : Problem) (m : Masks) (i : ℕ) → bit m.active i ≡ false → (ltb i P.n && (state_of m).active i) ≡ false
unfolding state_of
active_out P m i e = T_false _ (λ h. subst T e ((and_iff (ltb i P.n) (bit m.active i)).0 h).1)

-- ---- the outcomes, in their order, of a state that fits

fit : {t : List ℕ} {m : Masks} → Ready t m → state_fits (held t) (state_of m) ≡ true
fit R = T_true _ (fits_test R.fits)

pub ready_item : {t : List ℕ} {m : Masks} → Ready t m → (i : ℕ) → bit m.active i ≡ false → call (held t) (state_of m) i ≡ NotActive
ready_item {t} {m} R i off = call_item (held t) (state_of m) i (fit R) (active_out (held t) m i off)

module _ {t : List ℕ} {m : Masks} (R : Ready t m) (i : ℕ) (on : bit m.active i ≡ true) where
  pub ready_emptied : none_empty (held t) (state_of m) ≡ false → call (held t) (state_of m) i ≡ Emptied
  ready_emptied e = call_emptied (held t) (state_of m) i (fit R) (active_in R i on) e

  pub ready_none : none_empty (held t) (state_of m) ≡ true → 16 ≤ lowest 16 (snake (held t) (state_of m) i) → call (held t) (state_of m) i ≡ NoSnake
  ready_none e l = call_none (held t) (state_of m) i (fit R) (active_in R i on) e (snake_none R i l)

  pub ready_done : none_empty (held t) (state_of m) ≡ true → lowest 16 (snake (held t) (state_of m) i) < 16 → call (held t) (state_of m) i ≡ Eliminated (lowest 16 (snake (held t) (state_of m) i))
  ready_done e l = call_done (held t) (state_of m) i (fit R) (active_in R i on) e (snake_some R i l) ∙ ap Eliminated (snake_lowest R i l)
