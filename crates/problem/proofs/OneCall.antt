-- One hand call: what it answers, by its tests in their order, and the exact cause of each answer. Assumes nothing.
use mathlib.Core.Path.{◌≡◌, ap, ◌∙◌}
use mathlib.Core.Bool.{true, false, ◌&&◌}
use mathlib.Core.Logic.{◌⊎◌, inl, inr, ◌↔◌}
use Prim.Native.Nat.{ℕ, ◌≤◌, ◌<◌}
use native.Mathlib.Omega.{arith}
use lib.Dec.{T, ltb}
use Rattle.bounded.specs.Quantifiers.{imp, all_below}
use Rattle.bounded.proofs.Truth.{T_true, T_false, T_dec, lt_dec, and_iff, imp_fails, ltb_iff}
use Rattle.bounded.proofs.Causes.{cause_iff}
use Rattle.bounded.proofs.Quantifiers.{all_or, lowest_least, lowest_unique}
use Rattle.problem.specs.Problem.{Problem, State, max_variables, max_values, state_fits, none_empty, any_live, lowest_live, snake}
use Rattle.problem.specs.Hand.{call}
use Rattle.problem.specs.declared.Call.{Call}
use Rattle.problem.specs.declared.Call.TheVariants.{Eliminated, Misfit, NotActive, Emptied, NoSnake}
use Rattle.problem.proofs.Reflect.{fits_test, all_active_or, any_live_iff, lowest_live_is, none_empty_iff, snake_iff}
use Rattle.problem.specs.Sentences.{Active, Live, Fits, NoneEmpty}
use Rattle.problem.specs.Causes.{Misfits, Named, SomeEmpty, LowestSnake, CallCause}

-- ---- the tests, in their order

module _ (P : Problem) (s : State) (i : ℕ) where
  pub call_misfit : state_fits P s ≡ false → call P s i ≡ Misfit
  unfolding call
  call_misfit e = rw (e, call)

  pub call_item : state_fits P s ≡ true → (ltb i P.n && s.active i) ≡ false → call P s i ≡ NotActive
  unfolding call
  call_item e f = rw (e, f, call)

  pub call_emptied : state_fits P s ≡ true → (ltb i P.n && s.active i) ≡ true → none_empty P s ≡ false → call P s i ≡ Emptied
  unfolding call
  call_emptied e f g = rw (e, f, g, call)

  pub call_none : state_fits P s ≡ true → (ltb i P.n && s.active i) ≡ true → none_empty P s ≡ true → any_live P s i (λ v. snake P s i v) ≡ false → call P s i ≡ NoSnake
  unfolding call
  call_none e f g h = rw (e, f, g, h, call)

  pub call_done : state_fits P s ≡ true → (ltb i P.n && s.active i) ≡ true → none_empty P s ≡ true → any_live P s i (λ v. snake P s i v) ≡ true → call P s i ≡ Eliminated (lowest_live P s i (λ v. snake P s i v))
  unfolding call
  call_done e f g h = rw (e, f, g, h, call)

-- ---- the causes

module _ (P : Problem) (s : State) where
  misfits_found : (T (state_fits P s) → ⊥) → Misfits P s
  unfolding state_fits
  misfits_found h = go (all_or max_variables (λ i. imp (s.active i) (ltb i P.n))) (all_or max_variables (λ i. all_below max_values (λ a. imp (s.live i a) (s.active i && ltb a (P.size i)))))
    where
      above : (m n : ℕ) → (T (ltb m n) → ⊥) → n ≤ m
      above m n f = elim (lt_dec m n) [ inl l ↦ absurd (f ((ltb_iff m n).1 l)) | inr l ↦ l ]

      at : (i a : ℕ) → Live s i a → (T (s.active i && ltb a (P.size i)) → ⊥) → T (s.active i) ⊎ (T (s.active i) → ⊥) → Misfits P s
      at i a o f (inl t) = inr (inr (i, a, o, above a (P.size i) (λ l. f ((and_iff (s.active i) (ltb a (P.size i))).1 (t, l)))))
      at i a o f (inr n) = inr (inl (i, a, o, n))

      within : (i : ℕ) → T (all_below max_values (λ a. imp (s.live i a) (s.active i && ltb a (P.size i)))) ⊎ ((a : ℕ) × (a < max_values) × (T (imp (s.live i a) (s.active i && ltb a (P.size i))) → ⊥))
          → (T (all_below max_values (λ a. imp (s.live i a) (s.active i && ltb a (P.size i)))) → ⊥) → Misfits P s
      within i (inl t) f = absurd (f t)
      within i (inr x) f = let y = imp_fails (s.live i x.0) (s.active i && ltb x.0 (P.size i)) x.2 in at i x.0 y.0 y.1 (T_dec (s.active i))

      go : T (all_below max_variables (λ i. imp (s.active i) (ltb i P.n))) ⊎ ((i : ℕ) × (i < max_variables) × (T (imp (s.active i) (ltb i P.n)) → ⊥))
          → T (all_below max_variables (λ i. all_below max_values (λ a. imp (s.live i a) (s.active i && ltb a (P.size i)))))
          ⊎ ((i : ℕ) × (i < max_variables) × (T (all_below max_values (λ a. imp (s.live i a) (s.active i && ltb a (P.size i)))) → ⊥))
          → Misfits P s
      go (inr x) q = let y = imp_fails (s.active x.0) (ltb x.0 P.n) x.2 in inl (x.0, y.0, above x.0 P.n y.1)
      go (inl t) (inl u) = absurd (h ((and_iff (all_below max_variables (λ i. imp (s.active i) (ltb i P.n))) (all_below max_variables (λ i. all_below max_values (λ a. imp (s.live i a) (s.active i && ltb a (P.size i)))))).1 (t, u)))
      go (inl t) (inr x) = within x.0 (all_or max_values (λ a. imp (s.live x.0 a) (s.active x.0 && ltb a (P.size x.0)))) x.2

  -- a state with such a fault does not fit
  misfits_not : Misfits P s → Fits P s → ⊥
  misfits_not (inl x) F = let l = F.active_lt x.0 x.1 in let m = x.2 in omega arith
  misfits_not (inr (inl x)) F = x.3 (F.live_active x.0 x.1 x.2)
  misfits_not (inr (inr x)) F = let l = F.live_lt x.0 x.1 x.2 in let m = x.3 in omega arith

-- ---- a call answers as it does for its cause, and for no other

-- a state whose test of 11 speaks for every number, as that of a state's masks does
module _ (P : Problem) (s : State) (H : T (state_fits P s) → Fits P s) (i : ℕ) where
  fit : Fits P s → state_fits P s ≡ true
  fit F = T_true (state_fits P s) (fits_test F)

  named : Named P s i → (ltb i P.n && s.active i) ≡ true
  named x = T_true _ ((and_iff (ltb i P.n) (s.active i)).1 ((ltb_iff i P.n).1 x.0, x.1))

  -- the lowest live value that passes is the lowest that passes
  lowest_snake : (v : ℕ) → Fits P s → LowestSnake P s i v → lowest_live P s i (λ v. snake P s i v) ≡ v
  unfolding lowest_live
  lowest_snake v F x =
      let o = ((snake_iff F i v).0 x.0).0 in
      let l = F.live_lt i v o in
      lowest_unique (P.size i) (λ c. s.live i c && snake P s i c) v (omega arith) (λ k m t. x.1 k m ((and_iff (s.live i k) (snake P s i k)).0 t).1) (λ m. (and_iff (s.live i v) (snake P s i v)).1 (o, x.0))

  cause_tells : (c : Call) → CallCause P s i c → call P s i ≡ c
  cause_tells Misfit x = call_misfit P s i (T_false _ (λ t. misfits_not P s x (H t)))
  cause_tells NotActive x = call_item P s i (fit x.0) (T_false _ (λ t. let y = (and_iff (ltb i P.n) (s.active i)).0 t in go x.1 y))
    where
      go : (P.n ≤ i) ⊎ (Active s i → ⊥) → T (ltb i P.n) × Active s i → ⊥
      go (inl l) y = let m = (ltb_iff i P.n).0 y.0 in omega arith
      go (inr n) y = n y.1
  cause_tells Emptied x = call_emptied P s i (fit x.0) (named x.1) (T_false _ (λ t. let y = (none_empty_iff x.0).0 t x.2.0 x.2.1 in x.2.2 y.0 y.1))
  cause_tells NoSnake x =
      call_none P s i (fit x.0) (named x.1) (T_true _ ((none_empty_iff x.0).1 x.2))
      (T_false _ (λ t. let y = (any_live_iff x.0 i (λ v. snake P s i v)).0 t in x.3 y.0 y.2))
  cause_tells (Eliminated v) x =
      let o = ((snake_iff x.0 i v).0 x.3.0).0 in
      call_done P s i (fit x.0) (named x.1) (T_true _ ((none_empty_iff x.0).1 x.2)) (T_true _ ((any_live_iff x.0 i (λ v. snake P s i v)).1 (v, o, x.3.0)))
      ∙ ap Eliminated (lowest_snake v x.0 x.3)

  lowest_below : (w : ℕ) → w < lowest_live P s i (λ v. snake P s i v) → Fits P s → T (snake P s i w) → ⊥
  unfolding lowest_live
  lowest_below w l F h = lowest_least (P.size i) (λ c. s.live i c && snake P s i c) w l ((and_iff (s.live i w) (snake P s i w)).1 (((snake_iff F i w).0 h).0, h))

  -- no active variable is empty, or one is found
  empty_or : Fits P s → T (none_empty P s) ⊎ SomeEmpty P s
  unfolding none_empty
  empty_or F = elim (all_active_or P s (λ l. any_live P s l (λ c. true))) [ inl t ↦ inl t | inr x ↦ inr (x.0, x.1, λ c o. x.2 ((any_live_iff F x.0 (λ c. true)).1 (c, o, tt))) ]

  -- some cause speaks
  some_cause : (c : Call) × CallCause P s i c
  some_cause = by_fit (T_dec (state_fits P s))
    where
      Some : Type 0
      Some = (c : Call) × CallCause P s i c

      by_rule : Fits P s → Named P s i → NoneEmpty P s → T (any_live P s i (λ v. snake P s i v)) ⊎ (T (any_live P s i (λ v. snake P s i v)) → ⊥) → Some
      by_rule F m e (inl t) =
          let x = lowest_live_is F i (λ v. snake P s i v) ((any_live_iff F i (λ v. snake P s i v)).0 t) in
          (Eliminated (lowest_live P s i (λ v. snake P s i v)), (F, m, e, (x.1, λ w l h. lowest_below w l F h)))
      by_rule F m e (inr n) = (NoSnake, (F, m, e, λ v h. n ((any_live_iff F i (λ v. snake P s i v)).1 (v, ((snake_iff F i v).0 h).0, h))))

      by_empty : Fits P s → Named P s i → T (none_empty P s) ⊎ SomeEmpty P s → Some
      by_empty F m (inl t) = by_rule F m ((none_empty_iff F).0 t) (T_dec (any_live P s i (λ v. snake P s i v)))
      by_empty F m (inr x) = (Emptied, (F, m, x))

      by_item : Fits P s → (i < P.n) ⊎ (P.n ≤ i) → T (s.active i) ⊎ (T (s.active i) → ⊥) → Some
      by_item F (inr l) q = (NotActive, (F, inl l))
      by_item F (inl l) (inr n) = (NotActive, (F, inr n))
      by_item F (inl l) (inl t) = by_empty F (l, t) (empty_or F)

      by_fit : T (state_fits P s) ⊎ (T (state_fits P s) → ⊥) → Some
      by_fit (inr n) = (Misfit, misfits_found P s n)
      by_fit (inl t) = by_item (H t) (lt_dec i P.n) (T_dec (s.active i))

  pub call_iff : (c : Call) → (call P s i ≡ c) ↔ CallCause P s i c
  call_iff = cause_iff (call P s i) (CallCause P s i) cause_tells some_cause
