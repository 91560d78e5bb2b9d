-- The table of a problem with one block replaced, from the table of the problem. Assumes nothing.
use mathlib.Core.Path.{◌≡◌, sym, ◌∙◌, subst}
use mathlib.Core.Logic.{◌⊎◌, inl, inr}
use mathlib.Core.List.{List}
use Prim.Native.Nat.{ℕ, ◌<◌}
use native.Mathlib.Omega.{arith}
use lib.Dec.{T}
use Rattle.bounded.proofs.Truth.{eq_dec}
use Rattle.problem.specs.Problem.{Problem}
use Rattle.problem.specs.Held.{Bounded, Two, Filled}
use Rattle.problem.specs.Filling.{Entered, Replaced}
use Rattle.problem.proofs.Filling.{entered_located, PairFilled, filled_by}

module _ {P Q : Problem} {t u x : List ℕ} {i j : ℕ} (B : Bounded P) (F : Filled P t) (rises : i < j) (ends : j < P.n) (E : Entered t i j x u) (R : Replaced P Q i j x) where
  -- the pair whose block is replaced
  here : PairFilled Q u i j
  here =
      let si = R.sizes i in
      let sj = R.sizes j in
      let ni = B.narrow i in
      let nj = B.narrow j in
      record {
        own = λ a b la lb. E.here.own a b (omega arith) (omega arith) ∙ sym (R.here a b (omega arith) (omega arith));
        turned = λ a b la lb. E.here.turned a b (omega arith) (omega arith) ∙ sym (R.here a b (omega arith) (omega arith));
        far = λ e a b la lb. subst T (sym (R.here a b (omega arith) (omega arith))) (E.here.far e a b (omega arith) (omega arith));
        turned_far = λ e a b la lb. subst T (sym (R.here a b (omega arith) (omega arith))) (E.here.turned_far e a b (omega arith) (omega arith));
      }

  -- any other
  module _ (k l : ℕ) (lk : k < l) (ll : l < P.n) (d : (k ≡ i) × (l ≡ j) → ⊥) where
    two : Two P k l
    two = record { one = omega arith; other = ll; apart = λ e. absurd (omega arith) }

    back : Two P l k
    back = record { one = ll; other = omega arith; apart = λ e. absurd (omega arith) }

    other : PairFilled Q u k l
    other =
        let sk = R.sizes k in
        let sl = R.sizes l in
        let nk = B.narrow k in
        let nl = B.narrow l in
        let few = B.few in
        record {
          own = λ a b la lb. (E.kept k l lk (omega arith) d a b (omega arith) (omega arith)).0 ∙ F.rows k a l b two (omega arith) (omega arith) ∙ sym (R.else k l lk ll d a b (omega arith) (omega arith));
          turned = λ a b la lb. (E.kept k l lk (omega arith) d a b (omega arith) (omega arith)).1 ∙ F.rows l b k a back (omega arith) (omega arith) ∙ P.symmetric l b k a ∙ sym (R.else k l lk ll d a b (omega arith) (omega arith));
          far = λ e a b la lb. subst T (sym (R.else k l lk ll d a b (omega arith) (omega arith))) (F.far k a l b two (omega arith) (omega arith) (E.less k l (omega arith) (omega arith) e));
          turned_far = λ e a b la lb. subst T (P.symmetric l b k a ∙ sym (R.else k l lk ll d a b (omega arith) (omega arith))) (F.far l b k a back (omega arith) (omega arith) (E.less l k (omega arith) (omega arith) e));
        }

  pair : (k l : ℕ) → k < l → l < P.n → (k ≡ i) ⊎ (k ≡ i → ⊥) → (l ≡ j) ⊎ (l ≡ j → ⊥) → PairFilled Q u k l
  pair k l lk ll (inl e) (inl f) = subst (λ (m : ℕ). PairFilled Q u m l) (sym e) (subst (PairFilled Q u i) (sym f) here)
  pair k l lk ll (inl e) (inr n) = other k l lk ll (λ h. n h.1)
  pair k l lk ll (inr n) z = other k l lk ll (λ h. n h.0)

  pub filled_replaced : Filled Q u
  filled_replaced =
      let v = R.variables in
      filled_by (entered_located F.located E) (λ k l. E.front k (omega arith) ∙ F.sizes k l ∙ sym (R.sizes k)) (λ k l lk ll. pair k l lk (omega arith) (eq_dec k i) (eq_dec l j))
