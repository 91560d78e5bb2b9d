-- Counting finds a solution exactly where there is one. Assumes nothing.
use mathlib.Core.Path.{◌≡◌, refl, subst, ◌∙◌}
use mathlib.Core.Bool.{Bool, true, false}
use mathlib.Core.Logic.{◌⊎◌, inl, inr, ◌≢◌, ◌↔◌}
use Prim.Native.Nat.{ℕ, zero, suc, ◌+◌, ◌≤◌, ◌<◌}
use native.Mathlib.Nat.{not-suc-le-zero}
use native.Mathlib.Omega.{arith}
use lib.Dec.{T}
use Rattle.bounded.specs.Quantifiers.{sum_to, one_if}
use Rattle.bounded.proofs.Truth.{T_dec, T_true, T_false, ltb_iff, eq_dec, lt_dec, at_or_below}
use Rattle.problem.specs.Problem.{Problem, State}
use Rattle.problem.specs.PutBack.{solves, put}
use Rattle.problem.specs.Solutions.{solutions_from, solution_count, solvable}
use Rattle.problem.specs.Sentences.{Active, Fits, Solution, Solvable}
use Rattle.problem.proofs.Sound.{solves_iff, put_same, put_other}

-- a sum is positive exactly where a term is
sum_some : (n : ℕ) (f : ℕ → ℕ) → 0 < sum_to n f → (k : ℕ) × (k < n) × (0 < f k)
unfolding sum_to
sum_some zero f h = absurd (not-suc-le-zero h)
sum_some (suc n) f h = go (lt_dec 0 (f n)) (sum_some n f)
  where
    go : (0 < f n) ⊎ (f n ≤ 0) → (0 < sum_to n f → (k : ℕ) × (k < n) × (0 < f k)) → (k : ℕ) × (k < suc n) × (0 < f k)
    go (inl p) ih = (n, omega arith, p)
    go (inr z) ih = let x = ih (omega arith) in (x.0, omega (arith, x.1), x.2)

some_sum : (n : ℕ) (f : ℕ → ℕ) (k : ℕ) → k < n → 0 < f k → 0 < sum_to n f
unfolding sum_to
some_sum zero f k l h = absurd (not-suc-le-zero l)
some_sum (suc n) f k l h = go (at_or_below l) (some_sum n f k)
  where
    go : (k ≡ n) ⊎ (k < n) → (k < n → 0 < f k → 0 < sum_to n f) → 0 < sum_to n f + f n
    go (inl e) ih = omega (arith, subst (λ (m : ℕ). 0 < f m) e h)
    go (inr m) ih = omega (arith, ih m h)

one_some : (b : Bool) → 0 < one_if b → T b
one_some true h = tt
one_some false h = absurd (not-suc-le-zero h)

some_one : (b : Bool) → T b → 0 < one_if b
some_one true t = omega arith
some_one false t = absurd t

module _ {P : Problem} {s : State} (F : Fits P s) where
  from_active : (k : ℕ) (p : ℕ → ℕ) → s.active k ≡ true → solutions_from P s (suc k) p ≡ sum_to (P.size k) (λ v. solutions_from P s k (put k v p))
  unfolding solutions_from
  from_active k p e = rw (e, solutions_from)

  from_out : (k : ℕ) (p : ℕ → ℕ) → s.active k ≡ false → solutions_from P s (suc k) p ≡ solutions_from P s k p
  unfolding solutions_from
  from_out k p e = rw (e, solutions_from)

  found : (k : ℕ) (p : ℕ → ℕ) → 0 < solutions_from P s k p → Solvable P s
  unfolding solutions_from
  found zero p h = (p, (solves_iff F p).0 (one_some (solves P s p) h))
  found (suc k) p h = go (s.active k) refl (λ q. found k q)
    where
      go : (b : Bool) → s.active k ≡ b → ((q : ℕ → ℕ) → 0 < solutions_from P s k q → Solvable P s) → Solvable P s
      go true e ih = let x = sum_some (P.size k) (λ v. solutions_from P s k (put k v p)) (rw (from_active k p e) at h) in ih (put k x.0 p) x.2
      go false e ih = ih p (rw (from_out k p e) at h)

  -- an assignment that agrees with a solution at the active variables is a solution
  agrees : (p q : ℕ → ℕ) → Solution P s p → ((i : ℕ) → Active s i → q i ≡ p i) → Solution P s q
  agrees p q A h =
      record {
        live = λ i hi. rw (h i hi) (A.live i hi);
        ok = λ i j hi hj d. rw (h i hi, h j hj) (A.ok i j hi hj d);
      }

  -- q agrees with the solution p at the active variables not below k
  counted : (k : ℕ) (p q : ℕ → ℕ) → Solution P s p → ((i : ℕ) → Active s i → k ≤ i → q i ≡ p i) → 0 < solutions_from P s k q
  unfolding solutions_from
  counted zero p q A h = some_one (solves P s q) ((solves_iff F q).1 (agrees p q A (λ i hi. h i hi (omega arith))))
  counted (suc k) p q A h = go (T_dec (s.active k)) (λ r. counted k p r A)
    where
      go : Active s k ⊎ (Active s k → ⊥) → ((r : ℕ → ℕ) → ((i : ℕ) → Active s i → k ≤ i → r i ≡ p i) → 0 < solutions_from P s k r) → 0 < solutions_from P s (suc k) q
      go (inl t) ih =
          rw (from_active k q (T_true (s.active k) t))
          (some_sum (P.size k) (λ v. solutions_from P s k (put k v q)) (p k) (F.live_lt k (p k) (A.live k t)) (ih (put k (p k) q) at))
        where
          at : (i : ℕ) → Active s i → k ≤ i → put k (p k) q i ≡ p i
          at i hi l = here (eq_dec i k)
            where
              here : (i ≡ k) ⊎ (i ≢ k) → put k (p k) q i ≡ p i
              here (inl e) = rw (e, put_same k (p k) q)
              here (inr d) = put_other k (p k) q i d ∙ h i hi (omega arith)
      go (inr n) ih = rw (from_out k q (T_false (s.active k) n)) (ih q at)
        where
          at : (i : ℕ) → Active s i → k ≤ i → q i ≡ p i
          at i hi l = here (eq_dec i k)
            where
              here : (i ≡ k) ⊎ (i ≢ k) → q i ≡ p i
              here (inl e) = absurd (n (subst (λ (x : ℕ). Active s x) e hi))
              here (inr d) = h i hi (omega arith)

  pub solvable_iff : T (solvable P s) ↔ Solvable P s
  unfolding solvable solution_count
  solvable_iff = (
    λ t. found P.n (λ _. 255) ((ltb_iff 0 (solution_count P s)).0 t),
    λ x. (ltb_iff 0 (solution_count P s)).1 (counted P.n x.0 (λ _. 255) x.1 (λ i hi l. absurd (omega (arith, F.active_lt i hi)))),
  )
