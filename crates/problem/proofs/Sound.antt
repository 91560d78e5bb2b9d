-- Each kind of step: a solution before gives a solution after, and a solution after, undone, is a solution before. Assumes nothing.
use mathlib.Core.Path.{◌≡◌, refl, sym, ◌∙◌, ap, subst}
use mathlib.Core.Bool.{Bool, ◌&&◌, not}
use mathlib.Core.Logic.{◌≢◌, ◌↔◌, ◌⊎◌, inl, inr}
use Prim.Native.Nat.{ℕ}
use lib.Dec.{T, eqb}
use Rattle.bounded.proofs.Truth.{T_true, T_false, T_dec, eq_dec, and_iff, not_iff, eqb_iff}
use Rattle.problem.specs.Problem.{Problem, State, full, lowest_live, snake_serves, triangle_serves, substitution_serves, remove, eliminate}
use Rattle.problem.specs.PutBack.{solves, solves_whole, put, repair, undo}
use Rattle.problem.specs.declared.Record.TheVariants as record·
use Rattle.problem.proofs.Reflect.{full_fits, turn, all_active_iff, all_other_iff, lowest_live_is, snake_serves_iff, triangle_serves_iff, substitution_serves_iff, remove_live, eliminate_active, eliminate_live}
use Rattle.problem.specs.Sentences.{Solution, Solvable, Active, Live, Allowed, Fits, Substitutes, Unsupported, Snake, Triangle, TriangleServes, Neighbourhood, SnakeSubstitution}

pub solves_iff : {P : Problem} {s : State} → Fits P s → (p : ℕ → ℕ) → T (solves P s p) ↔ Solution P s p
unfolding solves
solves_iff F p = (
  λ t. let h = simp (all_active_iff F, and_iff, all_other_iff F) at t in
      record { live = λ i hi. (h i hi).0; ok = λ i j hi hj d. (h i hi).1 j hj (λ e. d (sym e)) },
  λ A. simp (all_active_iff F, and_iff, all_other_iff F) (λ i hi. (A.live i hi, λ j hj d. A.ok i j hi hj (λ e. d (sym e)))),
)

-- a plan of the full sheet
pub solves_whole_iff : (P : Problem) (p : ℕ → ℕ) → T (solves_whole P p) ↔ Solution P (full P) p
unfolding solves_whole
solves_whole_iff P p = solves_iff (full_fits P) p

-- ---- assignments changed at one variable

pub put_same : (i v : ℕ) (p : ℕ → ℕ) → put i v p i ≡ v
unfolding put
put_same i v p = rw (T_true (eqb i i) ((eqb_iff i i).1 refl), put)

pub put_other : (i v : ℕ) (p : ℕ → ℕ) (j : ℕ) → j ≢ i → put i v p j ≡ p j
unfolding put
put_other i v p j d = rw (T_false (eqb j i) (λ t. d ((eqb_iff j i).0 t)), put)

module _ (P : Problem) (s : State) (i v : ℕ) (p : ℕ → ℕ) (j : ℕ) where
  abbrev barred : Bool
  barred = s.active j && (not (eqb j i) && not (P.allowed i v j (p j)))

  repair_kept : (T barred → ⊥) → repair P s i v p j ≡ p j
  unfolding repair
  repair_kept n = rw (T_false barred n, repair)

  repair_moved : T barred → repair P s i v p j ≡ lowest_live P s j (λ w'. snake_serves P s i v j (p j) w')
  unfolding repair
  repair_moved t = rw (T_true barred t, repair)

module _ {P : Problem} {s : State} (F : Fits P s) where
  -- The double replacement that all undoing rests on: variable i gets v, and every other variable j moves from p j to q j, which is allowed
  -- with v and substitutes for p j at every variable but i and j.
  moved : (i v : ℕ) (p q : ℕ → ℕ)
      → Live s i v
      → ((j : ℕ) → Active s j → j ≢ i → Live s j (p j))
      → ((j k : ℕ) → Active s j → Active s k → j ≢ i → k ≢ i → j ≢ k → Allowed P j (p j) k (p k))
      → ((j : ℕ) → Active s j → j ≢ i → Live s j (q j) × Allowed P i v j (q j) × ((l : ℕ) → Active s l → l ≢ i → l ≢ j → Substitutes P s j (q j) j (p j) l))
      → Solution P s (put i v q)
  moved i v p q ov op pp fq = record { live = live; ok = ok }
    where
      live : (j : ℕ) → Active s j → Live s j (put i v q j)
      live j h = go (eq_dec j i)
        where
          go : (j ≡ i) ⊎ (j ≢ i) → Live s j (put i v q j)
          go (inl e) = rw (e, put_same i v q) ov
          go (inr d) = rw (put_other i v q j d) (fq j h d).0

      pair : (j k : ℕ) → Active s j → Active s k → j ≢ i → k ≢ i → j ≢ k → Allowed P j (q j) k (q k)
      pair j k hj hk dj dk d =
          let x = (fq j hj dj).2 k hk dk (λ e. d (sym e)) (p k) (op k hk dk) (pp j k hj hk dj dk d) in
          let y = (fq k hk dk).2 j hj dj d (q j) (fq j hj dj).0 (turn P j (q j) k (p k) x) in
          turn P k (q k) j (q j) y

      ok : (j k : ℕ) → Active s j → Active s k → j ≢ k → Allowed P j (put i v q j) k (put i v q k)
      ok j k hj hk d = go (eq_dec j i) (eq_dec k i)
        where
          go : (j ≡ i) ⊎ (j ≢ i) → (k ≡ i) ⊎ (k ≢ i) → Allowed P j (put i v q j) k (put i v q k)
          go (inl e) (inl f) = absurd (d (e ∙ sym f))
          go (inl e) (inr g) = rw (e, put_same i v q, put_other i v q k g) (fq k hk g).1
          go (inr g) (inl e) = rw (e, put_same i v q, put_other i v q j g) (turn P i v j (q j) (fq j hj g).1)
          go (inr g) (inr g2) = rw (put_other i v q j g, put_other i v q k g2) (pair j k hj hk g g2 d)

  -- ---- undone: a solution after is a solution before

  -- kinds 1, 4 and 5
  pub remove_undone : (i b : ℕ) (p : ℕ → ℕ) → Solution P (remove P s i b) p → Solution P s p
  unfolding remove
  remove_undone i b p A = record { live = λ j h. ((remove_live P s i b j (p j)).0 (A.live j h)).0; ok = A.ok }

  -- a solution after an elimination is live and allowed at the variables other than i
  module _ (i : ℕ) (p : ℕ → ℕ) (A : Solution P (eliminate P s i) p) where
    left_live : (j : ℕ) → Active s j → j ≢ i → Live s j (p j)
    left_live j h d = ((eliminate_live P s F i j (p j)).0 (A.live j ((eliminate_active P s i j).1 (h, d)))).0

    left_ok : (j k : ℕ) → Active s j → Active s k → j ≢ i → k ≢ i → j ≢ k → Allowed P j (p j) k (p k)
    left_ok j k hj hk dj dk d = A.ok j k ((eliminate_active P s i j).1 (hj, dj)) ((eliminate_active P s i k).1 (hk, dk)) d

    -- kind 3
    pub triangle_undone : (j : ℕ) → Triangle P s i j → Solution P s (undo P s (record·.Triangle i j) p)
    unfolding undo
    triangle_undone j (hi, (hj, (d, f))) = moved i u p p y.0 left_live left_ok (λ k hk dk. (left_live k hk dk, serves k hk dk (eq_dec k j), λ l hl dl dl2 c oc h. h))
      where
        u : ℕ
        u = lowest_live P s i (λ u. triangle_serves P s i j (p j) u)

        y : Live s i u × TriangleServes P s i j (p j) u
        y =
            let x = f (p j) (left_live j hj d) in
            simp (triangle_serves_iff F) at (lowest_live_is F i (λ u. triangle_serves P s i j (p j) u) (x.0, x.1, (triangle_serves_iff F i j (p j) x.0).1 x.2))

        serves : (k : ℕ) → Active s k → k ≢ i → (k ≡ j) ⊎ (k ≢ j) → Allowed P i u k (p k)
        serves k hk dk (inl e) = rw e y.1.0
        serves k hk dk (inr e) = y.1.1 k hk dk e (p k) (left_live k hk dk) (left_ok j k hj hk d dk (λ q. e (sym q)))

    -- kind 2
    pub snake_undone : (v : ℕ) → Snake P s i v → Solution P s (undo P s (record·.Snake i v) p)
    unfolding undo
    snake_undone v (ov, f) = moved i v p (repair P s i v p) ov left_live left_ok each
      where
        Good : (j w : ℕ) → Type 0
        Good j w = Live s j w × Allowed P i v j w × ((l : ℕ) → Active s l → l ≢ i → l ≢ j → Substitutes P s j w j (p j) l)

        each : (j : ℕ) → Active s j → j ≢ i → Good j (repair P s i v p j)
        each j h d = go (T_dec (P.allowed i v j (p j)))
          where
            go : Allowed P i v j (p j) ⊎ (Allowed P i v j (p j) → ⊥) → Good j (repair P s i v p j)
            go (inl t) = rw (repair_kept P s i v p j (λ q. (simp (and_iff, not_iff) at q).1.1 t)) (left_live j h d, t, λ l hl dl dl2 c oc h2. h2)
            go (inr t) =
                let x = f j h d (p j) (left_live j h d) t in
                let y = lowest_live_is F j (λ w. snake_serves P s i v j (p j) w) (x.0, x.1, (snake_serves_iff F i v j (p j) x.0).1 x.2) in
                let z = (snake_serves_iff F i v j (p j) (lowest_live P s j (λ w. snake_serves P s i v j (p j) w))).0 y.1 in
                rw (repair_moved P s i v p j (simp (and_iff, not_iff, eqb_iff) (h, (d, t)))) (y.0, z.0, z.1)

  -- ---- kept: a solution before gives a solution after

  -- kind 1: no solution uses the value
  pub unsupported_kept : (i b k : ℕ) (p : ℕ → ℕ) → Unsupported P s i b k → Solution P s p → Solution P (remove P s i b) p
  unfolding remove
  unsupported_kept i b k p (ob, hk, d, f) A =
      record {
        live = λ j h. (remove_live P s i b j (p j)).1 (A.live j h, λ e. f (p k) (A.live k hk) (subst (λ (c : ℕ). Allowed P i c k (p k)) e.1 (subst (λ (c : ℕ). Allowed P c (p j) k (p k)) e.0 (A.ok j k h hk (λ g. d (sym g ∙ e.0))))));
        ok = A.ok;
      }

  -- kinds 2 and 3: the eliminated variable's own value supports the others'
  pub eliminate_kept : (i : ℕ) (p : ℕ → ℕ) → Active s i → Solution P s p → Solution P (eliminate P s i) p
  eliminate_kept i p hi A =
      record {
        live = λ j h. let x = (eliminate_active P s i j).0 h in (eliminate_live P s F i j (p j)).1 (A.live j x.0, (x.1, (p i, A.live i hi, A.ok j i x.0 hi x.1)));
        ok = λ j k hj hk d. A.ok j k ((eliminate_active P s i j).0 hj).0 ((eliminate_active P s i k).0 hk).0 d;
      }

  -- a solution that does not use b at i
  unused : (i b : ℕ) (p : ℕ → ℕ) → p i ≢ b → Solution P s p → Solution P (remove P s i b) p
  unfolding remove
  unused i b p d A = record { live = λ j h. (remove_live P s i b j (p j)).1 (A.live j h, λ e. d (ap p (sym e.0) ∙ e.1)); ok = A.ok }

  -- i moves from b to a, and the others from p to q
  shifted : (i b a : ℕ) (p q : ℕ → ℕ) → Live s i a → a ≢ b → Solution P s p
      → ((k : ℕ) → Active s k → k ≢ i → Live s k (q k) × Allowed P i a k (q k) × ((l : ℕ) → Active s l → l ≢ i → l ≢ k → Substitutes P s k (q k) k (p k) l))
      → Solution P (remove P s i b) (put i a q)
  shifted i b a p q oa d A f = unused i b (put i a q) (λ e. d (sym (put_same i a q) ∙ e)) (moved i a p q oa (λ j h g. A.live j h) (λ j k hj hk dj dk g. A.ok j k hj hk g) f)

  -- kind 4
  pub neighbourhood_kept : (i b a : ℕ) (p : ℕ → ℕ) → Neighbourhood P s i b a → Solution P s p → Solvable P (remove P s i b)
  neighbourhood_kept i b a p (ob, (oa, (d, f))) A = go (eq_dec (p i) b)
    where
      go : (p i ≡ b) ⊎ (p i ≢ b) → Solvable P (remove P s i b)
      go (inl e) = (
        put i a p,
        shifted i b a p p oa d A (λ k hk g.
            (A.live k hk, f k hk g (p k) (A.live k hk) (subst (λ (c : ℕ). Allowed P i c k (p k)) e (A.ok i k (F.live_active i b ob) hk (λ h. g (sym h)))), λ l hl dl dl2 c oc h. h)),
      )
      go (inr e) = (p, unused i b p e A)

  -- kind 5, the format's rule and the paper's
  pub substitution_kept : (spare : Bool) (i b a : ℕ) (p : ℕ → ℕ) → SnakeSubstitution P s spare i b a → Solution P s p → Solvable P (remove P s i b)
  substitution_kept spare i b a p (ob, (oa, (d, f))) A = go (eq_dec (p i) b)
    where
      pick : ℕ → ℕ
      pick k = lowest_live P s k (λ e. substitution_serves P s spare i a k (p k) e)

      go : (p i ≡ b) ⊎ (p i ≢ b) → Solvable P (remove P s i b)
      go (inr e) = (p, unused i b p e A)
      go (inl e) = (put i a pick, shifted i b a p pick oa d A each)
        where
          each : (k : ℕ) → Active s k → k ≢ i → Live s k (pick k) × Allowed P i a k (pick k) × ((l : ℕ) → Active s l → l ≢ i → l ≢ k → Substitutes P s k (pick k) k (p k) l)
          each k hk g =
              let x = f k hk g (p k) (A.live k hk) (subst (λ (c : ℕ). Allowed P i c k (p k)) e (A.ok i k (F.live_active i b ob) hk (λ h. g (sym h)))) in
              let y = lowest_live_is F k (λ e. substitution_serves P s spare i a k (p k) e) (x.0, x.1, (substitution_serves_iff F spare i a k (p k) x.0).1 x.2) in
              let z = (substitution_serves_iff F spare i a k (p k) (pick k)).0 y.1 in
              (y.0, z.0, λ l hl dl dl2. z.1 l hl dl2 (λ q. dl q.1))
