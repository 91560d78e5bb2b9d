-- What the search may cut away, and what it goes on with: the first plan stays the same. Assumes nothing.
use mathlib.Core.Path.{◌≡◌, refl, sym, ap, subst, ◌∙◌, fun_ext}
use mathlib.Core.Bool.{Bool, true, false, cond}
use mathlib.Core.List.{List}
use mathlib.Core.Logic.Iff
use mathlib.Core.Logic.{◌⊎◌, inl, inr, ◌≢◌, ◌↔◌}
use Prim.Native.Nat.{ℕ, zero, suc, ◌+◌, ◌-◌, ◌≤◌, ◌<◌}
use native.Mathlib.Omega.{arith}
use lib.ListN.{length, set, length-set}
use lib.Seq.{get_or-set_same, get_or-set_other}
use Rattle.bounded.proofs.Truth.{T_true, T_false, T_not, T_ext, and_iff, not_iff, eqb_iff, eq_dec}
use Rattle.problem.specs.Problem.{Problem, State, remove}
use Rattle.problem.specs.PutBack.{solves, plan_of}
use Rattle.problem.proofs.Reflect.{turn, remove_live, remove_fits}
use Rattle.problem.specs.Sentences.{Active, Live, Allowed, Fits, Solution}
use Rattle.problem.proofs.Sound.{solves_iff, remove_undone}
use Rattle.first_plan.specs.First.{found, none, or_else, first_of, first_from, first_plan}
use Rattle.first_plan.specs.Steps.{choose}
use Rattle.first_plan.specs.declared.Found.{Found}
use Rattle.first_plan.proofs.Meaning.{or_yes, or_no, from_in, from_out, first_iff}

-- ---- the first of several answers

cond_cong : {b c : Bool} {x y u v : Found} → b ≡ c → x ≡ u → y ≡ v → cond b x y ≡ cond c u v
cond_cong {b} {c} {x} {y} {u} {v} e f g = ap (λ (k : Bool). cond k x y) e ∙ ap (λ (k : Found). cond c k y) f ∙ ap (λ (k : Found). cond c u k) g

cond_same : (b : Bool) (x y z : Found) → x ≡ z → y ≡ z → cond b x y ≡ z
cond_same true x y z e f = e
cond_same false x y z e f = f

first_of_none : (k v : ℕ) (f : ℕ → Found) (w : List ℕ) → ((u : ℕ) → (f u).ok ≡ false) → first_of k v f w ≡ none w
unfolding first_of
first_of_none zero v f w h = refl
first_of_none (suc k) v f w h = or_no (f v) (first_of k (suc v) f w) (h v) ∙ first_of_none k (suc v) f w h

-- none before u, and a plan at u
first_of_hit : (k v : ℕ) (f : ℕ → Found) (w : List ℕ) (u : ℕ) → v ≤ u → u < v + k → ((x : ℕ) → x < u → (f x).ok ≡ false) → (f u).ok ≡ true → first_of k v f w ≡ f u
unfolding first_of
first_of_hit zero v f w u l h n e = absurd (omega arith)
first_of_hit (suc k) v f w u l h n e = go (eq_dec v u) (λ m j. first_of_hit k (suc v) f w u m j n e)
  where
    go : (v ≡ u) ⊎ (v ≢ u) → (suc v ≤ u → u < suc v + k → first_of k (suc v) f w ≡ f u) → or_else (f v) (first_of k (suc v) f w) ≡ f u
    go (inl g) ih = subst (λ (x : ℕ). or_else (f x) (first_of k (suc v) f w) ≡ f u) (sym g) (or_yes (f u) _ e)
    go (inr g) ih = or_no (f v) _ (n v (omega arith)) ∙ ih (omega arith) (omega arith)

-- x has the settings of w before i
abbrev Agrees : ℕ → (w x : List ℕ) → Type 0
Agrees i w x = (j : ℕ) → j < i → plan_of x j ≡ plan_of w j

agrees_back : (i v : ℕ) (w x : List ℕ) → Agrees (suc i) (set w i v) x → Agrees i w x
agrees_back i v w x a j l = a j (omega arith) ∙ get_or-set_other w i j v 0 (λ (e : j ≡ i). omega arith)

agrees_up : (i : ℕ) (w x : List ℕ) → Agrees (suc i) w x → Agrees i w x
agrees_up i w x a j l = a j (omega arith)

module _ (P : Problem) where
  -- the answer goes by the active variables and by what is a plan among the choices that are left
  first_same : (s r : State) (d i : ℕ) (w : List ℕ)
      → ((k : ℕ) → i ≤ k → s.active k ≡ r.active k)
      → ((x : List ℕ) → Agrees i w x → solves P s (plan_of x) ≡ solves P r (plan_of x))
      → first_from P s d i w ≡ first_from P r d i w
  unfolding first_from
  first_same s r zero i w a h = ap (λ (b : Bool). record { ok = b; plan = w }) (h w (λ j l. refl))
  first_same s r (suc d) i w a h =
      cond_cong (a i (omega arith))
      (ap (λ (f : ℕ → Found). first_of (P.size i) 0 f w) (fun_ext (λ v. first_same s r d (suc i) (set w i v) (λ k l. a k (omega arith)) (λ x g. h x (agrees_back i v w x g)))))
      (first_same s r d (suc i) w (λ k l. a k (omega arith)) (λ x g. h x (agrees_up i w x g)))

  -- no choice that is left is a plan
  first_none : (s : State) (d i : ℕ) (w : List ℕ) → ((x : List ℕ) → Agrees i w x → solves P s (plan_of x) ≡ false) → first_from P s d i w ≡ none w
  unfolding first_from
  first_none s zero i w h = ap (λ (b : Bool). record { ok = b; plan = w }) (h w (λ j l. refl))
  first_none s (suc d) i w h =
      cond_same (s.active i) (first_of (P.size i) 0 (λ v. first_from P s d (suc i) (set w i v)) w) (first_from P s d (suc i) w) (none w)
      (first_of_none (P.size i) 0 (λ v. first_from P s d (suc i) (set w i v)) w (λ v. ap (λ (f : Found). f.ok) (first_none s d (suc i) (set w i v) (λ x g. h x (agrees_back i v w x g)))))
      (first_none s d (suc i) w (λ x g. h x (agrees_up i w x g)))

module _ {P : Problem} {s : State} (F : Fits P s) where
  -- variables that are not active are passed over
  from_skip : (k d i : ℕ) (w : List ℕ) → ((j : ℕ) → j < i + k → Active s j → ⊥) → (m l : ℕ) → m ≡ k + d → l ≡ i + k → first_from P s m i w ≡ first_from P s d l w
  from_skip zero d i w h m l e g =
      let e : m ≡ d = omega arith in
      let g : i ≡ l = omega arith in
      ap (λ (x : ℕ). first_from P s x i w) e ∙ ap (λ (j : ℕ). first_from P s d j w) g
  from_skip (suc k) d i w h m l e g =
      let e : m ≡ suc (k + d) = omega arith in
      ap (λ (x : ℕ). first_from P s x i w) e
      ∙ from_out F (k + d) i w (T_false (s.active i) (h i (omega arith)))
      ∙ from_skip k d (suc i) w (λ j x. h j (omega arith)) (k + d) l refl (omega arith)

  first_skip : (k d : ℕ) (w : List ℕ) → P.n ≡ k + d → ((j : ℕ) → j < k → Active s j → ⊥) → first_plan P s w ≡ first_from P s d k w
  unfolding first_plan
  first_skip k d w e h = from_skip k d 0 w (λ j l. h j (omega arith)) P.n k e (omega arith)

module _ {P : Problem} {s : State} (F : Fits P s) where
  -- ---- cuts

  -- no solution, no plan
  pub first_unsolved : ((q : ℕ → ℕ) → Solution P s q → ⊥) → (w : List ℕ) → first_plan P s w ≡ none w
  unfolding first_plan
  first_unsolved h w = first_none P s P.n 0 w (λ x a. T_false (solves P s (plan_of x)) (λ t. h (plan_of x) ((solves_iff F (plan_of x)).0 t)))

  -- the same variables are active, and the same solutions are left, whatever went off
  pub first_narrowed : {r : State} → Fits P r → ((k : ℕ) → s.active k ≡ r.active k) → ((q : ℕ → ℕ) → Solution P s q ↔ Solution P r q) → (w : List ℕ) → first_plan P s w ≡ first_plan P r w
  unfolding first_plan
  first_narrowed {r} G a h w =
      first_same P s r P.n 0 w (λ k l. a k)
      (λ x g. T_ext (λ t. (solves_iff G (plan_of x)).1 ((h (plan_of x)).0 ((solves_iff F (plan_of x)).0 t)), λ t. (solves_iff F (plan_of x)).1 ((h (plan_of x)).1 ((solves_iff G (plan_of x)).0 t))))

  -- a solution with another value at i is one without v
  pub remove_keeps : (i v : ℕ) (q : ℕ → ℕ) → q i ≢ v → Solution P s q → Solution P (remove P s i v) q
  unfolding remove
  remove_keeps i v q d A = record { live = λ j o. (remove_live P s i v j (q j)).1 (A.live j o, λ e. d (subst (λ (k : ℕ). q k ≡ v) e.0 e.1)); ok = A.ok }

  -- no solution has v at i: v may go off
  pub first_refuted : (i v : ℕ) → ((q : ℕ → ℕ) → Solution P s q → q i ≢ v) → (w : List ℕ) → first_plan P s w ≡ first_plan P (remove P s i v) w
  unfolding remove
  first_refuted i v h = first_narrowed (remove_fits P s F i v) (λ k. refl) (λ q. (λ A. remove_keeps i v q (h q A) A, remove_undone F i v q))

  -- no variable is left
  pub first_done : ((j : ℕ) → Active s j → ⊥) → (w : List ℕ) → first_plan P s w ≡ found w
  unfolding first_from
  first_done h w =
      first_skip F P.n 0 w (omega arith) (λ j l. h j)
      ∙ ap (λ (b : Bool). record { ok = b; plan = w })
      (T_true (solves P s (plan_of w)) ((solves_iff F (plan_of w)).1 (record { live = λ j o. absurd (h j o); ok = λ j k o p d. absurd (h j o) })))

  -- ---- a choice made

  pub choose_active : (i v j : ℕ) → Active (choose P s i v) j ↔ (Active s j × (j ≢ i))
  unfolding choose
  choose_active i v j = simp (and_iff, not_iff, eqb_iff) Iff.rfl

  pub choose_live : (i v j w : ℕ) → Live (choose P s i v) j w ↔ (Live s j w × ((j ≢ i) × Allowed P i v j w))
  unfolding choose
  choose_live i v j w = simp (and_iff, not_iff, eqb_iff) Iff.rfl

  pub choose_fits : (i v : ℕ) → Fits P (choose P s i v)
  choose_fits i v =
      record {
        active_lt = λ j h. F.active_lt j ((choose_active i v j).0 h).0;
        live_active = λ j w o. let x = (choose_live i v j w).0 o in (choose_active i v j).1 (F.live_active j w x.0, x.1.0);
        live_lt = λ j w o. F.live_lt j w ((choose_live i v j w).0 o).0;
      }

  module _ (i v : ℕ) (o : Live s i v) where
    hi : Active s i
    hi = F.live_active i v o

    -- the solutions with v at i are those of the state with that choice made
    pub choose_keeps : (q : ℕ → ℕ) → q i ≡ v → Solution P s q → Solution P (choose P s i v) q
    choose_keeps q e A =
        record {
          live = λ j h. let x = (choose_active i v j).0 h in (choose_live i v j (q j)).1 (A.live j x.0, (x.1, subst (λ (c : ℕ). Allowed P i c j (q j)) e (A.ok i j hi x.0 (λ g. x.1 (sym g)))));
          ok = λ j k hj hk d. A.ok j k ((choose_active i v j).0 hj).0 ((choose_active i v k).0 hk).0 d;
        }

    pub choose_back : (q : ℕ → ℕ) → q i ≡ v → Solution P (choose P s i v) q → Solution P s q
    choose_back q e A = record { live = live; ok = ok }
      where
        live : (j : ℕ) → Active s j → Live s j (q j)
        live j h = go (eq_dec j i)
          where
            go : (j ≡ i) ⊎ (j ≢ i) → Live s j (q j)
            go (inl g) = rw (g, e) o
            go (inr d) = ((choose_live i v j (q j)).0 (A.live j ((choose_active i v j).1 (h, d)))).0

        with : (j : ℕ) → Active s j → j ≢ i → Allowed P i (q i) j (q j)
        with j h d = subst (λ (c : ℕ). Allowed P i c j (q j)) (sym e) ((choose_live i v j (q j)).0 (A.live j ((choose_active i v j).1 (h, d)))).1.1

        ok : (j k : ℕ) → Active s j → Active s k → j ≢ k → Allowed P j (q j) k (q k)
        ok j k hj hk d = go (eq_dec j i) (eq_dec k i)
          where
            go : (j ≡ i) ⊎ (j ≢ i) → (k ≡ i) ⊎ (k ≢ i) → Allowed P j (q j) k (q k)
            go (inl g) (inl f) = absurd (d (g ∙ sym f))
            go (inl g) (inr f) = rw g (with k hk f)
            go (inr g) (inl f) = rw f (turn P i (q i) j (q j) (with j hj g))
            go (inr g) (inr f) = A.ok j k ((choose_active i v j).1 (hj, g)) ((choose_active i v k).1 (hk, f)) d

    module _ (low : (j : ℕ) → j < i → Active s j → ⊥) (w : List ℕ) (room : P.n ≤ length w) where
      -- what is left to choose for after i
      abbrev d : ℕ
      d = P.n - suc i

      short : i < length w
      short = omega (arith, F.active_lt i hi)

      below : (j : ℕ) → j < suc i → Active (choose P s i v) j → ⊥
      below j l h = let x = (choose_active i v j).0 h in let e : j ≢ i = x.1 in low j (omega arith) x.0

      -- with v at i, the first plan is that of the state with that choice made
      from_chosen : first_from P s d (suc i) (set w i v) ≡ first_plan P (choose P s i v) (set w i v)
      from_chosen =
          first_same P s (choose P s i v) d (suc i) (set w i v)
          (λ k l. T_ext (λ h. (choose_active i v k).1 (h, λ (e : k ≡ i). omega arith), λ h. ((choose_active i v k).0 h).0))
          (λ x a. let e : plan_of x i ≡ v = a i (omega arith) ∙ get_or-set_same w i v 0 short in
          T_ext (
            λ t. (solves_iff (choose_fits i v) (plan_of x)).1 (choose_keeps (plan_of x) e ((solves_iff F (plan_of x)).0 t)),
            λ t. (solves_iff F (plan_of x)).1 (choose_back (plan_of x) e ((solves_iff (choose_fits i v) (plan_of x)).0 t)),
          ))
          ∙ sym (first_skip (choose_fits i v) (suc i) d (set w i v) (omega (arith, F.active_lt i hi)) below)

      -- a value of i that is not in its domain leads to none
      off : (u : ℕ) → (Live s i u → ⊥) → (first_from P s d (suc i) (set w i u)).ok ≡ false
      off u n =
          ap (λ (r : Found). r.ok)
          (first_none P s d (suc i) (set w i u)
          (λ x a. let e : plan_of x i ≡ u = a i (omega arith) ∙ get_or-set_same w i u 0 short in
          T_false (solves P s (plan_of x)) (λ t. n (subst (λ (c : ℕ). Live s i c) e (((solves_iff F (plan_of x)).0 t).live i hi)))))

      -- v is the lowest value in the domain of i, and leads to a plan
      pub first_taken : ((u : ℕ) → u < v → Live s i u → ⊥) → (first_plan P (choose P s i v) (set w i v)).ok ≡ true → first_plan P s w ≡ first_plan P (choose P s i v) (set w i v)
      first_taken least e =
          first_skip F i (suc d) w (omega (arith, F.active_lt i hi)) low
          ∙ from_in F d i w (T_true (s.active i) hi)
          ∙ first_of_hit (P.size i) 0 (λ u. first_from P s d (suc i) (set w i u)) w v (omega arith) (omega (arith, F.live_lt i v o)) (λ u l. off u (least u l)) (ap (λ (r : Found). r.ok) from_chosen ∙ e)
          ∙ from_chosen

      -- v leads to none: no solution has it
      pub never : (first_plan P (choose P s i v) (set w i v)).ok ≡ false → (q : ℕ → ℕ) → Solution P s q → q i ≢ v
      never e q A g =
          let l : P.n ≤ length (set w i v) = omega (arith, length-set w i v) in
          T_not e ((first_iff (choose_fits i v) (set w i v) l).1 (q, choose_keeps q g A))
