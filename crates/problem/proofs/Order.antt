-- The order of hand calls does not matter, from any state that fits: it need not be arc consistent. Assumes nothing.
use mathlib.Core.Path.{◌≡◌, refl, sym, ap, subst, fun_ext}
use mathlib.Core.Bool.{true, ◌&&◌, not}
use mathlib.Core.List.{List, [], ◌∷◌}
use mathlib.Core.Logic.{◌≢◌, ◌↔◌, ◌⊎◌, inl, inr}
use Prim.Native.Nat.{ℕ, zero, suc, ◌≤◌, ◌<◌}
use native.Mathlib.Nat.{not-suc-le-zero, lt_of_lt_of_le}
use native.Mathlib.Omega.{arith}
use lib.Dec.{T, ltb}
use lib.ListN.{length}
use Rattle.bounded.specs.Quantifiers.{count_below}
use Rattle.bounded.proofs.Truth.{T_ext, T_true, T_false, T_dec, eq_dec, and_iff, not_iff, ltb_iff}
use Rattle.bounded.proofs.Quantifiers.{count_lt, count_most}
use Rattle.problem.specs.Problem.{Problem, State, state_fits, none_empty, all_active, any_live, lowest_live, snake, eliminate}
use Rattle.problem.specs.Hand.{call, state_after, call_state, calls_state, finished, pair_left, arc_consistent}
use Rattle.problem.specs.declared.Call.TheVariants.{Eliminated}
use Rattle.problem.proofs.Reflect.{turn, fits_test, all_active_or, any_live_iff, snake_iff, finished_iff, none_empty_iff, lowest_live_is, eliminate_active, eliminate_live, eliminate_fits}
use Rattle.problem.specs.Sentences.{Alike, Active, Live, Allowed, Fits, Snake, ArcConsistent, Finished, NoneEmpty, Solvable}
use Rattle.problem.proofs.OneCall.{call_item, call_emptied, call_none, call_done}
use Rattle.problem.proofs.Sound.{snake_undone, eliminate_kept}

module _ (P : Problem) where
  -- ---- one call

  module _ {s : State} (F : Fits P s) (i : ℕ) where
    -- a call is accepted where the variable is active, none is empty, and the snake rule holds with the lowest value; else nothing changes
    pub call_cases : (Active s i × NoneEmpty P s × ((v : ℕ) × Snake P s i v × (call P s i ≡ Eliminated v))) ⊎ ((call_state P s i ≡ s) × ((v : ℕ) → Active s i → NoneEmpty P s → Snake P s i v → ⊥))
    unfolding call_state
    call_cases = at_12 (T_dec (ltb i P.n && s.active i))
      where
        fit : state_fits P s ≡ true
        fit = T_true (state_fits P s) (fits_test F)

        Cases : Type 0
        Cases = (Active s i × NoneEmpty P s × ((v : ℕ) × Snake P s i v × (call P s i ≡ Eliminated v))) ⊎ ((call_state P s i ≡ s) × ((v : ℕ) → Active s i → NoneEmpty P s → Snake P s i v → ⊥))

        at_14 : T (ltb i P.n && s.active i) → T (none_empty P s) → T (any_live P s i (λ v. snake P s i v)) ⊎ (T (any_live P s i (λ v. snake P s i v)) → ⊥) → Cases
        at_14 a e (inl r) =
            let x = lowest_live_is F i (λ v. snake P s i v) ((any_live_iff F i (λ v. snake P s i v)).0 r) in
            inl ((simp and_iff at a).1, (none_empty_iff F).0 e, (lowest_live P s i (λ v. snake P s i v), (snake_iff F i (lowest_live P s i (λ v. snake P s i v))).0 x.1, call_done P s i fit (T_true _ a) (T_true _ e) (T_true _ r)))
        at_14 a e (inr r) = inr (ap (state_after P s i) (call_none P s i fit (T_true _ a) (T_true _ e) (T_false _ r)), λ v h n N. r ((any_live_iff F i (λ v. snake P s i v)).1 (v, N.0, (snake_iff F i v).1 N)))

        at_13 : T (ltb i P.n && s.active i) → T (none_empty P s) ⊎ (T (none_empty P s) → ⊥) → Cases
        at_13 a (inl e) = at_14 a e (T_dec (any_live P s i (λ v. snake P s i v)))
        at_13 a (inr e) = inr (ap (state_after P s i) (call_emptied P s i fit (T_true _ a) (T_false _ e)), λ v h n N. e ((none_empty_iff F).1 n))

        at_12 : T (ltb i P.n && s.active i) ⊎ (T (ltb i P.n && s.active i) → ⊥) → Cases
        at_12 (inl a) = at_13 a (T_dec (none_empty P s))
        at_12 (inr a) = inr (ap (state_after P s i) (call_item P s i fit (T_false _ a)), λ v h n N. a ((and_iff (ltb i P.n) (s.active i)).1 ((ltb_iff i P.n).1 (F.active_lt i h), h)))

  -- a property of both answers is a property of the call's
  call_either : (Q : State → Type 0) {s : State} → Fits P s → (i : ℕ) → (Active s i → NoneEmpty P s → (v : ℕ) → Snake P s i v → Q (eliminate P s i)) → Q s → Q (call_state P s i)
  unfolding call_state
  call_either Q {s} F i taken same =
      elim (call_cases F i) [
        | inl x ↦ subst Q (sym (ap (state_after P s i) x.2.2)) (taken x.0 x.1 x.2.0 x.2.1)
        | inr x ↦ subst Q (sym x.0) same
      ]

  pub call_fits : {s : State} → Fits P s → (i : ℕ) → Fits P (call_state P s i)
  call_fits {s} F i = call_either (Fits P) F i (λ h e v N. eliminate_fits P s F i) F

  pub calls_fit : {s : State} → Fits P s → (l : List ℕ) → Fits P (calls_state P s l)
  unfolding calls_state
  calls_fit F [] = F
  calls_fit {s = s} F (i ∷ l) = calls_fit {s = call_state P s i} (call_fits F i) l

  -- an accepted or refused call keeps "has a solution" both ways
  pub call_solvable : {s : State} → Fits P s → (i : ℕ) → Solvable P (call_state P s i) ↔ Solvable P s
  call_solvable {s} F i =
      call_either (λ (r : State). Solvable P r ↔ Solvable P s) F i
      (λ h e v N. (λ x. (_, snake_undone F i x.0 x.1 v N), λ x. (x.0, eliminate_kept F i x.0 h x.1)))
      (λ x. x, λ x. x)

  -- ---- what a list of calls leaves

  -- value w of j has a support at x
  abbrev Support : State → (j w x : ℕ) → Type 0
  Support s j w x = (c : ℕ) × Live s x c × Allowed P j w x c

  -- r is s with some variables out: what has a support at each of these stays, and what stays keeps a support wherever it had one
  record Cut (s r : State) : Type 0 where
    pub variables : (i : ℕ) → Active r i → Active s i
    pub values : (i a : ℕ) → Live r i a → Live s i a
    pub inside : (i a : ℕ) → Live r i a → Active r i
    pub kept : (j w : ℕ) → Active r j → Live s j w → ((x : ℕ) → Active s x → (Active r x → ⊥) → Support s j w x) → Live r j w
    pub had : (j w : ℕ) → Live r j w → (x : ℕ) → Active s x → (Active r x → ⊥) → Support s j w x
    pub supports : (j w : ℕ) → Live r j w → (i : ℕ) → Active r i → i ≢ j → Support s j w i → Support r j w i

  cut_self : {s : State} → Fits P s → Cut s s
  cut_self F =
      record {
        variables = λ i h. h;
        values = λ i a o. o;
        inside = F.live_active;
        kept = λ j w h o f. o;
        had = λ j w o x h n. absurd (n h);
        supports = λ j w o i h d p. p;
      }

  -- a value that has a support at k before i goes has one after, at every variable k but i
  support_stays : {s : State} → Fits P s → (i v : ℕ) → Snake P s i v → (j w k c : ℕ) → Active s j → j ≢ i → k ≢ i → k ≢ j → Live s j w → Live s k c → Allowed P j w k c → Support (eliminate P s i) j w k
  support_stays {s} F i v N j w k c hj dj dk d ow oc q = go (T_dec (P.allowed i v k c))
    where
      stays : (c : ℕ) → Live s k c → Allowed P i v k c → Live (eliminate P s i) k c
      stays c oc t = (eliminate_live P s F i k c).1 (oc, (dk, (v, N.0, turn P i v k c t)))

      go : Allowed P i v k c ⊎ (Allowed P i v k c → ⊥) → Support (eliminate P s i) j w k
      go (inl t) = (c, stays c oc t, q)
      go (inr n) =
          let x = N.1 k (F.live_active k c oc) dk c oc n in
          (x.0, stays x.0 x.1 x.2.0, turn P k x.0 j w (x.2.1 j hj dj (λ e. d (sym e)) w ow (turn P j w k c q)))

  cut_more : {s r : State} → Fits P s → Fits P r → Cut s r → (i v : ℕ) → Active r i → Snake P r i v → Cut s (eliminate P r i)
  cut_more {s} {r} F G A i v hi N =
      record {
        variables = λ j h. A.variables j ((eliminate_active P r i j).0 h).0;
        values = λ j a o. A.values j a ((eliminate_live P r G i j a).0 o).0;
        inside = λ j a o. let x = (eliminate_live P r G i j a).0 o in (eliminate_active P r i j).1 (G.live_active j a x.0, x.1.0);
        kept = kept;
        had = had;
        supports = λ j w o k h d p.
            let x = (eliminate_live P r G i j w).0 o in
            let y = (eliminate_active P r i k).0 h in
            let z = A.supports j w x.0 k y.0 d p in
            support_stays G i v N j w k z.0 (G.live_active j w x.0) x.1.0 y.1 d x.0 z.1 z.2;
      }
    where
      gone : Active (eliminate P r i) i → ⊥
      gone h = ((eliminate_active P r i i).0 h).1 refl

      kept : (j w : ℕ) → Active (eliminate P r i) j → Live s j w → ((x : ℕ) → Active s x → (Active (eliminate P r i) x → ⊥) → Support s j w x) → Live (eliminate P r i) j w
      kept j w h o f =
          let y = (eliminate_active P r i j).0 h in
          let q = A.kept j w y.0 o (λ x hx n. f x hx (λ g. n ((eliminate_active P r i x).0 g).0)) in
          (eliminate_live P r G i j w).1 (q, (y.1, A.supports j w q i hi (λ e. y.1 (sym e)) (f i (A.variables i hi) gone)))

      had : (j w : ℕ) → Live (eliminate P r i) j w → (x : ℕ) → Active s x → (Active (eliminate P r i) x → ⊥) → Support s j w x
      had j w o x hx n = go (T_dec (r.active x)) (eq_dec x i)
        where
          y : Live r j w × (j ≢ i × ((c : ℕ) × Live r i c × Allowed P j w i c))
          y = (eliminate_live P r G i j w).0 o

          go : Active r x ⊎ (Active r x → ⊥) → (x ≡ i) ⊎ (x ≢ i) → Support s j w x
          go (inr m) _ = A.had j w y.0 x hx m
          go (inl m) (inr d) = absurd (n ((eliminate_active P r i x).1 (m, d)))
          go (inl m) (inl e) = subst (λ (k : ℕ). Support s j w k) (sym e) (y.1.1.0, A.values i y.1.1.0 y.1.1.1, y.1.1.2)

  call_cut : {s q : State} → Fits P s → Fits P q → Cut s q → (i : ℕ) → Cut s (call_state P q i)
  call_cut {s} F G A i = call_either (λ (r : State). Cut s r) G i (λ h e v N. cut_more F G A i v h N) A

  calls_cut : {s q : State} → Fits P s → Fits P q → Cut s q → (l : List ℕ) → Cut s (calls_state P q l)
  unfolding calls_state
  calls_cut F G A [] = A
  calls_cut {q = q} F G A (i ∷ l) = calls_cut {q = call_state P q i} F (call_fits G i) (call_cut F G A i) l

  -- of two cuts of one state, the snake rule of the larger holds in the smaller
  snake_cut : {s q r : State} → Fits P s → Fits P q → Cut s q → Cut s r → ((i : ℕ) → Active r i → Active q i) → NoneEmpty P q → (i v : ℕ) → Active r i → Snake P q i v → Snake P r i v
  snake_cut {s} {q} {r} F G A B sub none i v hi N = (ov, rule)
    where
      up : (j w : ℕ) → Live r j w → Live q j w
      up j w o = A.kept j w (sub j (B.inside j w o)) (B.values j w o) (λ x hx n. B.had j w o x hx (λ h. n (sub x h)))

      -- what has a support in q at each variable of q that r lacks is live in r
      down : (j w : ℕ) → Active r j → Live q j w → ((x : ℕ) → Active q x → (Active r x → ⊥) → Support q j w x) → Live r j w
      down j w h o f = B.kept j w h (A.values j w o) at
        where
          at : (x : ℕ) → Active s x → (Active r x → ⊥) → Support s j w x
          at x hx n = go (T_dec (q.active x))
            where
              go : Active q x ⊎ (Active q x → ⊥) → Support s j w x
              go (inl m) = let y = f x m n in (y.0, A.values x y.0 y.1, y.2)
              go (inr m) = A.had j w o x hx m

      differ : (x : ℕ) → (Active r x → ⊥) → (j : ℕ) → Active r j → x ≢ j
      differ x n j h e = n (subst (λ (k : ℕ). Active r k) (sym e) h)

      ov : Live r i v
      ov = down i v hi N.0 at
        where
          at : (x : ℕ) → Active q x → (Active r x → ⊥) → Support q i v x
          at x hx n = let y = none x hx in go y.0 y.1 (T_dec (P.allowed i v x y.0))
            where
              go : (c : ℕ) → Live q x c → Allowed P i v x c ⊎ (Allowed P i v x c → ⊥) → Support q i v x
              go c oc (inl t) = (c, oc, t)
              go c oc (inr b) = let z = N.1 x hx (differ x n i hi) c oc b in (z.0, z.1, z.2.0)

      rule : (j : ℕ) → Active r j → j ≢ i → (w : ℕ) → Live r j w → (Allowed P i v j w → ⊥) → (w' : ℕ) × Live r j w' × (Allowed P i v j w' × ((l : ℕ) → Active r l → l ≢ i → l ≢ j → (c : ℕ) → Live r l c → Allowed P j w l c → Allowed P j w' l c))
      rule j hj d w ow b =
          let y = N.1 j (sub j hj) d w (up j w ow) b in (
            y.0,
            down j y.0 hj y.1 (λ x hx n.
                let p = B.had j w ow x (A.variables x hx) n in
                let k = A.supports j w (up j w ow) x hx (differ x n j hj) p in
                (k.0, k.1, y.2.1 x hx (differ x n i hi) (differ x n j hj) k.0 k.1 k.2)),
            (y.2.0, λ l hl d1 d2 c oc t. y.2.1 l (sub l hl) d1 d2 c (up l c oc) t),
          )

  -- no call takes out a variable that a finished state keeps
  calls_keep : {s q r : State} → Fits P s → Fits P q → Cut s q → Cut s r → Finished P r → ((i : ℕ) → Active r i → Active q i) → (l : List ℕ) → (i : ℕ) → Active r i → Active (calls_state P q l) i
  unfolding calls_state
  calls_keep F G A B fin sub [] = sub
  calls_keep {s} {q} {r} F G A B fin sub (k ∷ l) =
      calls_keep {q = call_state P q k} F (call_fits G k) (call_cut F G A k) B fin
      (call_either (λ (m : State). (i : ℕ) → Active r i → Active m i) G k
      (λ hk e v N i hi.
      (eliminate_active P q k i).1 (sub i hi, λ z. fin k (subst (λ (x : ℕ). Active r x) z hi) v (snake_cut F G A B sub e k v (subst (λ (x : ℕ). Active r x) z hi) N))) sub) l

  -- "no list of such calls from that state, finished or not, takes out an item that a finished one leaves"
  pub no_list_takes : {s : State} → Fits P s → (k l : List ℕ) → T (finished P (calls_state P s k)) → (i : ℕ) → Active (calls_state P s k) i → Active (calls_state P s l) i
  no_list_takes F k l fin =
      let B = calls_cut F F (cut_self F) k in
      calls_keep F F (cut_self F) B ((finished_iff (calls_fit F k)).0 fin) B.variables l

  -- two finished lists from one state that fits end in the same state
  pub one_end : {s : State} → Fits P s → (k l : List ℕ) → T (finished P (calls_state P s k)) → T (finished P (calls_state P s l)) → calls_state P s k ≡ calls_state P s l
  one_end {s} F k l fk fl = λ t. record { active = variables t; live = values t }
    where
      A : Cut s (calls_state P s k)
      A = calls_cut F F (cut_self F) k

      B : Cut s (calls_state P s l)
      B = calls_cut F F (cut_self F) l

      ab : (i : ℕ) → Active (calls_state P s k) i → Active (calls_state P s l) i
      ab = no_list_takes F k l fk

      ba : (i : ℕ) → Active (calls_state P s l) i → Active (calls_state P s k) i
      ba = no_list_takes F l k fl

      same : {q r : State} → Cut s q → Cut s r → ((i : ℕ) → Active q i → Active r i) → ((i : ℕ) → Active r i → Active q i) → (j w : ℕ) → Live q j w → Live r j w
      same A B ab ba j w o = B.kept j w (ab j (A.inside j w o)) (A.values j w o) (λ x hx n. A.had j w o x hx (λ h. n (ab x h)))

      variables : (calls_state P s k).active ≡ (calls_state P s l).active
      variables = fun_ext λ i. T_ext (ab i, ba i)

      values : (calls_state P s k).live ≡ (calls_state P s l).live
      values = fun_ext λ j. fun_ext λ w. T_ext (same A B ab ba j w, same B A ba ab j w)

  -- ---- a finished list exists, from a state in which every value has a support

  -- in such a state with none empty, eliminating a variable switches nothing off elsewhere
  eliminate_consistent : {s : State} → Fits P s → ArcConsistent P s → (i : ℕ) → Active s i → ArcConsistent P (eliminate P s i)
  eliminate_consistent {s} F C i hi j w o k hk d =
      let x = (eliminate_live P s F i j w).0 o in
      let y = (eliminate_active P s i k).0 hk in
      let z = C j w x.0 k y.0 d in
      (z.0, (eliminate_live P s F i k z.0).1 (z.1, (y.1, C k z.0 z.1 i hi (λ e. y.1 (sym e)))), z.2)

  eliminate_none_empty : {s : State} → Fits P s → ArcConsistent P s → NoneEmpty P s → (i : ℕ) → Active s i → NoneEmpty P (eliminate P s i)
  eliminate_none_empty {s} F C e i hi j hj =
      let y = (eliminate_active P s i j).0 hj in
      let x = e j y.0 in
      (x.0, (eliminate_live P s F i j x.0).1 (x.1, (y.1, C j x.0 x.1 i hi (λ z. y.1 (sym z)))))

  -- finished, or some variable can go
  finished_or : {s : State} → Fits P s → T (finished P s) ⊎ ((i : ℕ) × Active s i × ((v : ℕ) × Snake P s i v))
  unfolding finished
  finished_or {s} F = go (all_active_or P s (λ i. not (any_live P s i (λ v. snake P s i v))))
    where
      go : T (all_active P s (λ i. not (any_live P s i (λ v. snake P s i v)))) ⊎ ((i : ℕ) × Active s i × (T (not (any_live P s i (λ v. snake P s i v))) → ⊥)) → T (finished P s) ⊎ ((i : ℕ) × Active s i × ((v : ℕ) × Snake P s i v))
      go (inl t) = inl t
      go (inr x) = some (T_dec (any_live P s x.0 (λ v. snake P s x.0 v)))
        where
          some : T (any_live P s x.0 (λ v. snake P s x.0 v)) ⊎ (T (any_live P s x.0 (λ v. snake P s x.0 v)) → ⊥) → T (finished P s) ⊎ ((i : ℕ) × Active s i × ((v : ℕ) × Snake P s i v))
          some (inl t) = let y = (any_live_iff F x.0 (λ v. snake P s x.0 v)).0 t in inr (x.0, x.1, (y.0, (snake_iff F x.0 y.0).0 y.2))
          some (inr n) = absurd (x.2 ((not_iff (any_live P s x.0 (λ v. snake P s x.0 v))).1 n))

  -- an accepted call eliminates the variable that it names
  call_accepted : {s : State} → Fits P s → NoneEmpty P s → (i v : ℕ) → Active s i → Snake P s i v → call_state P s i ≡ eliminate P s i
  unfolding call_state
  call_accepted {s} F e i v h N = elim (call_cases F i) [ inl x ↦ ap (state_after P s i) x.2.2 | inr x ↦ absurd (x.1 v h e N) ]

  active_falls : {s : State} → Fits P s → (i : ℕ) → Active s i → count_below P.n (eliminate P s i).active < count_below P.n s.active
  active_falls {s} F i h =
      count_lt P.n (eliminate P s i).active s.active (λ j l x. ((eliminate_active P s i j).0 x).0) i (F.active_lt i h) (λ x. ((eliminate_active P s i i).0 x).1 refl) h

  -- at most f calls finish, where at most f variables are active
  ends_within : (f : ℕ) {s : State} → Fits P s → ArcConsistent P s → NoneEmpty P s → count_below P.n s.active ≤ f → (l : List ℕ) × (length l ≤ f) × T (finished P (calls_state P s l))
  unfolding calls_state
  ends_within zero {s} F C e m =
      elim (finished_or F) [ inl t ↦ ([], omega arith, t) | inr x ↦ absurd (not-suc-le-zero (lt_of_lt_of_le (active_falls F x.0 x.1) m)) ]
  ends_within (suc f) {s} F C e m = go (finished_or F) (λ i h. ends_within f (eliminate_fits P s F i) (eliminate_consistent F C i h) (eliminate_none_empty F C e i h) (lt_to_le (lt_of_lt_of_le (active_falls F i h) m)))
    where
      lt_to_le : {a b : ℕ} → a < suc b → a ≤ b
      lt_to_le h = omega arith

      go : T (finished P s) ⊎ ((i : ℕ) × Active s i × ((v : ℕ) × Snake P s i v)) → ((i : ℕ) → Active s i → (l : List ℕ) × (length l ≤ f) × T (finished P (calls_state P (eliminate P s i) l))) → (l : List ℕ) × (length l ≤ suc f) × T (finished P (calls_state P s l))
      go (inl t) ih = ([], omega arith, t)
      go (inr x) ih =
          let y = ih x.0 x.1 in
          (x.0 ∷ y.0, omega (arith, y.1), subst (λ (q : State). T (finished P (calls_state P q y.0))) (sym (call_accepted F e x.0 x.2.0 x.1 x.2.1)) y.2)

  -- an empty variable makes every domain empty, so that the rule holds nowhere: the empty list is finished
  pub finished_exists : {s : State} → Fits P s → ArcConsistent P s → (l : List ℕ) × (length l ≤ P.n) × T (finished P (calls_state P s l))
  unfolding calls_state
  finished_exists {s} F C = go (T_dec (none_empty P s))
    where
      go : T (none_empty P s) ⊎ (T (none_empty P s) → ⊥) → (l : List ℕ) × (length l ≤ P.n) × T (finished P (calls_state P s l))
      go (inl t) = let x = ends_within P.n F C ((none_empty_iff F).0 t) (count_most P.n s.active) in x
      go (inr n) = (
        [],
        omega arith,
        (finished_iff F).1 (λ i h v N. n ((none_empty_iff F).1 (λ j hj. elim (eq_dec j i) [ inl e ↦ (v, subst (λ (k : ℕ). Live s k v) (sym e) N.0) | inr d ↦ (let x = C i v N.0 j hj d in (x.0, x.1)) ]))),
      )

-- ---- demand 3, over a problem: both sentences, as the demand asks them

pub demand_three : (P : Problem) {s : State} → Fits P s → T (arc_consistent P s)
    → ((k l : List ℕ) → T (finished P (calls_state P s k)) → T (finished P (calls_state P s l)) → Alike P (calls_state P s k) (calls_state P s l))
    × ((k l : List ℕ) → T (finished P (calls_state P s k)) → (i : ℕ) → Active (calls_state P s k) i → Active (calls_state P s l) i)
demand_three P F C = (
  λ k l fk fl. let e = one_end P F k l fk fl in
      record {
        variables = λ i. ap (λ (q : State). q.active i) e;
        values = λ i a. ap (λ (q : State). q.live i a) e;
        pairs = λ i a j b. ap (λ (q : State). pair_left P q i a j b) e;
      },
  no_list_takes P F,
)
