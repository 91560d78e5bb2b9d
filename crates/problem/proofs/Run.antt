-- The search for the next step is complete, kind by kind; the run's records are lawful and it goes on until no rule holds. Assumes nothing.
use Rattle.std.specs.Prelude.{Option, Some, None}
use mathlib.Core.Path.{◌≡◌, refl, sym, ap, subst, ◌∙◌}
use mathlib.Core.Bool.{Bool, true, false}
use mathlib.Core.List.{List, [], ◌∷◌, ◌++◌}
use mathlib.Core.Logic.{◌⊎◌, inl, inr}
use Prim.Native.Nat.{ℕ, zero, suc, ◌≤◌, ◌<◌}
use native.Mathlib.Nat.{not-suc-le-zero, le_of_suc-le-suc}
use native.Mathlib.Omega.{arith}
use lib.Dec.{T}
use lib.ListN.{length}
use Rattle.bounded.specs.Quantifiers.{any_below}
use Rattle.bounded.proofs.Truth.{T_of, T_true, T_not}
use Rattle.bounded.proofs.Quantifiers.{any_iff}
use Rattle.problem.specs.Problem.{Problem, State, full, all_active, any_live, none_empty, unsupported, snake, triangle, neighbourhood, snake_substitution, live_count, size_sum}
use Rattle.problem.specs.Rulebook.{Rulebook, in_force}
use Rattle.problem.specs.Run.{holds_by, lawful_by, lawful, after, lawful_trace_by, lawful_trace, after_trace, step_if, first, next_unsupported, next_snake, next_triangle, next_neighbourhood, next_snake_substitution_by, kind_bound, next_of_kind_by, next_of_kind, next_by, next, run_from_by, run_from, run_by, run, end_of}
use Rattle.problem.specs.declared.Record.{Record}
use Rattle.problem.specs.declared.Record.TheVariants.{Unsupported, Snake, Triangle, Neighbourhood, SnakeSubstitution}
use Rattle.problem.specs.declared.End.TheVariants.{Impossible, Solved, Rest}
use Rattle.problem.proofs.Reflect.{all_active_or, any_live_iff, none_empty_iff, unsupported_iff, snake_iff, triangle_iff, neighbourhood_iff, snake_substitution_iff}
use Rattle.problem.specs.Sentences.{EndSays, Active, Fits}
use Rattle.problem.proofs.Trace.{after_fits, trace_fits, step_by_falls, lawful_by_iff, trace_iff, trace_short}

-- ---- searching

pub never : {r : Record} → None ≡ Some r → ⊥
never e = let z : ◌≡◌ {A = ℕ} 0 1 = cc in omega arith

never_step : {r : Record} → Some r ≡ None → ⊥
never_step e = let z : ◌≡◌ {A = ℕ} 0 1 = cc in omega arith

same_step : {r x : Record} → Some r ≡ Some x → r ≡ x
same_step e = cc

-- what is found is found somewhere, so what holds of every step found holds of it
pub first_found : (Q : Record → Type 0) (n : ℕ) (f : ℕ → Option Record) → ((k : ℕ) (r : Record) → f k ≡ Some r → Q r) → (r : Record) → first n f ≡ Some r → Q r
unfolding first
first_found Q zero f h r e = absurd (never e)
first_found Q (suc n) f h r e = go (f zero) refl e (first_found Q n (λ k. f (suc k)) (λ k. h (suc k)) r)
  where
    go : (x : Option Record) → f zero ≡ x → (elim x as (λ y. Option Record) [ Some r ↦ Some r | None ↦ first n (λ k. f (suc k)) ]) ≡ Some r → (first n (λ k. f (suc k)) ≡ Some r → Q r) → Q r
    go None p e ih = ih e
    go (Some x) p e ih = h zero r (p ∙ e)

pub step_if_found : (Q : Record → Type 0) (b : Bool) (r : Record) → (T b → Q r) → (x : Record) → step_if b r ≡ Some x → Q x
unfolding step_if
step_if_found Q true r h x e = subst Q (same_step e) (h tt)
step_if_found Q false r h x e = absurd (never e)

-- where none is found there is none anywhere
pub first_each : (n : ℕ) (f : ℕ → Option Record) → first n f ≡ None → (k : ℕ) → k < n → f k ≡ None
unfolding first
first_each zero f e k h = absurd (not-suc-le-zero h)
first_each (suc n) f e k h = go (f zero) refl e k h (first_each n (λ k. f (suc k)))
  where
    go : (x : Option Record) → f zero ≡ x → ◌≡◌ {A = Option Record} (elim x as (λ y. Option Record) [ Some r ↦ Some r | None ↦ first n (λ k. f (suc k)) ]) None → (k : ℕ) → k < suc n → (first n (λ k. f (suc k)) ≡ None → (k : ℕ) → k < n → f (suc k) ≡ None) → f k ≡ None
    go None p e zero h ih = p
    go None p e (suc k) h ih = ih e k (le_of_suc-le-suc h)
    go (Some x) p e k h ih = absurd (never_step e)

-- where a step is found, and that nothing is found before
pub first_where : (n : ℕ) (f : ℕ → Option Record) (r : Record) → first n f ≡ Some r → (k : ℕ) × (k < n) × (f k ≡ Some r) × ((j : ℕ) → j < k → f j ≡ None)
unfolding first
first_where zero f r e = absurd (never e)
first_where (suc n) f r e = go (f zero) refl e (first_where n (λ k. f (suc k)) r)
  where
    go : (x : Option Record) → f zero ≡ x → (elim x as (λ y. Option Record) [ Some r ↦ Some r | None ↦ first n (λ k. f (suc k)) ]) ≡ Some r
        → (first n (λ k. f (suc k)) ≡ Some r → (k : ℕ) × (k < n) × (f (suc k) ≡ Some r) × ((j : ℕ) → j < k → f (suc j) ≡ None))
        → (k : ℕ) × (k < suc n) × (f k ≡ Some r) × ((j : ℕ) → j < k → f j ≡ None)
    go (Some x) p e ih = (zero, omega arith, p ∙ e, λ j l. absurd (not-suc-le-zero l))
    go None p e ih = let y = ih e in (suc y.0, omega (arith, y.1), y.2, before y.0 y.3)
      where
        before : (k : ℕ) → ((j : ℕ) → j < k → f (suc j) ≡ None) → (j : ℕ) → j < suc k → f j ≡ None
        before k h zero l = p
        before k h (suc j) l = h j (le_of_suc-le-suc l)

pub step_if_none : (b : Bool) (r : Record) → step_if b r ≡ None → T b → ⊥
unfolding step_if
step_if_none true r e t = never_step e
step_if_none false r e t = t

module _ (P : Problem) (s : State) where
  -- ---- kinds 1 to 4, which read no slide: where no step is found none holds, whatever its fields

  unsupported_complete : Fits P s → next_unsupported P s ≡ None → (i b k : ℕ) → T (unsupported P s i b k) → ⊥
  unfolding next_unsupported
  unsupported_complete F e i b k h =
      let x = (unsupported_iff F i b k).0 h in
      step_if_none (unsupported P s i b k) (Unsupported i b k)
      (first_each _ _ (first_each _ _ (first_each _ _ e i (F.active_lt i (F.live_active i b x.0))) b (F.live_lt i b x.0)) k (F.active_lt k x.1)) h

  snake_complete : Fits P s → next_snake P s ≡ None → (i v : ℕ) → T (snake P s i v) → ⊥
  unfolding next_snake
  snake_complete F e i v h =
      let x = (snake_iff F i v).0 h in
      step_if_none (snake P s i v) (Snake i v) (first_each _ _ (first_each _ _ e i (F.active_lt i (F.live_active i v x.0))) v (F.live_lt i v x.0)) h

  triangle_complete : Fits P s → next_triangle P s ≡ None → (i j : ℕ) → T (triangle P s i j) → ⊥
  unfolding next_triangle
  triangle_complete F e i j h =
      let x = (triangle_iff F i j).0 h in
      step_if_none (triangle P s i j) (Triangle i j) (first_each _ _ (first_each _ _ e i (F.active_lt i x.0)) j (F.active_lt j x.1.0)) h

  pub neighbourhood_complete : Fits P s → next_neighbourhood P s ≡ None → (i b a : ℕ) → T (neighbourhood P s i b a) → ⊥
  unfolding next_neighbourhood
  neighbourhood_complete F e i b a h =
      let x = (neighbourhood_iff F i b a).0 h in
      step_if_none (neighbourhood P s i b a) (Neighbourhood i b a)
      (first_each _ _ (first_each _ _ (first_each _ _ e i (F.active_lt i (F.live_active i b x.0))) b (F.live_lt i b x.0)) a (F.live_lt i a x.1.0)) h

-- ---- by either rulebook

module _ (book : Rulebook) (P : Problem) (s : State) where
  -- the rule of a record holds
  abbrev Holds : Record → Type 0
  Holds r = T (holds_by book P s r)

  -- ---- each kind: a step that is found holds; and the slide as kinds 1 to 4

  unsupported_found : (r : Record) → next_unsupported P s ≡ Some r → Holds r
  unfolding next_unsupported holds_by
  unsupported_found = first_found Holds _ _ (λ i. first_found Holds _ _ (λ b. first_found Holds _ _ (λ k. step_if_found Holds (unsupported P s i b k) (Unsupported i b k) (λ t. t))))

  snake_found : (r : Record) → next_snake P s ≡ Some r → Holds r
  unfolding next_snake holds_by
  snake_found = first_found Holds _ _ (λ i. first_found Holds _ _ (λ v. step_if_found Holds (snake P s i v) (Snake i v) (λ t. t)))

  triangle_found : (r : Record) → next_triangle P s ≡ Some r → Holds r
  unfolding next_triangle holds_by
  triangle_found = first_found Holds _ _ (λ i. first_found Holds _ _ (λ j. step_if_found Holds (triangle P s i j) (Triangle i j) (λ t. t)))

  neighbourhood_found : (r : Record) → next_neighbourhood P s ≡ Some r → Holds r
  unfolding next_neighbourhood holds_by
  neighbourhood_found = first_found Holds _ _ (λ i. first_found Holds _ _ (λ b. first_found Holds _ _ (λ a. step_if_found Holds (neighbourhood P s i b a) (Neighbourhood i b a) (λ t. t))))

  substitution_found : (r : Record) → next_snake_substitution_by book P s ≡ Some r → Holds r
  unfolding next_snake_substitution_by holds_by
  substitution_found = first_found Holds _ _ (λ i. first_found Holds _ _ (λ b. first_found Holds _ _ (λ a. step_if_found Holds (snake_substitution P s book.spares i b a) (SnakeSubstitution i b a) (λ t. t))))

  substitution_complete : Fits P s → next_snake_substitution_by book P s ≡ None → (i b a : ℕ) → T (snake_substitution P s book.spares i b a) → ⊥
  unfolding next_snake_substitution_by
  substitution_complete F e i b a h =
      let x = (snake_substitution_iff F book.spares i b a).0 h in
      step_if_none (snake_substitution P s book.spares i b a) (SnakeSubstitution i b a)
      (first_each _ _ (first_each _ _ (first_each _ _ e i (F.active_lt i (F.live_active i b x.0))) b (F.live_lt i b x.0)) a (F.live_lt i a x.1.0)) h

  -- ---- the kinds joined

  kind_by_found : (k : ℕ) (r : Record) → next_of_kind_by book P s k ≡ Some r → Holds r
  unfolding next_of_kind_by
  kind_by_found zero r e = absurd (never e)
  kind_by_found (suc zero) r e = unsupported_found r e
  kind_by_found (suc (suc zero)) r e = snake_found r e
  kind_by_found (suc (suc (suc zero))) r e = triangle_found r e
  kind_by_found (suc (suc (suc (suc zero)))) r e = neighbourhood_found r e
  kind_by_found (suc (suc (suc (suc (suc zero))))) r e = substitution_found r e
  kind_by_found (suc (suc (suc (suc (suc (suc k)))))) r e = absurd (never e)

  -- what `next` is, by whether some active variable is without a value
  pub next_by_open : none_empty P s ≡ true → next_by book P s ≡ first kind_bound (next_of_kind_by book P s)
  unfolding next_by
  next_by_open e = rw (e, next_by)

  pub next_by_shut : none_empty P s ≡ false → next_by book P s ≡ None
  unfolding next_by
  next_by_shut e = rw (e, next_by)

  pub next_by_lawful : (r : Record) → next_by book P s ≡ Some r → T (lawful_by book P s r)
  next_by_lawful r e = go (none_empty P s) refl
    where
      go : (b : Bool) → none_empty P s ≡ b → T (lawful_by book P s r)
      go true p = (lawful_by_iff book P s r).1 (T_of p, first_found Holds kind_bound (next_of_kind_by book P s) kind_by_found r (sym (next_by_open p) ∙ e))
      go false p = absurd (never (sym (next_by_shut p) ∙ e))

  -- where no step is found, no record of any kind with any fields is lawful
  pub next_by_complete : Fits P s → next_by book P s ≡ None → (r : Record) → T (lawful_by book P s r) → ⊥
  unfolding holds_by next_of_kind_by
  next_by_complete F e r t = by_kind r x.1
    where
      x : T (none_empty P s) × T (holds_by book P s r)
      x = (lawful_by_iff book P s r).0 t

      none : (k : ℕ) → k < kind_bound → next_of_kind_by book P s k ≡ None
      none = first_each kind_bound (next_of_kind_by book P s) (sym (next_by_open (T_true (none_empty P s) x.0)) ∙ e)

      by_kind : (r : Record) → T (holds_by book P s r) → ⊥
      by_kind (Unsupported i b k) h = unsupported_complete P s F (none 1 (omega arith)) i b k h
      by_kind (Snake i v) h = snake_complete P s F (none 2 (omega arith)) i v h
      by_kind (Triangle i j) h = triangle_complete P s F (none 3 (omega arith)) i j h
      by_kind (Neighbourhood i b a) h = neighbourhood_complete P s F (none 4 (omega arith)) i b a h
      by_kind (SnakeSubstitution i b a) h = substitution_complete F (none 5 (omega arith)) i b a h

-- ---- by the rulebook in force

module _ (P : Problem) (s : State) where
  pub next_open : none_empty P s ≡ true → next P s ≡ first kind_bound (next_of_kind P s)
  next_open = next_by_open in_force P s

  pub next_shut : none_empty P s ≡ false → next P s ≡ None
  next_shut = next_by_shut in_force P s

  pub next_lawful : (r : Record) → next P s ≡ Some r → T (lawful P s r)
  next_lawful = next_by_lawful in_force P s

  pub next_complete : Fits P s → next P s ≡ None → (r : Record) → T (lawful P s r) → ⊥
  next_complete = next_by_complete in_force P s

-- ---- the run

-- a list with a record in it is not empty
not_nil : (t u : List Record) (r : Record) → [] ≡ t ++ (r ∷ u) → ⊥
not_nil [] u r e = let z : ◌≡◌ {A = ℕ} 0 1 = cc in omega arith
not_nil (x ∷ t) u r e = let z : ◌≡◌ {A = ℕ} 0 1 = cc in omega arith

module _ (book : Rulebook) (P : Problem) where
  pub run_by_step : (f : ℕ) (s : State) (r : Record) → next_by book P s ≡ Some r → run_from_by book (suc f) P s ≡ r ∷ run_from_by book f P (after P s r)
  unfolding run_from_by
  run_by_step f s r e = rw (e, run_from_by)

  pub run_by_stop : (f : ℕ) (s : State) → next_by book P s ≡ None → run_from_by book f P s ≡ []
  unfolding run_from_by
  run_by_stop zero s e = refl
  run_by_stop (suc f) s e = rw (e, run_from_by)

  run_by_ends : (f : ℕ) (s : State) → Fits P s → live_count P s < f → next_by book P (after_trace P s (run_from_by book f P s)) ≡ None
  unfolding run_from_by after_trace
  run_by_ends zero s F h = absurd (not-suc-le-zero h)
  run_by_ends (suc f) s F h = go (next_by book P s) refl (λ q. run_by_ends f q)
    where
      go : (x : Option Record) → next_by book P s ≡ x → ((q : State) → Fits P q → live_count P q < f → next_by book P (after_trace P q (run_from_by book f P q)) ≡ None) → next_by book P (after_trace P s (run_from_by book (suc f) P s)) ≡ None
      go None e ih = rw (run_by_stop (suc f) s e) e
      go (Some r) e ih = rw (run_by_step f s r e) (ih (after P s r) (after_fits P F r) (omega (arith, step_by_falls book P F r (next_by_lawful book P s r e))))

  run_by_next_from : (f : ℕ) (s : State) (t : List Record) (r : Record) (u : List Record) → run_from_by book f P s ≡ t ++ (r ∷ u) → next_by book P (after_trace P s t) ≡ Some r
  unfolding run_from_by after_trace
  run_by_next_from zero s t r u e = absurd (not_nil t u r e)
  run_by_next_from (suc f) s t r u e = go (next_by book P s) refl (λ q. run_by_next_from f q) t e
    where
      go : (x : Option Record) → next_by book P s ≡ x → ((q : State) (t : List Record) (r : Record) (u : List Record) → run_from_by book f P q ≡ t ++ (r ∷ u) → next_by book P (after_trace P q t) ≡ Some r)
          → (t : List Record) → run_from_by book (suc f) P s ≡ t ++ (r ∷ u) → next_by book P (after_trace P s t) ≡ Some r
      go None p ih t e = absurd (not_nil t u r (sym (run_by_stop (suc f) s p) ∙ e))
      go (Some x) p ih [] e = let z = sym (run_by_step f s x p) ∙ e in let same : x ≡ r = cc in p ∙ ap Some same
      go (Some x) p ih (y ∷ t) e =
          let z = sym (run_by_step f s x p) ∙ e in
          let same : x ≡ y = cc in
          let rest : run_from_by book f P (after P s x) ≡ t ++ (r ∷ u) = cc in
          subst (λ (w : Record). next_by book P (after_trace P (after P s w) t) ≡ Some r) same (ih (after P s x) t r u rest)

  -- every record of the run is the next step of the state that it was taken in
  pub run_by_next : (s : State) (before : List Record) (r : Record) (rest : List Record) → run_by book P s ≡ before ++ (r ∷ rest) → next_by book P (after_trace P s before) ≡ Some r
  unfolding run_by
  run_by_next s = run_by_next_from (suc (live_count P s)) s

  -- the run stops only where no record of any kind with any fields is lawful
  pub run_by_complete : {s : State} → Fits P s → (r : Record) → T (lawful_by book P (after_trace P s (run_by book P s)) r) → ⊥
  unfolding run_by
  run_by_complete {s} F = next_by_complete book P (after_trace P s (run_by book P s)) (trace_fits P F (run_by book P s)) (run_by_ends (suc (live_count P s)) s F (omega arith))

  -- ---- by the rulebook in force

  pub run_by_enough : (f g : ℕ) (s : State) → Fits P s → live_count P s < f → live_count P s < g → run_from_by book f P s ≡ run_from_by book g P s
  run_by_enough zero g s F h k = absurd (not-suc-le-zero h)
  run_by_enough (suc f) zero s F h k = absurd (not-suc-le-zero k)
  run_by_enough (suc f) (suc g) s F h k = go (next_by book P s) refl (λ q. run_by_enough f g q)
    where
      go : (x : Option Record) → next_by book P s ≡ x → ((q : State) → Fits P q → live_count P q < f → live_count P q < g → run_from_by book f P q ≡ run_from_by book g P q) → run_from_by book (suc f) P s ≡ run_from_by book (suc g) P s
      go None e ih = run_by_stop (suc f) s e ∙ sym (run_by_stop (suc g) s e)
      go (Some r) e ih =
          let l = step_by_falls book P F r (next_by_lawful book P s r e) in
          run_by_step f s r e ∙ ap (λ (t : List Record). r ∷ t) (ih (after P s r) (after_fits P F r) (omega arith) (omega arith)) ∙ sym (run_by_step g s r e)

module _ (P : Problem) where
  pub run_step : (f : ℕ) (s : State) (r : Record) → next P s ≡ Some r → run_from (suc f) P s ≡ r ∷ run_from f P (after P s r)
  run_step = run_by_step in_force P

  pub run_stop : (f : ℕ) (s : State) → next P s ≡ None → run_from f P s ≡ []
  run_stop = run_by_stop in_force P

  -- every record of the run is the next step of the state that it was taken in
  pub run_next : (s : State) (before : List Record) (r : Record) (rest : List Record) → run P s ≡ before ++ (r ∷ rest) → next P (after_trace P s before) ≡ Some r
  run_next = run_by_next in_force P

  -- the run stops only where no record of any kind with any fields is lawful
  pub run_complete : {s : State} → Fits P s → (r : Record) → T (lawful P (after_trace P s (run P s)) r) → ⊥
  run_complete = run_by_complete in_force P

  run_from_lawful : (f : ℕ) (s : State) → T (lawful_trace P s (run_from f P s))
  unfolding run_from_by lawful_trace_by
  run_from_lawful zero s = tt
  run_from_lawful (suc f) s = go (next P s) refl (λ q. run_from_lawful f q)
    where
      go : (x : Option Record) → next P s ≡ x → ((q : State) → T (lawful_trace P q (run_from f P q))) → T (lawful_trace P s (run_from (suc f) P s))
      go None e ih = rw (run_stop (suc f) s e) tt
      go (Some r) e ih = rw (run_step f s r e) ((trace_iff P s r (run_from f P (after P s r))).1 (next_lawful P s r e, ih (after P s r)))

  -- any number of steps that is large enough gives the same run
  pub run_enough : (f g : ℕ) (s : State) → Fits P s → live_count P s < f → live_count P s < g → run_from f P s ≡ run_from g P s
  run_enough = run_by_enough in_force P

  -- every record of the run is lawful
  pub run_lawful : (s : State) → T (lawful_trace P s (run P s))
  unfolding run_by
  run_lawful s = run_from_lawful (suc (live_count P s)) s

  -- "the steps are at most the sum of the sizes"
  pub run_short : length (run P (full P)) ≤ size_sum P
  run_short = trace_short P (run P (full P)) (run_lawful (full P))

-- ---- the end, as the format has it

module _ (P : Problem) (s : State) where
  pub end_impossible : none_empty P s ≡ false → end_of P s ≡ Impossible
  unfolding end_of
  end_impossible e = rw (e, end_of)

  pub end_rest : none_empty P s ≡ true → any_below P.n s.active ≡ true → end_of P s ≡ Rest
  unfolding end_of
  end_rest e f = rw (e, f, end_of)

  pub end_solved : none_empty P s ≡ true → any_below P.n s.active ≡ false → end_of P s ≡ Solved
  unfolding end_of
  end_solved e f = rw (e, f, end_of)

module _ (P : Problem) {s : State} (F : Fits P s) where
  -- where a variable is without a value, one is found
  pub emptied : (T (none_empty P s) → ⊥) → EndSays s Impossible
  unfolding none_empty
  emptied n = go (all_active_or P s (λ l. any_live P s l (λ c. true)))
    where
      go : T (all_active P s (λ l. any_live P s l (λ c. true))) ⊎ ((l : ℕ) × Active s l × (T (any_live P s l (λ c. true)) → ⊥)) → EndSays s Impossible
      go (inl t) = absurd (n t)
      go (inr x) = (x.0, x.1, λ a o. x.2 ((any_live_iff F x.0 (λ c. true)).1 (a, o, tt)))

  pub end_says : EndSays s (end_of P s)
  end_says = by_empty (none_empty P s) refl
    where
      by_active : none_empty P s ≡ true → (b : Bool) → any_below P.n s.active ≡ b → EndSays s (end_of P s)
      by_active e true f = rw (end_rest P s e f) (let x = (any_iff P.n s.active).0 (T_of f) in (x.0, x.2), (none_empty_iff F).0 (T_of e))
      by_active e false f = rw (end_solved P s e f) (λ i h. T_not f ((any_iff P.n s.active).1 (i, F.active_lt i h, h)))

      by_empty : (b : Bool) → none_empty P s ≡ b → EndSays s (end_of P s)
      by_empty true e = by_active e (any_below P.n s.active) refl
      by_empty false e = rw (end_impossible P s e) (emptied (T_not e))
