-- "the next step is of the lowest kind that holds anywhere, then the lowest i, then the lowest third field, then the lowest fourth": the
-- order of the records, and that the search finds the first lawful record in it. Assumes nothing.
use Rattle.std.specs.Prelude.{Option, Some, None}
use mathlib.Core.Path.{◌≡◌, refl, sym, ap, subst, ◌∙◌}
use mathlib.Core.Bool.{Bool}
use mathlib.Core.List.{List, [], ◌∷◌, ◌++◌}
use mathlib.Core.Logic.{◌⊎◌, inl, inr, ◌↔◌}
use Prim.Native.Nat.{ℕ, zero, suc, ◌≤◌, ◌<◌}
use native.Mathlib.Nat.{not-suc-le-zero}
use native.Mathlib.Omega.{arith}
use lib.Dec.{T}
use Rattle.bounded.proofs.Truth.{T_true, lt_dec}
use Rattle.problem.specs.Problem.{Problem, State, none_empty, substitution_spares, live_count}
use Rattle.problem.specs.Run.{holds_by, holds, lawful, after_trace, step_if, first, next_unsupported, next_snake, next_triangle, next_neighbourhood, next_snake_substitution_by, kind_bound, next_of_kind_by, next_of_kind, next, run_from, run_by, run}
use Rattle.problem.specs.Record.{kind_of, item_of, third_of, fourth_of}
use Rattle.problem.specs.Order.{Before, FirstLawful}
use Rattle.problem.specs.declared.Record.{Record}
use Rattle.problem.specs.declared.Record.TheVariants.{Unsupported, Snake, Triangle, Neighbourhood, SnakeSubstitution}
use Rattle.problem.proofs.Apart.{same_record, kind_within}
use Rattle.problem.proofs.Reflect.{unsupported_iff, snake_iff, triangle_iff, neighbourhood_iff, snake_substitution_iff}
use Rattle.problem.specs.Sentences.{Fits}
use Rattle.problem.proofs.Trace.{after_fits, lawful_iff, step_falls, trace_fits}
use Rattle.problem.proofs.Run.{never, first_each, first_where, step_if_found, step_if_none, next_open, next_lawful, next_complete, run_step, run_stop, run_next}

-- ---- it is an order of all records

compare : (m n : ℕ) → (m < n) ⊎ ((m ≡ n) ⊎ (n < m))
compare m n = go (lt_dec m n) (lt_dec n m)
  where
    go : (m < n) ⊎ (n ≤ m) → (n < m) ⊎ (m ≤ n) → (m < n) ⊎ ((m ≡ n) ⊎ (n < m))
    go (inl l) y = inl l
    go (inr l) (inl h) = inr (inr h)
    go (inr l) (inr h) = inr (inl (omega arith))

-- one field of the order, where the fields after it decide between X, E and Y
field_total : (m n : ℕ) {X E Y : Type 0} → (m ≡ n → X ⊎ (E ⊎ Y)) → ((m < n) ⊎ ((m ≡ n) × X)) ⊎ (E ⊎ ((n < m) ⊎ ((n ≡ m) × Y)))
field_total m n {X} {E} {Y} f = go (compare m n)
  where
    at : m ≡ n → X ⊎ (E ⊎ Y) → ((m < n) ⊎ ((m ≡ n) × X)) ⊎ (E ⊎ ((n < m) ⊎ ((n ≡ m) × Y)))
    at e (inl x) = inl (inr (e, x))
    at e (inr (inl x)) = inr (inl x)
    at e (inr (inr y)) = inr (inr (inr (sym e, y)))

    go : (m < n) ⊎ ((m ≡ n) ⊎ (n < m)) → ((m < n) ⊎ ((m ≡ n) × X)) ⊎ (E ⊎ ((n < m) ⊎ ((n ≡ m) × Y)))
    go (inl l) = inl (inl l)
    go (inr (inl e)) = at e (f e)
    go (inr (inr l)) = inr (inr (inl l))

field_one_way : (m n : ℕ) {X Y : Type 0} → (X → Y → ⊥) → (m < n) ⊎ ((m ≡ n) × X) → (n < m) ⊎ ((n ≡ m) × Y) → ⊥
field_one_way m n f (inl l) (inl h) = omega arith
field_one_way m n f (inl l) (inr h) = omega (arith, h.0)
field_one_way m n f (inr l) (inl h) = omega (arith, l.0)
field_one_way m n f (inr l) (inr h) = f l.1 h.1

-- of two different records one stands before the other
pub before_total : (x y : Record) → Before x y ⊎ ((x ≡ y) ⊎ Before y x)
before_total x y =
    field_total (kind_of x) (kind_of y) (λ k.
    field_total (item_of x) (item_of y) (λ i. field_total (third_of x) (third_of y) (λ b. last (same_record x y k i b) (compare (fourth_of x) (fourth_of y)))))
  where
    last : (fourth_of x ≡ fourth_of y → x ≡ y) → (fourth_of x < fourth_of y) ⊎ ((fourth_of x ≡ fourth_of y) ⊎ (fourth_of y < fourth_of x)) → (fourth_of x < fourth_of y) ⊎ ((x ≡ y) ⊎ (fourth_of y < fourth_of x))
    last f (inl l) = inl l
    last f (inr (inl e)) = inr (inl (f e))
    last f (inr (inr l)) = inr (inr l)

-- and the other does not stand before it
pub before_one_way : (x y : Record) → Before x y → Before y x → ⊥
before_one_way x y =
    field_one_way (kind_of x) (kind_of y) (field_one_way (item_of x) (item_of y) (field_one_way (third_of x) (third_of y) (λ (l : fourth_of x < fourth_of y) (h : fourth_of y < fourth_of x). omega arith)))

-- ---- searching: the first of a family A of records, in an order Lt

-- what is found is of the family, and none of the family stands before it; where nothing is found the family is empty
abbrev Least : (Record → Type 0) → (Record → Record → Type 0) → Option Record → Type 0
Least A Lt f = ((r : Record) → f ≡ Some r → A r × ((x : Record) → A x → Lt x r → ⊥)) × (f ≡ None → (x : Record) → A x → ⊥)

-- a search over the values of one field, which finds the first at each value, finds the first
first_least : (g : Record → ℕ) (n : ℕ) (f : ℕ → Option Record) (A : Record → Type 0) (Lt : Record → Record → Type 0) → ((x : Record) → A x → g x < n) → ((k : ℕ) → k < n → Least (λ x. A x × (g x ≡ k)) Lt (f k))
    → Least A (λ x y. (g x < g y) ⊎ ((g x ≡ g y) × Lt x y)) (first n f)
first_least g n f A Lt bound each = (found, λ e x a. (each (g x) (bound x a)).1 (first_each n f e (g x) (bound x a)) x (a, refl))
  where
    found : (r : Record) → first n f ≡ Some r → A r × ((x : Record) → A x → (g x < g r) ⊎ ((g x ≡ g r) × Lt x r) → ⊥)
    found r e = (y.0.0, none)
      where
        w : (k : ℕ) × (k < n) × (f k ≡ Some r) × ((j : ℕ) → j < k → f j ≡ None)
        w = first_where n f r e

        y : (A r × (g r ≡ w.0)) × ((x : Record) → A x × (g x ≡ w.0) → Lt x r → ⊥)
        y = (each w.0 w.1).0 r w.2

        none : (x : Record) → A x → (g x < g r) ⊎ ((g x ≡ g r) × Lt x r) → ⊥
        none x a (inl l) = (each (g x) (bound x a)).1 (w.3 (g x) (subst (λ (k : ℕ). g x < k) y.0.1 l)) x (a, refl)
        none x a (inr l) = y.1 x (a, l.0 ∙ y.0.1) l.1

-- one test
if_least : (A : Record → Type 0) (Lt : Record → Record → Type 0) (b : Bool) (r : Record) → (T b → A r) → ((x : Record) → A x → T b) → ((x : Record) → A x → Lt x r → ⊥) → Least A Lt (step_if b r)
if_least A Lt b r holds complete none = (step_if_found (λ y. A y × ((x : Record) → A x → Lt x y → ⊥)) b r (λ t. (holds t, none)), λ e x a. step_if_none b r e (complete x a))

-- ---- the five searches

-- the part of the order after the kind, after i, and after the third field
abbrev ByFourth : Record → Record → Type 0
ByFourth x y = fourth_of x < fourth_of y

abbrev ByThird : Record → Record → Type 0
ByThird x y = (third_of x < third_of y) ⊎ ((third_of x ≡ third_of y) × ByFourth x y)

abbrev ByItem : Record → Record → Type 0
ByItem x y = (item_of x < item_of y) ⊎ ((item_of x ≡ item_of y) × ByThird x y)

module _ {P : Problem} {s : State} (F : Fits P s) where
  -- the records that hold: all of them, those of a kind, and those with given fields
  abbrev OfKind : ℕ → Record → Type 0
  OfKind k x = T (holds P s x) × (kind_of x ≡ k)

  abbrev AtItem : (k i : ℕ) → Record → Type 0
  AtItem k i x = OfKind k x × (item_of x ≡ i)

  abbrev AtThird : (k i b : ℕ) → Record → Type 0
  AtThird k i b x = AtItem k i x × (third_of x ≡ b)

  abbrev AtFourth : (k i b c : ℕ) → Record → Type 0
  AtFourth k i b c x = AtThird k i b x × (fourth_of x ≡ c)

  -- how far the search goes in each field of a kind; no kind has another number
  unfoldable third_bound : (k i : ℕ) → ℕ
  third_bound zero i = 0
  third_bound (suc zero) i = P.size i
  third_bound (suc (suc zero)) i = P.size i
  third_bound (suc (suc (suc zero))) i = P.n
  third_bound (suc (suc (suc (suc zero)))) i = P.size i
  third_bound (suc (suc (suc (suc (suc zero))))) i = P.size i
  third_bound (suc (suc (suc (suc (suc (suc k)))))) i = 0

  unfoldable fourth_bound : (k i : ℕ) → ℕ
  fourth_bound zero i = 0
  fourth_bound (suc zero) i = P.n
  fourth_bound (suc (suc zero)) i = 1
  fourth_bound (suc (suc (suc zero))) i = 1
  fourth_bound (suc (suc (suc (suc zero)))) i = P.size i
  fourth_bound (suc (suc (suc (suc (suc zero))))) i = P.size i
  fourth_bound (suc (suc (suc (suc (suc (suc k)))))) i = 0

  live_item : (i a : ℕ) → T (s.live i a) → i < P.n
  live_item i a o = F.active_lt i (F.live_active i a o)

  -- a record that holds has its fields within these bounds
  within : (x : Record) → T (holds P s x) → (item_of x < P.n) × (third_of x < third_bound (kind_of x) (item_of x)) × (fourth_of x < fourth_bound (kind_of x) (item_of x))
  unfolding holds_by third_bound fourth_bound
  within (Unsupported i b k) t = let x = (unsupported_iff F i b k).0 t in (live_item i b x.0, F.live_lt i b x.0, F.active_lt k x.1)
  within (Snake i v) t = let x = (snake_iff F i v).0 t in (live_item i v x.0, F.live_lt i v x.0, omega arith)
  within (Triangle i j) t = let x = (triangle_iff F i j).0 t in (F.active_lt i x.0, F.active_lt j x.1.0, omega arith)
  within (Neighbourhood i b a) t = let x = (neighbourhood_iff F i b a).0 t in (live_item i b x.0, F.live_lt i b x.0, F.live_lt i a x.1.0)
  within (SnakeSubstitution i b a) t = let x = (snake_substitution_iff F substitution_spares i b a).0 t in (live_item i b x.0, F.live_lt i b x.0, F.live_lt i a x.1.0)

  -- they are below whatever no size and no number of variables is above
  pub holds_below : (m : ℕ) → P.n ≤ m → ((i : ℕ) → P.size i ≤ m) → (x : Record) → T (holds P s x) → (item_of x < m) × (third_of x < m) × (fourth_of x < m)
  unfolding third_bound fourth_bound
  holds_below m few narrow x t = let w = within x t in let y = most x (omega (arith, w.0)) in (omega (arith, w.0), omega (arith, w.1, y.0), omega (arith, w.2, y.1))
    where
      most : (x : Record) → 1 ≤ m → (third_bound (kind_of x) (item_of x) ≤ m) × (fourth_bound (kind_of x) (item_of x) ≤ m)
      most (Unsupported i b k) l = (narrow i, few)
      most (Snake i v) l = (narrow i, l)
      most (Triangle i j) l = (few, l)
      most (Neighbourhood i b a) l = (narrow i, narrow i)
      most (SnakeSubstitution i b a) l = (narrow i, narrow i)

  item_lt : (k : ℕ) (x : Record) → OfKind k x → item_of x < P.n
  item_lt k x o = (within x o.0).0

  third_lt : (k i : ℕ) (x : Record) → AtItem k i x → third_of x < third_bound k i
  third_lt k i x o = subst (λ (j : ℕ). third_of x < third_bound k j) o.1 (subst (λ (m : ℕ). third_of x < third_bound m (item_of x)) o.0.1 (within x o.0.0).1)

  fourth_lt : (k i b : ℕ) (x : Record) → AtThird k i b x → fourth_of x < fourth_bound k i
  fourth_lt k i b x o = subst (λ (j : ℕ). fourth_of x < fourth_bound k j) o.0.1 (subst (λ (m : ℕ). fourth_of x < fourth_bound m (item_of x)) o.0.0.1 (within x o.0.0.0).2)

  -- the record with given kind and fields is the only one
  same_holds : (x y : Record) → T (holds P s x) → kind_of x ≡ kind_of y → item_of x ≡ item_of y → third_of x ≡ third_of y → fourth_of x ≡ fourth_of y → T (holds P s y)
  same_holds x y t k i b c = subst (λ (z : Record). T (holds P s z)) (same_record x y k i b c) t

  -- a kind with four fields: `C` makes its records
  four_least : (k : ℕ) (C : ℕ → ℕ → ℕ → Record) → ((i b c : ℕ) → (kind_of (C i b c) ≡ k) × (item_of (C i b c) ≡ i) × (third_of (C i b c) ≡ b) × (fourth_of (C i b c) ≡ c))
      → Least (OfKind k) ByItem (first P.n (λ i. first (third_bound k i) (λ b. first (fourth_bound k i) (λ c. step_if (holds P s (C i b c)) (C i b c)))))
  four_least k C is =
      first_least item_of P.n _ (OfKind k) ByThird (item_lt k) (λ i l. first_least third_of (third_bound k i) _ (AtItem k i) ByFourth (third_lt k i) (λ b m. over i b))
    where
      Nowhere : Record → Record → Type 0
      Nowhere x y = ⊥

      one : (i b c : ℕ) → Least (AtFourth k i b c) Nowhere (step_if (holds P s (C i b c)) (C i b c))
      one i b c =
          let e = is i b c in
          if_least (AtFourth k i b c) Nowhere (holds P s (C i b c)) (C i b c) (λ t. ((((t, e.0), e.1), e.2), e.3))
          (λ x a. same_holds x (C i b c) a.0.0.0.0 (a.0.0.0.1 ∙ sym e.0) (a.0.0.1 ∙ sym e.1) (a.0.1 ∙ sym e.2) (a.1 ∙ sym e.3)) (λ x a z. z)

      over : (i b : ℕ) → Least (AtThird k i b) ByFourth (first (fourth_bound k i) (λ c. step_if (holds P s (C i b c)) (C i b c)))
      over i b =
          let y = first_least fourth_of (fourth_bound k i) _ (AtThird k i b) Nowhere (fourth_lt k i b) (λ c l. one i b c) in
          (λ r e. let z = y.0 r e in (z.0, λ x a l. z.1 x a (inl l)), y.1)

  -- a kind with three fields
  three_least : (k : ℕ) (C : ℕ → ℕ → Record) → ((i b : ℕ) → (kind_of (C i b) ≡ k) × (item_of (C i b) ≡ i) × (third_of (C i b) ≡ b) × (fourth_of (C i b) ≡ 0)) → ((i : ℕ) → fourth_bound k i ≡ 1)
      → Least (OfKind k) ByItem (first P.n (λ i. first (third_bound k i) (λ b. step_if (holds P s (C i b)) (C i b))))
  three_least k C is bare =
      first_least item_of P.n _ (OfKind k) ByThird (item_lt k) (λ i l. first_least third_of (third_bound k i) _ (AtItem k i) ByFourth (third_lt k i) (λ b m. one i b))
    where
      one : (i b : ℕ) → Least (AtThird k i b) ByFourth (step_if (holds P s (C i b)) (C i b))
      one i b =
          let e = is i b in
          if_least (AtThird k i b) ByFourth (holds P s (C i b)) (C i b) (λ t. (((t, e.0), e.1), e.2))
          (λ x a. let h = fourth_lt k i b x a in same_holds x (C i b) a.0.0.0 (a.0.0.1 ∙ sym e.0) (a.0.1 ∙ sym e.1) (a.1 ∙ sym e.2) (omega (arith, bare i, e.3)))
          (λ x a h. omega (arith, e.3))

  kind_least : (k : ℕ) → k < kind_bound → Least (OfKind k) ByItem (next_of_kind P s k)
  unfolding next_of_kind_by next_unsupported next_snake next_triangle next_neighbourhood next_snake_substitution_by holds_by third_bound fourth_bound
  kind_least zero l = (λ r e. absurd (never e), λ e x a. omega (arith, (kind_within x).0, a.1))
  kind_least (suc zero) l = four_least 1 Unsupported (λ i b c. (refl, refl, refl, refl))
  kind_least (suc (suc zero)) l = three_least 2 Snake (λ i b. (refl, refl, refl, refl)) (λ i. refl)
  kind_least (suc (suc (suc zero))) l = three_least 3 Triangle (λ i b. (refl, refl, refl, refl)) (λ i. refl)
  kind_least (suc (suc (suc (suc zero)))) l = four_least 4 Neighbourhood (λ i b c. (refl, refl, refl, refl))
  kind_least (suc (suc (suc (suc (suc zero))))) l = four_least 5 SnakeSubstitution (λ i b c. (refl, refl, refl, refl))
  kind_least (suc (suc (suc (suc (suc (suc k)))))) l = absurd (omega arith)

  search_least : Least (λ x. T (holds P s x)) Before (first kind_bound (next_of_kind P s))
  search_least = first_least kind_of kind_bound (next_of_kind P s) (λ x. T (holds P s x)) ByItem (λ x t. (kind_within x).1) kind_least

  -- ---- the next step

  -- the step found is lawful, and no lawful record stands before it
  pub next_least : (r : Record) → next P s ≡ Some r → FirstLawful P s r
  next_least r e = (next_lawful P s r e, none)
    where
      none : (x : Record) → T (lawful P s x) → Before x r → ⊥
      none x t l =
          let y = (lawful_iff P s x).0 t in
          (search_least.0 r (sym (next_open P s (T_true (none_empty P s) y.0)) ∙ e)).1 x y.1 l

  -- nothing is found exactly where no record is lawful
  pub next_nothing : (next P s ≡ None) ↔ ((x : Record) → T (lawful P s x) → ⊥)
  next_nothing = (next_complete P s F, λ n. go n (next P s) refl)
    where
      go : ((x : Record) → T (lawful P s x) → ⊥) → (y : Option Record) → next P s ≡ y → next P s ≡ None
      go n None e = e
      go n (Some r) e = absurd (n r (next_lawful P s r e))

  -- no other step is: where a record is lawful and none stands before it, the search finds it
  pub next_only : (r : Record) → FirstLawful P s r → next P s ≡ Some r
  next_only r h = go (next P s) refl
    where
      go : (y : Option Record) → next P s ≡ y → next P s ≡ Some r
      go None e = absurd (next_nothing.0 e r h.0)
      go (Some y) e = at (before_total y r)
        where
          at : Before y r ⊎ ((y ≡ r) ⊎ Before r y) → next P s ≡ Some r
          at (inl l) = absurd (h.1 y (next_lawful P s y e) l)
          at (inr (inl q)) = e ∙ ap Some q
          at (inr (inr l)) = absurd ((next_least y e).1 r h.0 l)

-- ---- the run

module _ {P : Problem} {s : State} (F : Fits P s) where
  -- every record of the run is the first lawful one in the state that it was taken in
  pub run_least : (before : List Record) (r : Record) (rest : List Record) → run P s ≡ before ++ (r ∷ rest) → FirstLawful P (after_trace P s before) r
  run_least before r rest e = next_least (trace_fits P F before) r (run_next P s before r rest e)

-- and no other list is: one whose records are so, and at whose end no record is lawful, is the run
only_from : (f : ℕ) {P : Problem} {s : State} → Fits P s → live_count P s < f → (t : List Record) → ((before : List Record) (r : Record) (rest : List Record) → t ≡ before ++ (r ∷ rest) → FirstLawful P (after_trace P s before) r)
    → ((x : Record) → T (lawful P (after_trace P s t) x) → ⊥) → t ≡ run_from f P s
unfolding after_trace
only_from zero F h t each end = absurd (not-suc-le-zero h)
only_from (suc f) {P} {s} F h [] each end = sym (run_stop P (suc f) s ((next_nothing F).1 end))
only_from (suc f) {P} {s} F h (r ∷ t) each end =
    let e = next_only F r (each [] r t refl) in
    let l = step_falls P F r (next_lawful P s r e) in
    ap (λ (u : List Record). r ∷ u) (only_from f (after_fits P F r) (omega arith) t (λ before x rest q. each (r ∷ before) x rest (ap (λ (u : List Record). r ∷ u) q)) end) ∙ sym (run_step P f s r e)

module _ {P : Problem} {s : State} (F : Fits P s) where
  pub run_only : (t : List Record) → ((before : List Record) (r : Record) (rest : List Record) → t ≡ before ++ (r ∷ rest) → FirstLawful P (after_trace P s before) r)
      → ((x : Record) → T (lawful P (after_trace P s t) x) → ⊥) → t ≡ run P s
  unfolding run_by
  run_only = only_from (suc (live_count P s)) F (omega arith)
