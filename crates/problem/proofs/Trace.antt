-- What holds of every step, by kind and then of every record; and of every lawful trace, whoever wrote it. Assumes nothing.
use mathlib.Core.Path.{◌≡◌, refl, subst}
use mathlib.Core.Bool.{Bool, true, false}
use mathlib.Core.List.{List, [], ◌∷◌, ◌++◌}
use mathlib.Core.Logic.{◌↔◌}
use Prim.Native.Nat.{ℕ, ◌+◌, ◌≤◌, ◌<◌}
use native.Mathlib.Omega.{arith}
use lib.Dec.{T}
use lib.ListN.{length}
use Rattle.bounded.proofs.Truth.{and_iff}
use Rattle.problem.specs.Problem.{Problem, State, full, none_empty, substitution_spares, remove, eliminate, live_count, size_sum}
use Rattle.problem.specs.Rulebook.{Rulebook, in_force}
use Rattle.problem.specs.Record.{effect_of}
use Rattle.problem.specs.Run.{holds_by, holds, lawful_by, lawful, after_effect, after, lawful_trace_by, lawful_trace, after_trace}
use Rattle.problem.specs.PutBack.{undo, undo_trace}
use Rattle.problem.specs.declared.Effect.{Effect}
use Rattle.problem.specs.declared.Effect.TheVariants.{Removes, Eliminates}
use Rattle.problem.specs.declared.Record.{Record}
use Rattle.problem.specs.declared.Record.TheVariants.{Unsupported, Snake, Triangle, Neighbourhood, SnakeSubstitution}
use Rattle.problem.proofs.Reflect.{full_fits, none_empty_iff, unsupported_iff, snake_iff, triangle_iff, neighbourhood_iff, snake_substitution_iff, remove_live, eliminate_live, remove_fits, eliminate_fits}
use Rattle.problem.specs.Sentences.{Active, Live, Fits, NoneEmpty, Solution, Solvable}
use Rattle.problem.proofs.Sound.{remove_undone, triangle_undone, snake_undone, unsupported_kept, eliminate_kept, neighbourhood_kept, substitution_kept}
use Rattle.problem.proofs.Count.{count_falls, full_count}

-- what a step removes is there: the value is live, or the variable active
abbrev pub Present : State → Effect → Type 0
Present s (Removes i b) = Live s i b
Present s (Eliminates i) = Active s i

module _ (P : Problem) where
  -- ---- one record

  effect_fits : {s : State} → Fits P s → (x : Effect) → Fits P (after_effect P s x)
  effect_fits {s} F (Removes i b) = remove_fits P s F i b
  effect_fits {s} F (Eliminates i) = eliminate_fits P s F i

  pub after_fits : {s : State} → Fits P s → (r : Record) → Fits P (after P s r)
  unfolding after
  after_fits F r = effect_fits F (effect_of r)

  -- a solution after, undone with the lowest choices, is a solution before
  pub step_undone : {s : State} → Fits P s → (r : Record) → T (holds P s r) → (p : ℕ → ℕ) → Solution P (after P s r) p → Solution P s (undo P s r p)
  unfolding after undo holds_by
  step_undone F (Unsupported i b k) t p A = remove_undone F i b p A
  step_undone F (Snake i v) t p A = snake_undone F i p A v ((snake_iff F i v).0 t)
  step_undone F (Triangle i j) t p A = triangle_undone F i p A j ((triangle_iff F i j).0 t)
  step_undone F (Neighbourhood i b a) t p A = remove_undone F i b p A
  step_undone F (SnakeSubstitution i b a) t p A = remove_undone F i b p A

  -- a solution before gives a solution after
  pub step_kept : {s : State} → Fits P s → (r : Record) → T (holds P s r) → Solvable P s → Solvable P (after P s r)
  unfolding after holds_by
  step_kept F (Unsupported i b k) t x = (x.0, unsupported_kept F i b k x.0 ((unsupported_iff F i b k).0 t) x.1)
  step_kept F (Snake i v) t x = (x.0, eliminate_kept F i x.0 (F.live_active i v ((snake_iff F i v).0 t).0) x.1)
  step_kept F (Triangle i j) t x = (x.0, eliminate_kept F i x.0 ((triangle_iff F i j).0 t).0 x.1)
  step_kept F (Neighbourhood i b a) t x = neighbourhood_kept F i b a x.0 ((neighbourhood_iff F i b a).0 t) x.1
  step_kept F (SnakeSubstitution i b a) t x = substitution_kept F substitution_spares i b a x.0 ((snake_substitution_iff F substitution_spares i b a).0 t) x.1

  remove_falls : {s : State} → Fits P s → (i b : ℕ) → Live s i b → live_count P (remove P s i b) < live_count P s
  remove_falls {s} F i b o =
      count_falls P s (remove P s i b) (λ j w x. ((remove_live P s i b j w).0 x).0) i b (F.active_lt i (F.live_active i b o)) (F.live_lt i b o) o
      (λ x. ((remove_live P s i b i b).0 x).1 (refl, refl))

  eliminate_falls : {s : State} → Fits P s → (i a : ℕ) → Live s i a → live_count P (eliminate P s i) < live_count P s
  eliminate_falls {s} F i a o =
      count_falls P s (eliminate P s i) (λ j w x. ((eliminate_live P s F i j w).0 x).0) i a (F.active_lt i (F.live_active i a o)) (F.live_lt i a o) o
      (λ x. ((eliminate_live P s F i i a).0 x).1.0 refl)

  -- where no active variable is without a value
  effect_falls : {s : State} → Fits P s → NoneEmpty P s → (x : Effect) → Present s x → live_count P (after_effect P s x) < live_count P s
  effect_falls F e (Removes i b) o = remove_falls F i b o
  effect_falls F e (Eliminates i) h = let x = e i h in eliminate_falls F i x.0 x.1

-- ---- by either rulebook

module _ (book : Rulebook) (P : Problem) where
  -- a step whose rule holds has something to do
  pub holds_by_present : {s : State} → Fits P s → (r : Record) → T (holds_by book P s r) → Present s (effect_of r)
  unfolding holds_by
  holds_by_present F (Unsupported i b k) t = ((unsupported_iff F i b k).0 t).0
  holds_by_present F (Snake i v) t = F.live_active i v ((snake_iff F i v).0 t).0
  holds_by_present F (Triangle i j) t = ((triangle_iff F i j).0 t).0
  holds_by_present F (Neighbourhood i b a) t = ((neighbourhood_iff F i b a).0 t).0
  holds_by_present F (SnakeSubstitution i b a) t = ((snake_substitution_iff F book.spares i b a).0 t).0

  pub lawful_by_iff : (s : State) (r : Record) → T (lawful_by book P s r) ↔ (T (none_empty P s) × T (holds_by book P s r))
  unfolding lawful_by
  lawful_by_iff s r = and_iff (none_empty P s) (holds_by book P s r)

  -- "Each step uses up at least one setting that was on", where no item in is without one
  pub step_by_falls : {s : State} → Fits P s → (r : Record) → T (lawful_by book P s r) → live_count P (after P s r) < live_count P s
  unfolding after
  step_by_falls {s} F r t = let x = (lawful_by_iff s r).0 t in effect_falls P F ((none_empty_iff F).0 x.0) (effect_of r) (holds_by_present F r x.1)

  pub trace_by_iff : (s : State) (r : Record) (t : List Record)
      → T (lawful_trace_by book P s (r ∷ t)) ↔ (T (lawful_by book P s r) × T (lawful_trace_by book P (after P s r) t))
  unfolding lawful_trace_by
  trace_by_iff s r t = go (lawful_by book P s r)
    where
      go : (b : Bool) → T (elim b as (λ x. Bool) [ true ↦ lawful_trace_by book P (after P s r) t | false ↦ false ]) ↔ (T b × T (lawful_trace_by book P (after P s r) t))
      go true = (λ h. (tt, h), λ h. h.1)
      go false = (λ h. absurd h, λ h. h.0)

-- ---- by the rulebook in force

module _ (P : Problem) where
  pub lawful_iff : (s : State) (r : Record) → T (lawful P s r) ↔ (T (none_empty P s) × T (holds P s r))
  lawful_iff = lawful_by_iff in_force P

  pub holds_present : {s : State} → Fits P s → (r : Record) → T (holds P s r) → Present s (effect_of r)
  holds_present = holds_by_present in_force P

  pub step_falls : {s : State} → Fits P s → (r : Record) → T (lawful P s r) → live_count P (after P s r) < live_count P s
  step_falls = step_by_falls in_force P

  -- ---- a trace

  pub trace_iff : (s : State) (r : Record) (t : List Record) → T (lawful_trace P s (r ∷ t)) ↔ (T (lawful P s r) × T (lawful_trace P (after P s r) t))
  trace_iff = trace_by_iff in_force P

  pub trace_fits : {s : State} → Fits P s → (t : List Record) → Fits P (after_trace P s t)
  unfolding after_trace
  trace_fits F [] = F
  trace_fits {s = s} F (r ∷ t) = trace_fits {s = after P s r} (after_fits P F r) t

  at_place : (s : State) (before : List Record) (r : Record) (rest : List Record) → T (lawful_trace P s (before ++ (r ∷ rest))) → T (lawful P (after_trace P s before) r)
  unfolding after_trace
  at_place s [] r rest h = ((trace_iff s r rest).0 h).0
  at_place s (x ∷ before) r rest h = at_place (after P s x) before r rest ((trace_iff s x (before ++ (r ∷ rest))).0 h).1

  -- every record of a lawful trace is lawful in the state that it was taken in
  pub trace_at : (s : State) (t : List Record) → T (lawful_trace P s t) → (before : List Record) (r : Record) (rest : List Record) → t ≡ before ++ (r ∷ rest) → T (lawful P (after_trace P s before) r)
  trace_at s t h before r rest e = at_place s before r rest (subst (λ (x : List Record). T (lawful_trace P s x)) e h)

  pub trace_undone : {s : State} → Fits P s → (t : List Record) → T (lawful_trace P s t) → (p : ℕ → ℕ) → Solution P (after_trace P s t) p → Solution P s (undo_trace P s t p)
  unfolding undo_trace after_trace
  trace_undone F [] h p A = A
  trace_undone {s = s} F (r ∷ t) h p A =
      let x = (trace_iff s r t).0 h in
      step_undone P F r ((lawful_iff s r).0 x.0).1 (undo_trace P (after P s r) t p) (trace_undone {s = after P s r} (after_fits P F r) t x.1 p A)

  pub trace_kept : {s : State} → Fits P s → (t : List Record) → T (lawful_trace P s t) → Solvable P s → Solvable P (after_trace P s t)
  unfolding after_trace
  trace_kept F [] h x = x
  trace_kept {s = s} F (r ∷ t) h x = let y = (trace_iff s r t).0 h in trace_kept {s = after P s r} (after_fits P F r) t y.1 (step_kept P F r ((lawful_iff s r).0 y.0).1 x)

  -- what is left has a solution exactly when the state before the trace has one
  pub trace_solvable : {s : State} → Fits P s → (t : List Record) → T (lawful_trace P s t) → Solvable P (after_trace P s t) ↔ Solvable P s
  trace_solvable {s} F t h = (λ x. (undo_trace P s t x.0, trace_undone F t h x.0 x.1), trace_kept F t h)

  pub trace_falls : {s : State} → Fits P s → (t : List Record) → T (lawful_trace P s t) → length t + live_count P (after_trace P s t) ≤ live_count P s
  unfolding after_trace
  trace_falls F [] h = omega arith
  trace_falls {s = s} F (r ∷ t) h =
      let x = (trace_iff s r t).0 h in
      omega (arith, trace_falls {s = after P s r} (after_fits P F r) t x.1, step_falls F r x.0)

  -- a lawful trace of the whole problem has at most as many records as the problem lists values
  pub trace_short : (t : List Record) → T (lawful_trace P (full P) t) → length t ≤ size_sum P
  trace_short t h = omega (arith, trace_falls (full_fits P) t h, full_count P)
