-- The slide rule of before keeps i among the items where e covers d. Wherever it holds a cover holds, and a cover is looked for before it:
-- by that rulebook a run takes no slide. Assumes nothing.
use Rattle.std.specs.Prelude.{Option, Some, None}
use mathlib.Core.Path.{◌≡◌, refl, sym, subst, ◌∙◌}
use mathlib.Core.Bool.{Bool, true, false}
use mathlib.Core.List.{List, ◌∷◌, ◌++◌}
use Prim.Native.Nat.{ℕ, zero, suc, ◌<◌}
use native.Mathlib.Omega.{arith}
use lib.Dec.{T}
use Rattle.problem.specs.Problem.{Problem, State, none_empty, unsupported, snake, triangle, neighbourhood, snake_substitution, substitution_keeps, first_break}
use Rattle.problem.specs.Rulebook.{before_four}
use Rattle.problem.specs.Run.{next_unsupported, next_snake, next_triangle, next_neighbourhood, next_snake_substitution_by, kind_bound, next_of_kind_by, next_by, run_by}
use Rattle.problem.specs.Record.{kind_of}
use Rattle.problem.specs.declared.Record.{Record}
use Rattle.problem.specs.declared.Record.TheVariants.{Unsupported, Snake, Triangle, Neighbourhood, SnakeSubstitution}
use Rattle.problem.proofs.Reflect.{neighbourhood_iff, snake_substitution_iff}
use Rattle.problem.specs.Sentences.{Allowed, Fits}
use Rattle.problem.proofs.Spoiler.{break_iff}
use Rattle.problem.specs.Causes.{BreakSays}
use Rattle.problem.proofs.Trace.{trace_fits}
use Rattle.problem.proofs.Run.{never, first_found, first_where, step_if_found, neighbourhood_complete, next_by_open, next_by_shut, run_by_next}

-- ---- where the slide holds, a cover holds

module _ (P : Problem) {s : State} (F : Fits P s) where
  -- the cover is the slide's own, or its e covers its d, where its own breaks
  pub substitution_covered : (i b a : ℕ) → T (snake_substitution P s substitution_keeps i b a) → (k : ℕ) × (d : ℕ) × (e : ℕ) × T (neighbourhood P s k d e)
  substitution_covered i b a h = go (first_break P s i b a) ((break_iff F i b a (first_break P s i b a)).0 refl)
    where
      go : (x : Option (ℕ × ℕ)) → BreakSays P s i b a x → (k : ℕ) × (d : ℕ) × (e : ℕ) × T (neighbourhood P s k d e)
      go None c = let x = (snake_substitution_iff F substitution_keeps i b a).0 h in (i, b, a, (neighbourhood_iff F i b a).1 (x.0, (x.1.0, (x.1.1.0, c))))
      go (Some (k, d)) y =
          let l = y.0.0 in
          let c = y.1.0 in
          let z = ((snake_substitution_iff F substitution_keeps i b a).0 h).1.1.1 k l.0 l.1.0 d c.0 c.1.0 in
          (k, d, z.0, (neighbourhood_iff F k d z.0).1 (c.0, (z.1, ((λ q. c.1.1 (subst (λ (e : ℕ). Allowed P i a k e) q z.2.0)), λ l o q. z.2.1 l o q (λ w. w.0)))))

-- ---- so the search comes to a step of a lower kind

-- a record of one of the four kinds below the slide
abbrev Low : Record → Type 0
Low r = kind_of r < 5

module _ (P : Problem) (s : State) where
  kind_low : (k : ℕ) → k < 5 → (r : Record) → next_of_kind_by before_four P s k ≡ Some r → Low r
  unfolding next_of_kind_by next_unsupported next_snake next_triangle next_neighbourhood
  kind_low zero l r e = absurd (never e)
  kind_low (suc zero) l r e = first_found Low _ _ (λ i. first_found Low _ _ (λ b. first_found Low _ _ (λ k. step_if_found Low (unsupported P s i b k) (Unsupported i b k) (λ t. omega arith)))) r e
  kind_low (suc (suc zero)) l r e = first_found Low _ _ (λ i. first_found Low _ _ (λ v. step_if_found Low (snake P s i v) (Snake i v) (λ t. omega arith))) r e
  kind_low (suc (suc (suc zero))) l r e = first_found Low _ _ (λ i. first_found Low _ _ (λ j. step_if_found Low (triangle P s i j) (Triangle i j) (λ t. omega arith))) r e
  kind_low (suc (suc (suc (suc zero)))) l r e = first_found Low _ _ (λ i. first_found Low _ _ (λ b. first_found Low _ _ (λ a. step_if_found Low (neighbourhood P s i b a) (Neighbourhood i b a) (λ t. omega arith)))) r e
  kind_low (suc (suc (suc (suc (suc k))))) l r e = absurd (omega arith)

module _ (P : Problem) {s : State} (F : Fits P s) where
  -- where no cover is found no slide is
  substitution_never : next_neighbourhood P s ≡ None → (r : Record) → next_snake_substitution_by before_four P s ≡ Some r → ⊥
  unfolding next_snake_substitution_by
  substitution_never n = first_found Never _ _ (λ i. first_found Never _ _ (λ b. first_found Never _ _ (λ a. step_if_found Never (snake_substitution P s substitution_keeps i b a) (SnakeSubstitution i b a) (λ h. none i b a h))))
    where
      Never : Record → Type 0
      Never r = ⊥

      none : (i b a : ℕ) → T (snake_substitution P s substitution_keeps i b a) → ⊥
      none i b a h = let x = substitution_covered P F i b a h in neighbourhood_complete P s F n x.0 x.1 x.2 x.3

  -- the next step is found at one of the kinds before the slide
  pub next_early : (r : Record) → next_by before_four P s ≡ Some r
      → (none_empty P s ≡ true) × ((k : ℕ) × (k < 5) × (next_of_kind_by before_four P s k ≡ Some r) × ((j : ℕ) → j < k → next_of_kind_by before_four P s j ≡ None))
  unfolding next_of_kind_by
  next_early r e = by_empty (none_empty P s) refl
    where
      at : (k : ℕ) → k < kind_bound → next_of_kind_by before_four P s k ≡ Some r → ((j : ℕ) → j < k → next_of_kind_by before_four P s j ≡ None) → k < 5
      at zero l f h = omega arith
      at (suc zero) l f h = omega arith
      at (suc (suc zero)) l f h = omega arith
      at (suc (suc (suc zero))) l f h = omega arith
      at (suc (suc (suc (suc zero)))) l f h = omega arith
      at (suc (suc (suc (suc (suc zero))))) l f h = absurd (substitution_never (h 4 (omega arith)) r f)
      at (suc (suc (suc (suc (suc (suc k)))))) l f h = absurd (never f)

      by_empty : (b : Bool) → none_empty P s ≡ b → (none_empty P s ≡ true) × ((k : ℕ) × (k < 5) × (next_of_kind_by before_four P s k ≡ Some r) × ((j : ℕ) → j < k → next_of_kind_by before_four P s j ≡ None))
      by_empty true p = let x = first_where kind_bound (next_of_kind_by before_four P s) r (sym (next_by_open before_four P s p) ∙ e) in (p, (x.0, at x.0 x.1 x.2 x.3, x.2, x.3))
      by_empty false p = absurd (never (sym (next_by_shut before_four P s p) ∙ e))

-- ---- the run

module _ (P : Problem) where
  -- by the rulebook of before no record of a run is a slide, whatever state that fits it starts from
  pub run_no_substitution : {s : State} → Fits P s → (t u : List Record) (i b a : ℕ) → run_by before_four P s ≡ t ++ (SnakeSubstitution i b a ∷ u) → ⊥
  run_no_substitution {s} F t u i b a e =
      let x = (next_early P (trace_fits P F t) (SnakeSubstitution i b a) (run_by_next before_four P s t (SnakeSubstitution i b a) u e)).1 in
      let l = kind_low P _ x.0 x.1 (SnakeSubstitution i b a) x.2 in
      omega arith
