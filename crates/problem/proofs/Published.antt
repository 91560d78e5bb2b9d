-- The rules are the published ones (specs/Published.antt), with the fields of a record as their witnesses; and so is what a step does to the
-- instance. Assumes nothing.
use mathlib.Core.Path.{◌≡◌, refl, subst, fun_ext}
use mathlib.Core.Bool.{Bool, true, false}
use mathlib.Core.List.{List, ◌∷◌, ◌++◌}
use mathlib.Core.Logic.{◌⊎◌, inl, inr, ◌≢◌, ◌↔◌}
use Prim.Native.Nat.{ℕ}
use lib.Dec.{T}
use Rattle.bounded.proofs.Truth.{T_ext, eq_dec}
use Rattle.problem.specs.Problem.{Problem, State, unsupported, snake, triangle, neighbourhood, snake_substitution, substitution_spares, remove, eliminate}
use Rattle.problem.specs.Run.{holds, holds_by, lawful, after_effect, after, lawful_trace, after_trace, run}
use Rattle.problem.specs.Published.{DeSnake, TriangleProperty, Published, VariableEliminated, ValueEliminated, EffectPublished, StepPublished}
use Rattle.problem.specs.Record.{effect_of}
use Rattle.problem.specs.declared.Effect.{Effect}
use Rattle.problem.specs.declared.Effect.TheVariants.{Removes, Eliminates}
use Rattle.problem.specs.declared.Record.{Record}
use Rattle.problem.specs.declared.Record.TheVariants.{Unsupported, Snake, Triangle, Neighbourhood, SnakeSubstitution}
use Rattle.problem.proofs.Reflect.{turn, none_empty_iff, unsupported_iff, snake_iff, triangle_iff, neighbourhood_iff, snake_substitution_iff, remove_live, eliminate_active, eliminate_live}
use Rattle.problem.specs.Sentences.{Live, Fits, NoneEmpty}
use Rattle.problem.proofs.Trace.{trace_fits, lawful_iff, trace_at}
use Rattle.problem.proofs.Run.{run_lawful}

-- ---- against the tests

-- a test that does not fail holds
double_negation : (b : Bool) → ((T b → ⊥) → ⊥) → T b
double_negation true f = tt
double_negation false f = f (λ t. t)

module _ {P : Problem} {s : State} (F : Fits P s) where
  -- each kind: the test holds exactly where the record is published

  pub unsupported_published : (i b k : ℕ) → T (unsupported P s i b k) ↔ Published P s (Unsupported i b k)
  unsupported_published i b k = (
    λ t. let x = (unsupported_iff F i b k).0 t in (F.live_active i b x.0, (x.0, x.1, x.2, λ y. x.3 y.0 y.1 y.2)),
    λ x. (unsupported_iff F i b k).1 (x.1.0, x.1.1, x.1.2, λ c o q. x.1.3 (c, o, q)),
  )

  pub snake_published : (i v : ℕ) → T (snake P s i v) ↔ Published P s (Snake i v)
  snake_published i v = (
    λ t. let N = (snake_iff F i v).0 t in (
      F.live_active i v N.0,
      (
        N.0,
        λ j hj d w ow b. let y = N.1 j hj d w ow b in
            (y.0, y.1, turn P i v j y.0 y.2.0, λ k hk dk dk2 c oc z. z.1 (y.2.1 k hk dk dk2 c oc z.0)),
      ),
    ),
    λ x. (snake_iff F i v).1 (
      x.1.0,
      λ j hj d w ow b. let y = x.1.1 j hj d w ow b in
          (y.0, y.1, (turn P j y.0 i v y.2, λ l hl dl dl2 c oc q. double_negation (P.allowed j y.0 l c) (λ n. y.3 l hl dl dl2 c oc (q, n)))),
    ),
  )

  pub triangle_published : (i j : ℕ) → T (triangle P s i j) ↔ Published P s (Triangle i j)
  triangle_published i j = (
    λ t. let N = (triangle_iff F i j).0 t in
        (N.0, (N.1.0, N.1.1.0, λ v o. let y = N.1.1.1 v o in (y.0, y.1, y.2.0, y.2.1))),
    λ x. (triangle_iff F i j).1 (x.0, (x.1.0, (x.1.1, λ v o. let y = x.1.2 v o in (y.0, y.1, (y.2, y.3))))),
  )

  pub neighbourhood_published : (i b a : ℕ) → T (neighbourhood P s i b a) ↔ Published P s (Neighbourhood i b a)
  neighbourhood_published i b a = (
    λ t. let x = (neighbourhood_iff F i b a).0 t in (F.live_active i b x.0, (x.0, x.1.0, x.1.1.0), x.1.1.1),
    λ x. (neighbourhood_iff F i b a).1 (x.1.0, (x.1.1, (x.1.2, x.2))),
  )

  -- with i spared, as the paper has it
  pub substitution_published : (i b a : ℕ) → T (snake_substitution P s substitution_spares i b a) ↔ Published P s (SnakeSubstitution i b a)
  substitution_published i b a = (
    λ t. let x = (snake_substitution_iff F substitution_spares i b a).0 t in (
      F.live_active i b x.0,
      (x.0, x.1.0, x.1.1.0),
      λ k hk d e oe q. let y = x.1.1.1 k hk d e oe q in (y.0, y.1, y.2.0, λ l hl dl dk. y.2.1 l hl dk (λ z. dl z.1)),
    ),
    λ x. (snake_substitution_iff F substitution_spares i b a).1 (
      x.1.0,
      (x.1.1, (x.1.2, λ k hk d e oe q. let y = x.2 k hk d e oe q in (y.0, y.1, (y.2, λ l hl dk n. y.3 l hl (λ z. n (tt, z)) dk)))),
    ),
  )

  -- ---- every record

  pub holds_published : (r : Record) → T (holds P s r) ↔ Published P s r
  unfolding holds_by
  holds_published (Unsupported i b k) = unsupported_published i b k
  holds_published (Snake i v) = snake_published i v
  holds_published (Triangle i j) = triangle_published i j
  holds_published (Neighbourhood i b a) = neighbourhood_published i b a
  holds_published (SnakeSubstitution i b a) = substitution_published i b a

  -- a record, of any kind, is lawful exactly where it is published and no domain is empty
  pub published_iff : (r : Record) → T (lawful P s r) ↔ (NoneEmpty P s × Published P s r)
  published_iff r = (
    λ t. let x = (lawful_iff P s r).0 t in ((none_empty_iff F).0 x.0, (holds_published r).0 x.1),
    λ x. (lawful_iff P s r).1 ((none_empty_iff F).1 x.0, (holds_published r).1 x.1),
  )

  pub lawful_published : (r : Record) → T (lawful P s r) → Published P s r
  lawful_published r t = ((published_iff r).0 t).1

-- ---- the properties themselves: some v, some j

module _ {P : Problem} {s : State} (F : Fits P s) where
  pub snake_property : (i : ℕ) → ((v : ℕ) × T (snake P s i v)) ↔ DeSnake P s i
  snake_property i = (
    λ x. let y = (snake_published F i x.0).0 x.1 in (y.0, (x.0, y.1)),
    λ x. (x.1.0, (snake_published F i x.1.0).1 (x.0, x.1.1)),
  )

  pub triangle_property : (i : ℕ) → ((j : ℕ) × T (triangle P s i j)) ↔ TriangleProperty P s i
  triangle_property i = (
    λ x. let y = (triangle_published F i x.0).0 x.1 in (y.0, (x.0, y.1)),
    λ x. (x.1.0, (triangle_published F i x.1.0).1 (x.0, x.1.1)),
  )

-- ---- every record of a trace

module _ {P : Problem} {s : State} (F : Fits P s) where
  -- every record of a lawful trace, whoever wrote it, is published in the state that it was taken in
  pub trace_published : (t : List Record) → T (lawful_trace P s t) → (before : List Record) (r : Record) (rest : List Record) → t ≡ before ++ (r ∷ rest) → Published P (after_trace P s before) r
  trace_published t h before r rest e = lawful_published (trace_fits P F before) r (trace_at P s t h before r rest e)

  -- so is every record of a run
  pub run_published : (before : List Record) (r : Record) (rest : List Record) → run P s ≡ before ++ (r ∷ rest) → Published P (after_trace P s before) r
  run_published = trace_published (run P s) (run_lawful P s)

-- ---- what a step does to the instance

module _ {P : Problem} {s : State} (F : Fits P s) where
  pub eliminate_published : (i : ℕ) → VariableEliminated P s i (eliminate P s i)
  eliminate_published i =
      record {
        variables = eliminate_active P s i;
        domains = λ j w d. (λ o. let x = (eliminate_live P s F i j w).0 o in (x.0, x.1.1), λ x. (eliminate_live P s F i j w).1 (x.0, (d, x.1)));
        deleted = λ w o. ((eliminate_live P s F i i w).0 o).1.0 refl;
        constraints = λ j v k w. (
          λ x. let y = (eliminate_live P s F i j v).0 x.3 in
              let z = (eliminate_live P s F i k w).0 x.4 in
              ((F.live_active j v y.0, F.live_active k w z.0, x.2, y.0, z.0, x.5), y.1.0, z.1.0, y.1.1, z.1.1),
          λ x. (
            (eliminate_active P s i j).1 (x.0.0, x.1),
            (eliminate_active P s i k).1 (x.0.1, x.2),
            x.0.2,
            (eliminate_live P s F i j v).1 (x.0.3, (x.1, x.3)),
            (eliminate_live P s F i k w).1 (x.0.4, (x.2, x.4)),
            x.0.5,
          ),
        );
      }

  remove_published : (i b : ℕ) → ValueEliminated s i b (remove P s i b)
  unfolding remove
  remove_published i b =
      record {
        variables = λ j. (λ h. h, λ h. h);
        domain = λ w. (
          λ o. let x = (remove_live P s i b i w).0 o in (x.0, λ e. x.1 (refl, e)),
          λ x. (remove_live P s i b i w).1 (x.0, λ e. x.1 e.1),
        );
        domains = λ j w d. (λ o. ((remove_live P s i b j w).0 o).0, λ o. (remove_live P s i b j w).1 (o, λ e. d e.0));
      }

  -- what the step of a record does is what the papers have it do
  effect_published : (x : Effect) → EffectPublished P s x (after_effect P s x)
  effect_published (Removes i b) = remove_published i b
  effect_published (Eliminates i) = eliminate_published i

  pub after_published : (r : Record) → StepPublished P s r (after P s r)
  unfolding after
  after_published r = effect_published (effect_of r)

  -- and no other state is what the papers describe
  variable_only : (i : ℕ) (q : State) → VariableEliminated P s i q → q ≡ eliminate P s i
  variable_only i q E = λ t. record { active = actives t; live = lives t }
    where
      actives : q.active ≡ (eliminate P s i).active
      actives = fun_ext λ j. T_ext (λ h. (eliminate_active P s i j).1 ((E.variables j).0 h), λ h. (E.variables j).1 ((eliminate_active P s i j).0 h))

      at : (j w : ℕ) → (j ≡ i) ⊎ (j ≢ i) → Live q j w ↔ Live (eliminate P s i) j w
      at j w (inl e) = (λ o. absurd (E.deleted w (subst (λ (k : ℕ). Live q k w) e o)), λ o. absurd (((eliminate_live P s F i j w).0 o).1.0 e))
      at j w (inr d) = (
        λ o. ((eliminate_published i).domains j w d).1 ((E.domains j w d).0 o),
        λ o. (E.domains j w d).1 (((eliminate_published i).domains j w d).0 o),
      )

      lives : q.live ≡ (eliminate P s i).live
      lives = fun_ext λ j. fun_ext λ w. T_ext (at j w (eq_dec j i))

  value_only : (i b : ℕ) (q : State) → ValueEliminated s i b q → q ≡ remove P s i b
  value_only i b q E = λ t. record { active = actives t; live = lives t }
    where
      R : ValueEliminated s i b (remove P s i b)
      R = remove_published i b

      actives : q.active ≡ (remove P s i b).active
      actives = fun_ext λ j. T_ext (λ h. (R.variables j).1 ((E.variables j).0 h), λ h. (E.variables j).1 ((R.variables j).0 h))

      at : (j w : ℕ) → (j ≡ i) ⊎ (j ≢ i) → Live q j w ↔ Live (remove P s i b) j w
      at j w (inl e) = rw e (λ o. (R.domain w).1 ((E.domain w).0 o), λ o. (E.domain w).1 ((R.domain w).0 o))
      at j w (inr d) = (λ o. (R.domains j w d).1 ((E.domains j w d).0 o), λ o. (E.domains j w d).1 ((R.domains j w d).0 o))

      lives : q.live ≡ (remove P s i b).live
      lives = fun_ext λ j. fun_ext λ w. T_ext (at j w (eq_dec j i))

  effect_only : (x : Effect) (q : State) → EffectPublished P s x q → q ≡ after_effect P s x
  effect_only (Removes i b) q E = value_only i b q E
  effect_only (Eliminates i) q E = variable_only i q E

  pub after_only : (r : Record) (q : State) → StepPublished P s r q → q ≡ after P s r
  unfolding after
  after_only r = effect_only (effect_of r)
