-- What a step changes: states only shrink, and the next step takes values from one variable only. Assumes nothing.
use Rattle.std.specs.Prelude.{Some, None}
use mathlib.Core.Path.{◌≡◌, refl, sym, ◌∙◌, subst}
use mathlib.Core.Logic.{◌⊎◌, inl, inr, ◌≢◌}
use Prim.Native.Nat.{ℕ, zero, suc, ◌<◌}
use native.Mathlib.Omega.{arith}
use lib.Dec.{T}
use Rattle.bounded.proofs.Truth.{T_dec, T_true, eq_dec}
use Rattle.problem.specs.Problem.{Problem, State, none_empty, any_live, unsupported, remove, eliminate}
use Rattle.problem.specs.Run.{after_effect, after, first, next_unsupported, kind_bound, next_of_kind_by, next_of_kind, next}
use Rattle.problem.specs.Record.{kind_of, effect_of, variable_of}
use Rattle.problem.specs.declared.Record.{Record}
use Rattle.problem.specs.declared.Record.TheVariants.{Unsupported}
use Rattle.problem.specs.declared.Effect.{Effect}
use Rattle.problem.specs.declared.Effect.TheVariants.{Removes, Eliminates}
use Rattle.problem.proofs.Apart.{eliminates_later}
use Rattle.problem.proofs.Reflect.{turn, any_live_iff, unsupported_iff, remove_live, eliminate_active, eliminate_live}
use Rattle.problem.specs.Sentences.{Active, Live, Allowed, Fits, ArcConsistent, Neighbourhood as Covers}
use Rattle.problem.proofs.Trace.{Present, lawful_iff, holds_present}
use Rattle.problem.proofs.Run.{never, first_each, first_found, first_where, step_if_found, step_if_none, next_open, next_lawful}
use Rattle.rests.specs.Rests.{Below, Kept, changed_by, Elsewhere}

-- ---- states shrink

module _ (P : Problem) (s : State) where
  pub remove_below : (i b : ℕ) → Below (remove P s i b) s
  unfolding remove
  remove_below i b = record { active = λ l h. h; live = λ l c o. ((remove_live P s i b l c).0 o).0 }

  pub remove_keeps : (i b : ℕ) → Kept s (remove P s i b) (Elsewhere i)
  remove_keeps i b l c d o = (remove_live P s i b l c).1 (o, λ e. d e.0)

module _ {P : Problem} {s : State} (F : Fits P s) where
  pub eliminate_below : (i : ℕ) → Below (eliminate P s i) s
  eliminate_below i = record { active = λ l h. ((eliminate_active P s i l).0 h).0; live = λ l c o. ((eliminate_live P s F i l c).0 o).0 }

  effect_below : (x : Effect) → Below (after_effect P s x) s
  effect_below (Removes i b) = remove_below P s i b
  effect_below (Eliminates i) = eliminate_below i

  pub after_below : (r : Record) → Below (after P s r) s
  unfolding after
  after_below r = effect_below (effect_of r)

  -- in an arc consistent state every value elsewhere has a support at i
  pub eliminate_keeps : ArcConsistent P s → (i : ℕ) → Active s i → Kept s (eliminate P s i) (Elsewhere i)
  eliminate_keeps C i h l c d o = (eliminate_live P s F i l c).1 (o, (d, C l c o i h (λ e. d (sym e))))

  -- ---- the state is arc consistent where a later kind is taken

  -- where kind 1 finds nothing every value has its supports
  pub arc_of_none : next_unsupported P s ≡ None → ArcConsistent P s
  unfolding next_unsupported
  arc_of_none e i a o j h d = go (T_dec (any_live P s j (λ b. P.allowed i a j b)))
    where
      nowhere : ((b : ℕ) → Live s j b → Allowed P i a j b → ⊥) → ⊥
      nowhere n =
          step_if_none (unsupported P s i a j) (Unsupported i a j)
          (first_each _ _ (first_each _ _ (first_each _ _ e i (F.active_lt i (F.live_active i a o))) a (F.live_lt i a o)) j (F.active_lt j h))
          ((unsupported_iff F i a j).1 (o, h, d, n))

      go : T (any_live P s j (λ b. P.allowed i a j b)) ⊎ (T (any_live P s j (λ b. P.allowed i a j b)) → ⊥) → (b : ℕ) × Live s j b × Allowed P i a j b
      go (inl t) = (any_live_iff F j (λ b. P.allowed i a j b)).0 t
      go (inr n) = absurd (nowhere (λ b o t. n ((any_live_iff F j (λ b. P.allowed i a j b)).1 (b, o, t))))

  -- what b supported, a supports
  pub cover_arc : ArcConsistent P s → (i b a : ℕ) → Covers P s i b a → ArcConsistent P (remove P s i b)
  unfolding remove
  cover_arc C i b a N j x o k h d = go (C j x on k h d) (eq_dec k i) (eq_dec (C j x on k h d).0 b)
    where
      on : Live s j x
      on = ((remove_live P s i b j x).0 o).0

      go : (y : (y : ℕ) × Live s k y × Allowed P j x k y) → (k ≡ i) ⊎ (k ≢ i) → (y.0 ≡ b) ⊎ (y.0 ≢ b) → (y : ℕ) × Live (remove P s i b) k y × Allowed P j x k y
      go y (inr n) m = (y.0, remove_keeps P s i b k y.0 n y.1, y.2)
      go y (inl e) (inr n) = (y.0, (remove_live P s i b k y.0).1 (y.1, λ f. n f.1), y.2)
      go y (inl e) (inl f) =
          let t : Allowed P i b j x = turn P j x i b (subst (λ (z : ℕ). Allowed P j x i z) f (subst (λ (k : ℕ). Allowed P j x k y.0) e y.2)) in
          let u : Allowed P j x i a = turn P i a j x (N.1.1.1 j (F.live_active j x on) (λ g. d (e ∙ sym g)) x on t) in
          (a, (remove_live P s i b k a).1 (subst (λ (k : ℕ). Live s k a) (sym e) N.1.0, λ g. N.1.1.0 g.1), subst (λ (k : ℕ). Allowed P j x k a) (sym e) u)

  -- kind 1 is the first that is searched
  pub later_arc : (r : Record) → next P s ≡ Some r → 1 < kind_of r → ArcConsistent P s
  unfolding next_of_kind_by next_unsupported
  later_arc r e l = let w = first_where kind_bound (next_of_kind P s) r (sym begun ∙ e) in by w.0 w.2 w.3
    where
      begun : next P s ≡ first kind_bound (next_of_kind P s)
      begun = next_open P s (T_true (none_empty P s) ((lawful_iff P s r).0 (next_lawful P s r e)).0)

      OfFirst : Record → Type 0
      OfFirst x = kind_of x ≡ 1

      first_kind : (x : Record) → next_unsupported P s ≡ Some x → kind_of x ≡ 1
      first_kind = first_found OfFirst _ _ (λ i. first_found OfFirst _ _ (λ b. first_found OfFirst _ _ (λ k. step_if_found OfFirst (unsupported P s i b k) (Unsupported i b k) (λ t. refl))))

      by : (k : ℕ) → next_of_kind P s k ≡ Some r → ((j : ℕ) → j < k → next_of_kind P s j ≡ None) → ArcConsistent P s
      by zero f n = absurd (never f)
      by (suc zero) f n = absurd (omega (arith, first_kind r f))
      by (suc (suc k)) f n = arc_of_none (n 1 (omega arith))

  -- the next step takes no value from another variable: a variable is eliminated in an arc consistent state only
  pub step_keeps : (r : Record) → next P s ≡ Some r → Kept s (after P s r) (Elsewhere (changed_by r))
  unfolding after
  step_keeps r e = by (effect_of r) (holds_present P F r ((lawful_iff P s r).0 (next_lawful P s r e)).1) (λ i h. later_arc r e (eliminates_later r i h))
    where
      by : (x : Effect) → Present s x → ((i : ℕ) → x ≡ Eliminates i → ArcConsistent P s) → Kept s (after_effect P s x) (Elsewhere (variable_of x))
      by (Removes i b) h C = remove_keeps P s i b
      by (Eliminates i) h C = eliminate_keeps (C i refl) i h
