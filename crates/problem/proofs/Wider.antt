-- The rulebook after request Four against the one before it. Its slide is wider, so what was lawful is lawful; and a run goes as it went, to
-- its end, and from there on only by a slide that was not lawful. Assumes nothing.
use Rattle.std.specs.Prelude.{Option, Some, None}
use mathlib.Core.Path.{◌≡◌, refl, ap, subst, ◌∙◌}
use mathlib.Core.List.{List, [], ◌∷◌, ◌++◌}
use mathlib.Core.Logic.{◌⊎◌, inl, inr}
use Prim.Native.Nat.{ℕ, zero, suc, ◌<◌}
use native.Mathlib.Nat.{not-suc-le-zero}
use native.Mathlib.Omega.{arith}
use lib.Dec.{T}
use Rattle.problem.specs.Problem.{Problem, State, snake_substitution, substitution_spares, substitution_keeps, live_count}
use Rattle.problem.specs.Rulebook.{before_four, after_four}
use Rattle.problem.specs.Run.{holds_by, lawful_by, after, lawful_trace_by, after_trace, kind_bound, next_of_kind_by, next_by, run_from_by, run_by}
use Rattle.problem.specs.declared.Record.{Record}
use Rattle.problem.specs.declared.Record.TheVariants.{Unsupported, Snake, Triangle, Neighbourhood, SnakeSubstitution}
use Rattle.problem.proofs.Reflect.{snake_substitution_iff}
use Rattle.problem.specs.Sentences.{Fits}
use Rattle.problem.proofs.Trace.{after_fits, trace_fits, step_by_falls, lawful_by_iff, trace_by_iff}
use Rattle.problem.proofs.Run.{next_by_open, next_by_lawful, run_by_step, run_by_stop, run_by_complete, run_by_enough}
use Rattle.problem.proofs.Search.{first_at}
use Rattle.problem.proofs.Narrow.{next_early}

-- ---- what was lawful is lawful

module _ {P : Problem} {s : State} (F : Fits P s) where
  -- the slide of before is a slide: it asks for a cover at i besides
  pub substitution_widens : (i b a : ℕ) → T (snake_substitution P s substitution_keeps i b a) → T (snake_substitution P s substitution_spares i b a)
  substitution_widens i b a h =
      let x = (snake_substitution_iff F substitution_keeps i b a).0 h in
      (snake_substitution_iff F substitution_spares i b a).1
      (x.0, (x.1.0, (x.1.1.0, λ k hk dk d od q. let y = x.1.1.1 k hk dk d od q in (y.0, y.1, (y.2.0, λ l hl dl n. y.2.1 l hl dl (λ z. z.0))))))

  holds_widens : (r : Record) → T (holds_by before_four P s r) → T (holds_by after_four P s r)
  unfolding holds_by
  holds_widens (Unsupported i b k) t = t
  holds_widens (Snake i v) t = t
  holds_widens (Triangle i j) t = t
  holds_widens (Neighbourhood i b a) t = t
  holds_widens (SnakeSubstitution i b a) t = substitution_widens i b a t

  pub lawful_widens : (r : Record) → T (lawful_by before_four P s r) → T (lawful_by after_four P s r)
  lawful_widens r t = let x = (lawful_by_iff before_four P s r).0 t in (lawful_by_iff after_four P s r).1 (x.0, holds_widens r x.1)

  -- where no record was lawful, one that is lawful is a slide
  added_substitution : ((r : Record) → T (lawful_by before_four P s r) → ⊥) → (r : Record) → T (lawful_by after_four P s r) → (i : ℕ) × (b : ℕ) × (a : ℕ) × (r ≡ SnakeSubstitution i b a)
  unfolding holds_by
  added_substitution n r t = go r ((lawful_by_iff after_four P s r).0 t).1
    where
      no : (r : Record) → T (holds_by before_four P s r) → ⊥
      no x h = n x ((lawful_by_iff before_four P s x).1 (((lawful_by_iff after_four P s r).0 t).0, h))

      go : (r : Record) → T (holds_by after_four P s r) → (i : ℕ) × (b : ℕ) × (a : ℕ) × (r ≡ SnakeSubstitution i b a)
      go (Unsupported i b k) h = absurd (no (Unsupported i b k) h)
      go (Snake i v) h = absurd (no (Snake i v) h)
      go (Triangle i j) h = absurd (no (Triangle i j) h)
      go (Neighbourhood i b a) h = absurd (no (Neighbourhood i b a) h)
      go (SnakeSubstitution i b a) h = (i, b, a, refl)

-- every trace that was lawful is lawful
pub trace_stays : {P : Problem} {s : State} → Fits P s → (t : List Record) → T (lawful_trace_by before_four P s t) → T (lawful_trace_by after_four P s t)
unfolding lawful_trace_by
trace_stays F [] h = tt
trace_stays {P} {s} F (r ∷ t) h = let x = (trace_by_iff before_four P s r t).0 h in (trace_by_iff after_four P s r t).1 (lawful_widens F r x.0, trace_stays {s = after P s r} (after_fits P F r) t x.1)

-- ---- the run goes as it went

module _ (P : Problem) where
  -- the kinds before the slide do not read its word
  kinds_alike : (s : State) (k : ℕ) → k < 5 → next_of_kind_by after_four P s k ≡ next_of_kind_by before_four P s k
  unfolding next_of_kind_by
  kinds_alike s zero l = refl
  kinds_alike s (suc zero) l = refl
  kinds_alike s (suc (suc zero)) l = refl
  kinds_alike s (suc (suc (suc zero))) l = refl
  kinds_alike s (suc (suc (suc (suc zero)))) l = refl
  kinds_alike s (suc (suc (suc (suc (suc k))))) l = absurd (omega arith)

  -- the step that was next is next
  pub next_stays : {s : State} → Fits P s → (r : Record) → next_by before_four P s ≡ Some r → next_by after_four P s ≡ Some r
  next_stays {s} F r e =
      let x = next_early P F r e in
      let k = x.1 in
      next_by_open after_four P s x.0 ∙ first_at kind_bound (next_of_kind_by after_four P s) k.0 r (omega (arith, k.1)) (λ j l. kinds_alike s j (omega (arith, k.1)) ∙ k.3 j l) (kinds_alike s k.0 k.1 ∙ k.2)

  -- the state at which the run by the rulebook of before ends
  abbrev pub end_before : State → State
  end_before s = after_trace P s (run_by before_four P s)

  run_whole : (f : ℕ) (s : State) → Fits P s → live_count P s < f → run_from_by after_four f P s ≡ run_by after_four P s
  unfolding run_by
  run_whole f s F h = run_by_enough after_four P f (suc (live_count P s)) s F h (omega arith)

  -- the run is the run of before, and the run from the state reached
  extends_from : (f : ℕ) (s : State) → Fits P s → live_count P s < f → run_from_by after_four f P s ≡ run_from_by before_four f P s ++ run_by after_four P (after_trace P s (run_from_by before_four f P s))
  unfolding after_trace
  extends_from zero s F h = absurd (not-suc-le-zero h)
  extends_from (suc f) s F h = go (next_by before_four P s) refl (λ q. extends_from f q)
    where
      go : (x : Option Record) → next_by before_four P s ≡ x
          → ((q : State) → Fits P q → live_count P q < f → run_from_by after_four f P q ≡ run_from_by before_four f P q ++ run_by after_four P (after_trace P q (run_from_by before_four f P q)))
          → run_from_by after_four (suc f) P s ≡ run_from_by before_four (suc f) P s ++ run_by after_four P (after_trace P s (run_from_by before_four (suc f) P s))
      go None e ih = rw (run_by_stop before_four P (suc f) s e) (run_whole (suc f) s F h)
      go (Some r) e ih =
          let n = next_stays F r e in
          run_by_step after_four P f s r n ∙ rw (run_by_step before_four P f s r e) (ap (λ (t : List Record). r ∷ t) (ih (after P s r) (after_fits P F r) (omega (arith, step_by_falls after_four P F r (next_by_lawful after_four P s r n)))))

  -- what is added: nothing, or first a slide that is lawful and was not, in the state reached
  abbrev pub Added : State → List Record → Type 0
  Added s u =
      (u ≡ [])
      ⊎ ((i : ℕ) × (b : ℕ) × (a : ℕ) × (v : List Record) × (u ≡ SnakeSubstitution i b a ∷ v) × T (lawful_by after_four P s (SnakeSubstitution i b a)) × (T (lawful_by before_four P s (SnakeSubstitution i b a)) → ⊥))

  -- where no record was lawful
  added_here : {s : State} → Fits P s → ((r : Record) → T (lawful_by before_four P s r) → ⊥) → Added s (run_by after_four P s)
  unfolding run_by
  added_here {s} F n = go (next_by after_four P s) refl
    where
      go : (x : Option Record) → next_by after_four P s ≡ x → Added s (run_by after_four P s)
      go None e = inl (run_by_stop after_four P (suc (live_count P s)) s e)
      go (Some r) e =
          let l = next_by_lawful after_four P s r e in
          let x = added_substitution F n r l in
          let q = x.3 in
          inr (x.0, x.1, x.2, run_from_by after_four (live_count P s) P (after P s r), run_by_step after_four P (live_count P s) s r e ∙ ap (λ (y : Record). y ∷ run_from_by after_four (live_count P s) P (after P s r)) q, subst (λ (y : Record). T (lawful_by after_four P s y)) q l, n _)

  -- the run after request Four is the run before it, and then nothing or a slide that was not lawful there: "Traces
  -- change only from the first added slide on"
  pub run_extends : {s : State} → Fits P s → (run_by after_four P s ≡ run_by before_four P s ++ run_by after_four P (end_before s)) × Added (end_before s) (run_by after_four P (end_before s))
  unfolding run_by
  run_extends {s} F = (extends_from (suc (live_count P s)) s F (omega arith), added_here (trace_fits P F (run_by before_four P s)) (run_by_complete before_four P F))
