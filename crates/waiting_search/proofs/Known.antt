-- What is known of a state, its unsupported values and what the search waits for, brought up to the next step. Assumes nothing.
use Rattle.std.specs.Prelude.{Some}
use mathlib.Core.Path.{◌≡◌, sym, subst}
use mathlib.Core.List.{List}
use Prim.Native.Nat.{ℕ, ◌≤◌, ◌<◌}
use native.Mathlib.Omega.{arith}
use lib.Dec.{T}
use Rattle.bounded.proofs.Truth.{T_true}
use Rattle.problem.specs.Problem.{Problem, State, none_empty, substitution_spares, remove, eliminate}
use Rattle.problem.specs.Run.{holds_by, holds, after_effect, after, next}
use Rattle.problem.specs.Record.{kind_of, effect_of}
use Rattle.problem.specs.Held.{held}
use Rattle.problem.specs.Masks.{state_of, masks_of}
use Rattle.problem.specs.declared.Masks.{Masks}
use Rattle.problem.specs.declared.Effect.{Effect}
use Rattle.problem.specs.declared.Effect.TheVariants.{Removes, Eliminates}
use Rattle.problem.specs.declared.Record.{Record}
use Rattle.problem.specs.declared.Record.TheVariants.{Unsupported, Snake, Triangle, Neighbourhood, SnakeSubstitution}
use Rattle.problem.proofs.Reflect.{unsupported_iff, snake_iff, triangle_iff, neighbourhood_iff, snake_substitution_iff, eliminate_active, eliminate_live, remove_fits, eliminate_fits}
use Rattle.problem.specs.Sentences.{Active, Live, Fits, ArcConsistent}
use Rattle.problem.proofs.Trace.{Present, lawful_iff, holds_present}
use Rattle.problem.proofs.Run.{next_lawful}
use Rattle.waiting.specs.Waiting.{Waits, Woken}
use Rattle.rests.proofs.Changes.{remove_below, eliminate_below, eliminate_keeps, cover_arc, later_arc}
use Rattle.waiting.proofs.Waiting.{waits_removed, waits_eliminated}
use Rattle.held.specs.Ready.{Ready}
use Rattle.held.proofs.Laws.{live_value, active_32}
use Rattle.steps.proofs.States.{after_state}
use Rattle.waiting_unsupported.specs.Words.{AllUnsupported, Mended}
use Rattle.waiting_unsupported.proofs.Mended.{unsupported_mended, unsupported_below}
use Rattle.waiting_search.specs.Known.{ValueWoken, EffectMendable, Mendable, MendedBy}

module _ {P : Problem} {s : State} (F : Fits P s) where
  -- where every value has its supports, it has them at the variables that are left
  eliminate_arc : ArcConsistent P s → (i : ℕ) → Active s i → ArcConsistent P (eliminate P s i)
  eliminate_arc C i h j a o k g d =
      let x = (eliminate_active P s i k).0 g in
      let y = C j a ((eliminate_live P s F i j a).0 o).0 k x.0 d in
      (y.0, eliminate_keeps F C i h k y.0 x.1 y.1, y.2)

module _ {P : Problem} {s : State} (F : Fits P s) (r : Record) (e : next P s ≡ Some r) where
  -- no active variable is emptied, and the rule of the step holds
  pub step_holds : T (none_empty P s) × T (holds P s r)
  step_holds = (lawful_iff P s r).0 (next_lawful P s r e)

  -- y is the state after the step
  pub known_after : {y : State} {c d p w q x : List ℕ} → P.n ≤ 32 → AllUnsupported P s c → Waits P s p w → y ≡ after P s r → MendedBy P y r c d p w q x → AllUnsupported P (after P s r) d × Waits P (after P s r) q x
  unfolding after holds_by
  known_after {c = c} {d} {p} {w} {q} {x} few B H is M = by r step_holds.1 (later_arc F r e) (subst (λ (y : State). MendedBy P y r c d p w q x) is M)
    where
      small : (i : ℕ) → Active s i → i < 32
      small i h = omega (arith, F.active_lt i h)

      gone : (i b : ℕ) → Live s i b → ValueWoken i b p w q x → Waits P (remove P s i b) q x
      gone i b o K = waits_removed H i b (small i (F.live_active i b o)) K.triangles K.woken

      mended : (i b : ℕ) → Live s i b → Mended P (remove P s i b) i b c d × ValueWoken i b p w q x → AllUnsupported P (remove P s i b) d × Waits P (remove P s i b) q x
      mended i b o M = (unsupported_mended F B i b o M.0, gone i b o M.1)

      out : ArcConsistent P s → (i : ℕ) → Active s i → (d ≡ c) × Woken i p w q x → AllUnsupported P (eliminate P s i) d × Waits P (eliminate P s i) q x
      out C i h M = (
        subst (AllUnsupported P (eliminate P s i)) (sym M.0) (unsupported_below F (eliminate_fits P s F i) step_holds.0 C (eliminate_arc F C i h) (eliminate_below F i).live B),
        waits_eliminated F C i (small i h) h H M.1,
      )

      by : (r : Record) → T (holds P s r) → (1 < kind_of r → ArcConsistent P s) → MendedBy P (after P s r) r c d p w q x → AllUnsupported P (after P s r) d × Waits P (after P s r) q x
      by (Unsupported i b k) t C M = mended i b ((unsupported_iff F i b k).0 t).0 M
      by (Snake i v) t C M = out (C (omega arith)) i (F.live_active i v ((snake_iff F i v).0 t).0) M
      by (Triangle i j) t C M = out (C (omega arith)) i ((triangle_iff F i j).0 t).0 M
      by (Neighbourhood i b a) t C M =
          let A = C (omega arith) in
          let N = (neighbourhood_iff F i b a).0 t in (
            subst (AllUnsupported P (remove P s i b)) (sym M.0) (unsupported_below F (remove_fits P s F i b) step_holds.0 A (cover_arc F A i b a N) (remove_below P s i b).live B),
            gone i b N.0 M.1,
          )
      by (SnakeSubstitution i b a) t C M = mended i b ((snake_substitution_iff F substitution_spares i b a).0 t).0 M

-- the fields of a record whose rule holds, in the state after its step
module _ {t : List ℕ} {m : Masks} (R : Ready t m) where
  present_mendable : (x : Effect) → Present (state_of m) x → state_of (masks_of (after_effect (held t) (state_of m) x)) ≡ after_effect (held t) (state_of m) x
      → EffectMendable t (masks_of (after_effect (held t) (state_of m) x)) x
  unfolding state_of remove
  present_mendable (Removes i b) o e = (live_value R i b o, T_true _ (subst (λ (s : State). Active s i) (sym e) (R.fits.live_active i b o)))
  present_mendable (Eliminates i) h e = active_32 R i h

  pub holds_mendable : (r : Record) → T (holds (held t) (state_of m) r) → Mendable t (masks_of (after (held t) (state_of m) r)) r
  unfolding after
  holds_mendable r h = present_mendable (effect_of r) (holds_present (held t) R.fits r h) (after_state R r)
