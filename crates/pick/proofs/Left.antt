-- What the run leaves, its first plan, and that put back. Assumes nothing.
use mathlib.Core.Path.{◌≡◌, sym, ap, ◌∙◌, subst}
use mathlib.Core.Bool.{true, false, ◌||◌}
use mathlib.Core.List.{List}
use mathlib.Core.Logic.{◌↔◌, inl, inr, ◌⊎◌}
use Prim.Native.Nat.{ℕ, ◌<◌}
use native.Mathlib.Omega.{arith}
use lib.Dec.{T, eqb}
use lib.ListN.{length, get_or-replicate}
use lib.Seq.{length-take-le, get_or-take}
use Rattle.bounded.specs.Quantifiers.{all_below}
use Rattle.bounded.proofs.Truth.{T_dec, and_iff, or_iff, eqb_iff}
use Rattle.bounded.proofs.Quantifiers.{all_iff}
use Rattle.problem.specs.Problem.{Problem, State, full}
use Rattle.problem.specs.Run.{run}
use Rattle.problem.specs.PutBack.{solves, solves_whole, plan_of}
use Rattle.problem.specs.Held.{Bounded, held, RowTable}
use Rattle.problem.specs.Masks.{state_of, masks_of}
use Rattle.problem.specs.declared.Masks.{Masks}
use Rattle.problem.proofs.Reflect.{full_fits}
use Rattle.problem.specs.Sentences.{Active, Live, Fits, Solution}
use Rattle.problem.proofs.Sound.{solves_iff, solves_whole_iff}
use Rattle.problem.proofs.Trace.{trace_fits, trace_solvable}
use Rattle.problem.proofs.Run.{run_lawful}
use Rattle.held.specs.Ready.{Ready}
use Rattle.held.proofs.After.{state_held, ready_held}
use Rattle.put_back.specs.PutBack.{PutBackResult, plan_fits, put_back_done, put_back_over}
use Rattle.first_plan.specs.First.{first_plan, NotAfter}
use Rattle.first_plan.proofs.Meaning.{first_is_plan, first_is_least, first_iff, first_keeps, first_long}
use Rattle.putting_back.proofs.Demands.{run_put_back_over}
use Rattle.pick.specs.Pick.{left_by, run_trace, blank, first_left, left_plan, plan_left}

-- some choice of settings at all is a plan of the full sheet
abbrev pub HasPlan : Problem → Type 0
HasPlan P = (q : ℕ → ℕ) × T (solves_whole P q)

pub left_fits : (P : Problem) → Fits P (left_by P)
unfolding left_by
left_fits P = trace_fits P (full_fits P) (run P (full P))

-- the lent plan afterwards, where there is a first plan and where there is none
module _ (P : Problem) (p : List ℕ) where
  pub plan_with : (first_left P).ok ≡ true → plan_left P p ≡ (put_back_over P (run_trace P) (left_plan P) p).result
  unfolding plan_left
  plan_with e = rw e

  pub plan_without : (first_left P).ok ≡ false → plan_left P p ≡ p
  unfolding plan_left
  plan_without e = rw e

-- what is said of items out does not matter, to a plan and to its place in the order
module _ (s : State) {p w : ℕ → ℕ} (same : (i : ℕ) → Active s i → w i ≡ p i) where
  solution_as : {P : Problem} → Solution P s p → Solution P s w
  solution_as A =
      record {
        live = λ i a. subst (Live s i) (sym (same i a)) (A.live i a);
        ok = λ i j a c d. rw (same i a, same j c) (A.ok i j a c d);
      }

  not_after_as : (q : ℕ → ℕ) → NotAfter s p q → NotAfter s w q
  not_after_as q (inl f) = inl (λ j a. same j a ∙ f j a)
  not_after_as q (inr (k, a, l, f)) = inr (k, a, rw (same k a) l, λ j h c. same j c ∙ f j h c)

module _ (P : Problem) (B : Bounded P) where
  -- a first plan of what is left is found exactly where the full sheet has a plan
  pub found_iff : T (first_left P).ok ↔ HasPlan P
  unfolding first_left left_by
  found_iff =
      let f = first_iff (left_fits P) blank B.few in
      let k = trace_solvable P (full_fits P) (run P (full P)) (run_lawful P (full P)) in
      (λ t. let x = k.0 (f.0 t) in (x.0, (solves_whole_iff P x.0).1 x.1), λ x. f.1 (k.1 (x.0, (solves_whole_iff P x.0).0 x.1)))

  -- the lent plan has a byte for each item
  pub left_long : length (left_plan P) ≡ P.n
  unfolding first_left
  left_long = length-take-le P.n (first_left P).plan (rw (first_long (left_fits P) blank) B.few)

  at_item : (i : ℕ) → i < P.n → plan_of (left_plan P) i ≡ plan_of (first_left P).plan i
  at_item i l = get_or-take P.n (first_left P).plan i 0 l

  at_active : (i : ℕ) → Active (left_by P) i → plan_of (left_plan P) i ≡ plan_of (first_left P).plan i
  at_active i a = at_item i ((left_fits P).active_lt i a)

  -- an item out has 255
  out_blank : (i : ℕ) → i < P.n → (Active (left_by P) i → ⊥) → plan_of (left_plan P) i ≡ 255
  unfolding first_left
  out_blank i l h = at_item i l ∙ first_keeps (left_fits P) blank i h ∙ get_or-replicate 32 i 255 0 (omega (arith, B.few))

  module _ (ok : (first_left P).ok ≡ true) where
    left_solves : Solution P (left_by P) (plan_of (left_plan P))
    unfolding first_left
    left_solves = solution_as (left_by P) at_active (first_is_plan (left_fits P) blank B.few ok)

    -- it is a plan of what is left, with 255 at the items out
    pub left_plan_lem : T (plan_fits P (left_by P) (left_plan P))
    unfolding plan_fits
    left_plan_lem =
        (and_iff (all_below P.n (λ i. (left_by P).active i || eqb (plan_of (left_plan P) i) 255)) (solves P (left_by P) (plan_of (left_plan P)))).1 (
          (all_iff P.n (λ i. (left_by P).active i || eqb (plan_of (left_plan P) i) 255)).1 (λ i l. (or_iff ((left_by P).active i) (eqb (plan_of (left_plan P) i) 255)).1 (each i l (T_dec ((left_by P).active i)))),
          (solves_iff (left_fits P) (plan_of (left_plan P))).1 left_solves,
        )
      where
        each : (i : ℕ) → i < P.n → Active (left_by P) i ⊎ (Active (left_by P) i → ⊥) → Active (left_by P) i ⊎ T (eqb (plan_of (left_plan P) i) 255)
        each i l (inl a) = inl a
        each i l (inr h) = inr ((eqb_iff (plan_of (left_plan P) i) 255).1 (out_blank i l h))

    -- no plan of what is left comes before it
    pub left_least : (q : ℕ → ℕ) → T (solves P (left_by P) q) → NotAfter (left_by P) (plan_of (left_plan P)) q
    unfolding first_left
    left_least q t = not_after_as (left_by P) at_active q (first_is_least (left_fits P) blank B.few q ((solves_iff (left_fits P) q).0 t))

    -- putting back takes it, with the run's own trace
    pub left_back : (p : List ℕ) → length p ≡ P.n → put_back_over P (run_trace P) (left_plan P) p ≡ put_back_done P (run P (full P)) (left_plan P)
    unfolding left_by
    left_back p l = run_put_back_over P (left_plan P) p left_long l left_plan_lem

    -- "what they are before the call is never read": with other bytes lent the same plan comes
    pub plan_not_read : (p q : List ℕ) → length p ≡ P.n → length q ≡ P.n → plan_left P p ≡ plan_left P q
    plan_not_read p q l m = plan_with P p ok ∙ ap (λ (x : PutBackResult). x.result) (left_back p l ∙ sym (left_back q m)) ∙ sym (plan_with P q ok)

-- ---- over a table

module _ {t : List ℕ} (R : RowTable t) {last : Masks} (is : last ≡ masks_of (left_by (held t))) where
  pub left_ready : Ready t last
  left_ready = subst (Ready t) (sym is) (ready_held R (left_fits (held t)))

  -- the first plan of the state that the run answered is that of what it left
  pub left_found : first_plan (held t) (state_of last) blank ≡ first_left (held t)
  unfolding first_left
  left_found = ap (λ (s : State). first_plan (held t) s blank) (ap state_of is ∙ state_held R (left_fits (held t)))
