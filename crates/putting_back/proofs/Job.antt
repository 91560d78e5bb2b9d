-- After the trace is checked. Assumes nothing.
use mathlib.Core.Path.{◌≡◌, sym, ap, ◌∙◌, subst}
use mathlib.Core.Bool.{Bool, true, false}
use mathlib.Core.List.{List}
use Prim.Native.Nat.{ℕ}
use lib.ListN.{length}
use Rattle.bounded.specs.Table.{tab}
use Rattle.problem.specs.Problem.{Problem, State, full}
use Rattle.problem.specs.Run.{after_trace}
use Rattle.problem.specs.PutBack.{undo_trace, plan_of}
use Rattle.problem.specs.Held.{held, RowTable}
use Rattle.problem.specs.Masks.{state_of, masks_of}
use Rattle.problem.specs.declared.Masks.{Masks}
use Rattle.problem.specs.declared.Record.{Record}
use Rattle.problem.proofs.Reflect.{full_fits}
use Rattle.problem.specs.Sentences.{Fits, Solution}
use Rattle.problem.proofs.Trace.{trace_fits}
use Rattle.put_back.specs.PutBack.{Checked, Lawful as Records, plan_fits, check_trace, PutBackResult, put_back_refused, put_back_done, after_check}
use Rattle.std.specs.Prelude.{Ok}
use Rattle.put_back.specs.declared.PutBackRefusal.TheVariants.{Plan}
use Rattle.held.specs.Ready.{Ready}
use Rattle.held.proofs.After.{state_held, ready_held}
use Rattle.replay.specs.Walk.{checked_from, walk_ended, lawful_end}
use Rattle.undo.specs.Undone.{UndoableFrom, undone_by}
use Rattle.held.proofs.First.{ready_full}
use Rattle.replay.proofs.Walk.{ended_lawful, front_lawful}
use Rattle.putting_back.proofs.Plan.{plan_solves}

-- ---- after the trace

abbrev planned : Problem → List Record → List ℕ → List ℕ → Bool → PutBackResult
planned P ts p b x = elim x [ true ↦ put_back_done P ts p | false ↦ put_back_refused Plan b ]

-- a table, and a trace over it that is lawful and leads to the state of `last`
module _ {t : List ℕ} (R : RowTable t) (trace plan out : List ℕ) (last : Masks) (e : walk_ended (held t) (full (held t)) (check_trace (held t) trace) ≡ lawful_end last) where
  found : (ts : List Record) × (check_trace (held t) trace ≡ Records ts) × (last ≡ masks_of (after_trace (held t) (full (held t)) ts))
  found = ended_lawful (held t) (full (held t)) (check_trace (held t) trace) last e

  abbrev records : List Record
  records = found.0

  last_fits : Fits (held t) (after_trace (held t) (full (held t)) records)
  last_fits = trace_fits (held t) (full_fits (held t)) records

  pub ready_last : Ready t last
  ready_last = subst (Ready t) (sym found.2) (ready_held R last_fits)

  says_last : state_of last ≡ after_trace (held t) (full (held t)) records
  says_last = ap state_of found.2 ∙ state_held R last_fits

  after_plan : (x : Bool) → plan_fits (held t) (state_of last) plan ≡ x → after_check (held t) plan out (check_trace (held t) trace) ≡ planned (held t) records plan out x
  after_plan x h =
      ap (after_check (held t) plan out) found.1
      ∙ ap (planned (held t) records plan out) (ap (λ (s : State). plan_fits (held t) s plan) (sym says_last) ∙ h)

  pub plan_refused : plan_fits (held t) (state_of last) plan ≡ false → put_back_refused Plan out ≡ after_check (held t) plan out (check_trace (held t) trace)
  plan_refused h = sym (after_plan false h)

  module _ (first : Masks) (ef : first ≡ masks_of (full (held t))) (h : plan_fits (held t) (state_of last) plan ≡ true) where
    says_first : state_of first ≡ full (held t)
    says_first = (ready_full R first ef).1

    checks_first : checked_from (held t) trace (state_of first) 0 1 ≡ Records records
    checks_first = ap (λ (s : State). checked_from (held t) trace s 0 1) says_first ∙ front_lawful (held t) trace records found.1

    -- the plan in the result is undone from the first state
    pub undoable_all : (xs : List ℕ) → xs ≡ plan → length plan ≡ (held t).n → UndoableFrom t trace first 1 xs
    undoable_all xs ex n =
        subst (UndoableFrom t trace first 1) (sym ex)
        (record {
          long = n;
          records = records;
          checks = checks_first;
          solved =
              subst (λ (s : State). Solution (held t) (after_trace (held t) s records) (plan_of plan)) (sym says_first)
              (plan_solves last_fits plan (ap (λ (s : State). plan_fits (held t) s plan) (sym says_last) ∙ h));
        })

    pub put_done : (xs ys : List ℕ) → xs ≡ plan → ys ≡ undone_by (held t) (state_of first) (checked_from (held t) trace (state_of first) 0 1) xs
        → ((Ok tt) ≡ (after_check (held t) plan out (check_trace (held t) trace)).answer) × (ys ≡ (after_check (held t) plan out (check_trace (held t) trace)).result)
    put_done xs ys ex ey =
        let g = sym (after_plan true h) in (
          ap (λ (r : PutBackResult). r.answer) g,
          ey ∙ ap (λ (s : State). undone_by (held t) s (checked_from (held t) trace s 0 1) xs) says_first
              ∙ ap (λ (c : Checked). undone_by (held t) (full (held t)) c xs) (front_lawful (held t) trace records found.1)
              ∙ ap (λ (z : List ℕ). tab (held t).n (undo_trace (held t) (full (held t)) records (plan_of z))) ex
              ∙ ap (λ (r : PutBackResult). r.result) g,
        )
