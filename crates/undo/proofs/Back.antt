-- A trace undone from a place on: what the first record and the later ones need, and what they leave. Assumes nothing.
use mathlib.Core.Path.{◌≡◌, sym, ap, ◌∙◌, subst}
use mathlib.Core.Bool.{true}
use mathlib.Core.List.{List, ◌∷◌}
use Prim.Native.Nat.{ℕ}
use lib.Dec.{T}
use lib.ListN.{length}
use Rattle.bounded.specs.Table.{tab}
use Rattle.bounded.proofs.Truth.{T_of}
use Rattle.bounded.proofs.Table.{length_tab}
use Rattle.problem.specs.Problem.{Problem, State}
use Rattle.problem.specs.Run.{holds, lawful, after, after_trace}
use Rattle.problem.specs.PutBack.{undo, undo_trace, plan_of}
use Rattle.problem.specs.Held.{held}
use Rattle.problem.specs.Masks.{state_of, masks_of}
use Rattle.problem.specs.declared.Masks.{Masks}
use Rattle.problem.specs.declared.Record.{Record}
use Rattle.problem.specs.Sentences.{Solution}
use Rattle.problem.proofs.Trace.{lawful_iff}
use Rattle.trace.specs.Trace.{record_at}
use Rattle.put_back.specs.PutBack.{Checked, Lawful as Records}
use Rattle.trace.specs.declared.RecordRead.TheVariants as record·
use Rattle.held.specs.Ready.{Ready}
use Rattle.replay.specs.Walk.{checked_from}
use Rattle.undo.specs.Undone.{Undoable, UndoableFrom, undone_by}
use Rattle.replay.proofs.Range.{step_on}
use Rattle.replay.proofs.Walk.{checked_end, checked_malformed, checked_trace, first_lawful}
use Rattle.undo.proofs.Undo.{tab_back, later_solved, all_undone}

-- nothing is left to undo
pub undone_end : (P : Problem) (trace : List ℕ) (s : State) (p : ℕ) (xs : List ℕ) → length xs ≡ P.n → record_at trace p ≡ record·.End → xs ≡ undone_by P s (checked_from P trace s 0 p) xs
unfolding undo_trace
undone_end P trace s p xs n e = tab_back P.n xs n ∙ ap (λ (c : Checked). undone_by P s c xs) (sym (checked_end P trace s 0 p e))

pub undone_malformed : (P : Problem) (trace : List ℕ) (s : State) (p : ℕ) (xs : List ℕ) → record_at trace p ≡ record·.Malformed → xs ≡ undone_by P s (checked_from P trace s 0 p) xs
undone_malformed P trace s p xs e = ap (λ (c : Checked). undone_by P s c xs) (sym (checked_malformed P trace s 0 p e))

module _ {t : List ℕ} {m : Masks} (R : Ready t m) (trace : List ℕ) (p : ℕ) (r : Record) (q : ℕ) (e : record_at trace p ≡ record·.Read r q) {plan : List ℕ} (U : UndoableFrom t trace m p plan) where
  found : (lawful (held t) (state_of m) r ≡ true) × ((rest : List Record) × (checked_from (held t) trace (after (held t) (state_of m) r) 0 q ≡ Records rest) × (U.records ≡ r ∷ rest))
  found = first_lawful (held t) trace (state_of m) 0 p r q U.records e U.checks 0

  pub record_lawful : T (lawful (held t) (state_of m) r)
  record_lawful = T_of found.0

  record_holds : T (holds (held t) (state_of m) r)
  record_holds = ((lawful_iff (held t) (state_of m) r).0 record_lawful).1

  abbrev rest : List Record
  rest = found.1.0

  solved : Solution (held t) (after_trace (held t) (after (held t) (state_of m) r) rest) (plan_of plan)
  unfolding after_trace
  solved = subst (λ (ts : List Record). Solution (held t) (after_trace (held t) (state_of m) ts) (plan_of plan)) found.1.2 U.solved

  -- x is the state after the record
  module _ (x : Masks) (ex : x ≡ masks_of (after (held t) (state_of m) r)) where
    pub ready_next : Ready t x
    ready_next = (step_on R r x ex).0

    says : state_of x ≡ after (held t) (state_of m) r
    says = (step_on R r x ex).1

    pub undoable_next : UndoableFrom t trace x q plan
    undoable_next =
        record {
          long = U.long;
          records = rest;
          checks = ap (λ (s : State). checked_from (held t) trace s 0 q) says ∙ found.1.1;
          solved = subst (λ (s : State). Solution (held t) (after_trace (held t) s rest) (plan_of plan)) (sym says) solved;
        }

    -- ys is the plan once the later records are undone
    module _ (ys : List ℕ) (ey : ys ≡ undone_by (held t) (state_of x) (checked_from (held t) trace (state_of x) 0 q) plan) where
      later_is : ys ≡ tab (held t).n (undo_trace (held t) (after (held t) (state_of m) r) rest (plan_of plan))
      later_is =
          ey ∙ ap (λ (s : State). undone_by (held t) s (checked_from (held t) trace s 0 q) plan) says
          ∙ ap (λ (c : Checked). undone_by (held t) (after (held t) (state_of m) r) c plan) found.1.1

      pub undoable_first : Undoable t m r ys
      undoable_first =
          record {
            long = ap length later_is ∙ length_tab (held t).n (undo_trace (held t) (after (held t) (state_of m) r) rest (plan_of plan));
            lawfully = record_lawful;
            solved = later_solved R.fits r rest plan ys (checked_trace (held t) trace (after (held t) (state_of m) r) 0 q rest found.1.1) solved later_is;
          }

      pub undone_first : (zs : List ℕ) → zs ≡ tab (held t).n (undo (held t) (state_of m) r (plan_of ys)) → zs ≡ undone_by (held t) (state_of m) (checked_from (held t) trace (state_of m) 0 p) plan
      undone_first zs ez =
          ez ∙ all_undone R.fits r rest plan ys record_holds later_is
          ∙ ap (λ (c : Checked). undone_by (held t) (state_of m) c plan) (sym (U.checks ∙ ap Records found.1.2))
