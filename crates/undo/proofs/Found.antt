-- A trace undone from a reader's place on, by what the reader finds there: `Back`'s laws at `record_at` and at the place that the reader is moved to. Assumes nothing.
use mathlib.Core.Path.{◌≡◌, refl, sym, ap, ◌∙◌, subst}
use mathlib.Core.Bool.{true, false}
use mathlib.Core.List.{List}
use Prim.Native.Nat.{ℕ, ◌-◌, ◌<◌}
use native.Mathlib.Omega.{arith}
use lib.ListN.{length}
use Rattle.bounded.proofs.Truth.{clash}
use Rattle.problem.specs.Held.{held}
use Rattle.problem.specs.Masks.{state_of}
use Rattle.problem.specs.declared.Masks.{Masks}
use Rattle.problem.specs.declared.Record.{Record}
use Rattle.trace.specs.Trace.{record_at}
use Rattle.trace.specs.declared.RecordRead.{RecordRead}
use Rattle.trace.specs.declared.RecordRead.TheVariants as record·
use Rattle.held.specs.Ready.{Ready}
use Rattle.trace.specs.Place.{place_after}
use Rattle.trace.proofs.Back.{next_after}
use Rattle.trace.proofs.Place.{after_read}
use Rattle.replay.specs.Walk.{checked_from}
use Rattle.undo.specs.Undone.{UndoableFrom, undone_by}
use Rattle.undo.specs.Found.{is_record, LawfulFound, after_found, UndoableFound, undone_found}
use Rattle.undo.proofs.Back.{record_lawful, ready_next, undoable_next, undoable_first, undone_first, undone_end, undone_malformed}

is_read : (x : RecordRead) → is_record x ≡ true → (r : Record) × (q : ℕ) × (x ≡ record·.Read r q)
is_read (record·.Read r q) e = (r, q, refl)
is_read record·.End e = absurd (clash {b = false} e refl)
is_read record·.Malformed e = absurd (clash {b = false} e refl)

module _ {t : List ℕ} {m : Masks} (R : Ready t m) (trace : List ℕ) (p : ℕ) {plan : List ℕ} (U : UndoableFrom t trace m p plan) where
  pub found_lawful : LawfulFound t m (record_at trace p)
  found_lawful = go (record_at trace p) refl
    where
      go : (x : RecordRead) → record_at trace p ≡ x → LawfulFound t m x
      go (record·.Read r q) e = record_lawful R trace p r q e U
      go record·.End e = tt
      go record·.Malformed e = tt

  -- no record stands there
  pub none_undone : is_record (record_at trace p) ≡ false → plan ≡ undone_by (held t) (state_of m) (checked_from (held t) trace (state_of m) 0 p) plan
  none_undone h = go (record_at trace p) refl h
    where
      go : (x : RecordRead) → record_at trace p ≡ x → is_record x ≡ false → plan ≡ undone_by (held t) (state_of m) (checked_from (held t) trace (state_of m) 0 p) plan
      go (record·.Read r q) e h = absurd (clash {b = true} refl h)
      go record·.End e h = undone_end (held t) trace (state_of m) p plan U.long e
      go record·.Malformed e h = undone_malformed (held t) trace (state_of m) p plan e

  -- a record stands there
  module _ (on : is_record (record_at trace p) ≡ true) where
    abbrev later : Masks
    later = after_found (held t) m (record_at trace p)

    abbrev r : Record
    r = (is_read (record_at trace p) on).0

    abbrev q : ℕ
    q = (is_read (record_at trace p) on).1

    e : record_at trace p ≡ record·.Read r q
    e = (is_read (record_at trace p) on).2

    moves : place_after trace p ≡ q
    moves = after_read trace p r q e

    pub nearer : length trace - place_after trace p < length trace - p
    nearer = let n = next_after trace p r q e in let k = moves in omega (arith, n, k)

    pub later_ready : Ready t later
    later_ready = ready_next R trace p r q e U later (ap (after_found (held t) m) e)

    pub later_undoable : UndoableFrom t trace later (place_after trace p) plan
    later_undoable = subst (λ (k : ℕ). UndoableFrom t trace later k plan) (sym moves) (undoable_next R trace p r q e U later (ap (after_found (held t) m) e))

    -- ys is the plan once the later records are undone
    module _ (ys : List ℕ) (ey : ys ≡ undone_by (held t) (state_of later) (checked_from (held t) trace (state_of later) 0 (place_after trace p)) plan) where
      at_next : ys ≡ undone_by (held t) (state_of later) (checked_from (held t) trace (state_of later) 0 q) plan
      at_next = ey ∙ ap (λ (k : ℕ). undone_by (held t) (state_of later) (checked_from (held t) trace (state_of later) 0 k) plan) moves

      pub found_undoable : UndoableFound t m (record_at trace p) ys
      found_undoable = subst (λ (y : RecordRead). UndoableFound t m y ys) (sym e) (undoable_first R trace p r q e U later (ap (after_found (held t) m) e) ys at_next)

      pub found_undone : (zs : List ℕ) → zs ≡ undone_found (held t) (state_of m) (record_at trace p) ys → zs ≡ undone_by (held t) (state_of m) (checked_from (held t) trace (state_of m) 0 p) plan
      found_undone zs ez =
          undone_first R trace p r q e U later (ap (after_found (held t) m) e) ys at_next zs (ez ∙ ap (λ (y : RecordRead). undone_found (held t) (state_of m) y ys) e)
