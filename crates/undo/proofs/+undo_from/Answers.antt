-- `undo::undo_from`, the cycle of its own call: what the reader finds is undone once the later records are. Assumes nothing.
use mathlib.Core.Path.{◌≡◌, refl, sym, ap, ◌∙◌, subst}
use mathlib.Core.Bool.{true}
use mathlib.Core.List.{List}
use Prim.Native.Nat.{ℕ, ◌-◌, ◌<◌}
use native.Mathlib.Omega.{arith}
use lib.ListN.{length}
use Rattle.problem.specs.Held.{held}
use Rattle.problem.specs.Masks.{state_of}
use Rattle.problem.specs.declared.Masks.{Masks}
use Rattle.held.specs.Ready.{Ready}
use Rattle.trace.specs.Trace.{record_at}
use Rattle.trace.specs.Place.{place_after}
use Rattle.trace.specs.declared.RecordRead.{RecordRead}
use Rattle.replay.specs.Walk.{checked_from}
use Rattle.undo.specs.Undone.{UndoableFrom, undone_by}
use Rattle.undo.specs.Found.{is_record, LawfulFound, after_found, UndoableFound, undone_found}
use Rattle.undo.proofs.Found.{found_lawful, none_undone, nearer, later_ready, later_undoable, found_undoable, found_undone}
use Rattle.undo.proofs.+undo_from.Goals as goal

-- x is what the reader finds at p
module _ {t : List ℕ} {m : Masks} (R : Ready t m) (s : List ℕ) (p : ℕ) {plan : List ℕ} (U : UndoableFrom t s m p plan) (x : RecordRead) (ex : x ≡ record_at s p) where
  lawful_here : LawfulFound t m x
  lawful_here = subst (LawfulFound t m) (sym ex) (found_lawful R s p U)

  -- a record; m' is the state after it, and the reader is moved to q in the bytes w
  module _ (on : is_record x ≡ true) (m' : Masks) (em : m' ≡ after_found (held t) m x) (w : List ℕ) (ew : w ≡ s) (q : ℕ) (eq : q ≡ place_after s p) where
    here : is_record (record_at s p) ≡ true
    here = ap is_record (sym ex) ∙ on

    state : m' ≡ after_found (held t) m (record_at s p)
    state = em ∙ ap (after_found (held t) m) ex

    falls : length w - q < length s - p
    falls = rw (ew, eq) (nearer R s p U here)

    ready : Ready t m'
    ready = subst (Ready t) (sym state) (later_ready R s p U here)

    undoable : UndoableFrom t w m' q plan
    undoable = rw (ew, eq, state) (later_undoable R s p U here)

    -- ys is the plan once the later records are undone
    module _ (ys : List ℕ) (ey : ys ≡ undone_by (held t) (state_of m') (checked_from (held t) w (state_of m') 0 q) plan) where
      later_is : ys ≡ undone_by (held t) (state_of (after_found (held t) m (record_at s p))) (checked_from (held t) s (state_of (after_found (held t) m (record_at s p))) 0 (place_after s p)) plan
      later_is = rw (ew, eq, state) at ey

      undoable_here : UndoableFound t m x ys
      undoable_here = subst (λ (y : RecordRead). UndoableFound t m y ys) (sym ex) (found_undoable R s p U here ys later_is)

      undone_here : (zs : List ℕ) → zs ≡ undone_found (held t) (state_of m) x ys → zs ≡ undone_by (held t) (state_of m) (checked_from (held t) s (state_of m) 0 p) plan
      undone_here zs ez = found_undone R s p U here ys later_is zs (ez ∙ ap (λ (y : RecordRead). undone_found (held t) (state_of m) y ys) ex)

pub after_found-state-requires : goal.after_found-state-requires
after_found-state-requires t c = let a = c.args in lawful_here a.view.ready a.r.src.now a.r.at c.requires c.peek-x.result c.peek-x.ensures

pub invariant_of-later : goal.invariant_of-later
invariant_of-later t c =
    let a = c.args in
    let on : is_record c.peek-x.result ≡ true = sym c.is_record.ensures ∙ c.if-is_record.true in
    record { ready = ready a.view.ready a.r.src.now a.r.at c.requires c.peek-x.result c.peek-x.ensures on c.after_found-state.result c.after_found-state.ensures a.r.src.now refl (place_after a.r.src.now a.r.at) refl }

pub undo_from-requires : goal.undo_from-requires
undo_from-requires t c =
    let a = c.args in
    let R = a.view.ready in
    let U = c.requires in
    let on : is_record c.peek-x.result ≡ true = sym c.is_record.ensures ∙ c.if-is_record.true in
    let w = c.moved.result.src.now in
    let ew : w ≡ a.r.src.now = ap (λ (b : _). b.now) c.moved.ensures.0 in
    let l = falls R a.r.src.now a.r.at U c.peek-x.result c.peek-x.ensures on c.after_found-state.result c.after_found-state.ensures w ew c.moved.result.at c.moved.ensures.1 in (
      omega arith,
      undoable R a.r.src.now a.r.at U c.peek-x.result c.peek-x.ensures on c.after_found-state.result c.after_found-state.ensures w ew c.moved.result.at c.moved.ensures.1,
    )

pub undo_found-requires : goal.undo_found-requires
undo_found-requires t c =
    let a = c.args in
    let R = a.view.ready in
    let U = c.requires in
    let on : is_record c.peek-x.result ≡ true = sym c.is_record.ensures ∙ c.if-is_record.true in
    let ew : c.moved.result.src.now ≡ a.r.src.now = ap (λ (b : _). b.now) c.moved.ensures.0 in
    undoable_here R a.r.src.now a.r.at U c.peek-x.result c.peek-x.ensures on c.after_found-state.result c.after_found-state.ensures c.moved.result.src.now ew c.moved.result.at c.moved.ensures.1 c.undo_from.new.out c.undo_from.ensures

pub returns-then-is_record : goal.returns-then-is_record
returns-then-is_record t c =
    let a = c.args in
    let R = a.view.ready in
    let U = c.requires in
    let on : is_record c.peek-x.result ≡ true = sym c.is_record.ensures ∙ c.if-is_record.true in
    let ew : c.moved.result.src.now ≡ a.r.src.now = ap (λ (b : _). b.now) c.moved.ensures.0 in
    undone_here R a.r.src.now a.r.at U c.peek-x.result c.peek-x.ensures on c.after_found-state.result c.after_found-state.ensures c.moved.result.src.now ew c.moved.result.at c.moved.ensures.1 c.undo_from.new.out c.undo_from.ensures
    c.undo_found.new.out c.undo_found.ensures

pub returns-else-is_record : goal.returns-else-is_record
returns-else-is_record t c =
    let a = c.args in
    let R = a.view.ready in
    let U = c.requires in
    none_undone R a.r.src.now a.r.at U (ap is_record (sym c.peek-x.ensures) ∙ (sym c.is_record.ensures ∙ c.if-is_record.false))
