-- What each answer of a move says: for each its cause, and no other; and what is left in the target. Assumes nothing.
use Rattle.std.specs.Prelude.{Ok, Err}
use mathlib.Core.Path.{◌≡◌, refl, sym, ap, ◌∙◌}
use mathlib.Core.List.{List}
use mathlib.Core.Logic.{◌⊎◌, inl, inr, ◌↔◌}
use Prim.Native.Nat.{ℕ, ◌≤◌, ◌<◌}
use native.Mathlib.Omega.{arith}
use lib.ListN.{length, take}
use Rattle.bounded.proofs.Truth.{lt_dec}
use Rattle.bounded.proofs.Causes.{cause_iff, number_iff}
use Rattle.problem.specs.Problem.{Problem}
use Rattle.sheet.specs.Sheet.{layout, version_of, Keeps}
use Rattle.sheet.specs.Relation.{problem_of}
use Rattle.sheet.proofs.Refusals.{sheet_number_lem}
use Rattle.buffers.specs.Written.{fronted, AtFront}
use Rattle.buffers.proofs.Written.{fronted_bytes}
use Rattle.jobs.proofs.SheetCause.{Told, sheet_iff}
use Rattle.jobs.specs.Causes.{Whose, Sheets, Own, SheetCause}
use Rattle.compose.specs.Compose.{sheet_bytes}
use Rattle.compose.proofs.Over.{sheet_stands}
use Rattle.moved.specs.Move.{Moved, moved_number, other_version, moved_bytes, MoveResult, move_refused, move_done, move_over, move_job}
use Rattle.moved.specs.declared.MoveRefusal.{MoveRefusal}
use Rattle.moved.specs.declared.MoveRefusal.TheVariants as refusal
use Rattle.moved.proofs.Job.{move_short_over, move_done_over, move_sheet_refused, move_kept}

-- ---- over a problem

module _ (v : ℕ) (P : Problem) (b : List ℕ) where
  -- Why a problem's writing in version v answers as it does.
  abbrev pub MoveCauseOver : Moved → Type 0
  MoveCauseOver (Err (refusal.Sheet r)) = ⊥
  -- 26: "the target buffer is shorter than the moved sheet"
  MoveCauseOver (Err refusal.Target) = length b < length (sheet_bytes layout v P)
  MoveCauseOver (Ok w) = (length (sheet_bytes layout v P) ≤ length b) × (w ≡ length (sheet_bytes layout v P))

  cause_moves : (x : Moved) → MoveCauseOver x → (move_over v P b).answer ≡ x
  cause_moves (Err (refusal.Sheet r)) c = absurd c
  cause_moves (Err refusal.Target) c = ap (λ (y : MoveResult). y.answer) (move_short_over v P b c)
  cause_moves (Ok w) (l, e) = ap (λ (y : MoveResult). y.answer) (move_done_over v P b l) ∙ ap Ok (sym e)

  some_cause : (x : Moved) × MoveCauseOver x
  some_cause = go (lt_dec (length b) (length (sheet_bytes layout v P)))
    where
      go : (length b < length (sheet_bytes layout v P)) ⊎ (length (sheet_bytes layout v P) ≤ length b) → (x : Moved) × MoveCauseOver x
      go (inl h) = (Err refusal.Target, h)
      go (inr h) = (Ok (length (sheet_bytes layout v P)), (h, refl))

  pub move_iff_over : (x : Moved) → ((move_over v P b).answer ≡ x) ↔ MoveCauseOver x
  move_iff_over = cause_iff (move_over v P b).answer MoveCauseOver cause_moves some_cause

-- ---- over a sheet

abbrev pub whose_move : Moved → Whose
whose_move (Err (refusal.Sheet r)) = Sheets r
whose_move (Err refusal.Target) = Own
whose_move (Ok w) = Own

told : (x : Moved) → Told (λ r. Err (refusal.Sheet r)) (whose_move x) x
told (Err (refusal.Sheet r)) = refl
told (Err refusal.Target) = tt
told (Ok w) = tt

module _ (s b : List ℕ) where
  -- Why a move answers as it does: the sheet's own fault, or the cause over its problem, written in the other version.
  abbrev pub MoveCause : Moved → Type 0
  MoveCause x = SheetCause s (whose_move x) (λ P. MoveCauseOver (other_version (version_of s)) P b x)

  -- A move answers as it does for its cause and for no other.
  pub move_iff : (x : Moved) → ((move_job s b).answer ≡ x) ↔ MoveCause x
  unfolding move_job
  move_iff =
      sheet_iff s _ _ (λ (y : MoveResult). y.answer) whose_move told (λ r. refl) (λ P. MoveCauseOver (other_version (version_of s)) P b) (λ P r x. x)
      (λ K. move_iff_over (other_version (version_of s)) (problem_of layout s) b)

  -- ---- by number

  number_back : (x : Moved) → 26 ≤ moved_number x → Err refusal.Target ≡ x
  number_back (Ok w) h = absurd (omega arith)
  number_back (Err (refusal.Sheet r)) h = let m = sheet_number_lem r in absurd (omega arith)
  number_back (Err refusal.Target) h = refl

  -- 26 comes after the sheet's own
  pub move_26 : (moved_number (move_job s b).answer ≡ 26) ↔ (Keeps layout s × (length b < length (moved_bytes s)))
  unfolding moved_bytes
  move_26 = number_iff (move_job s b).answer MoveCause move_iff moved_number (λ n. Err refusal.Target) (λ n. 26 ≤ n) number_back (Err refusal.Target) (omega arith)

  -- ---- the target

  -- a refusal leaves every byte as it was
  pub move_unaltered : (r : MoveRefusal) → (move_job s b).answer ≡ Err r → move_job s b ≡ move_refused r b
  move_unaltered r e = go r ((move_iff (Err r)).0 e)
    where
      go : (r : MoveRefusal) → MoveCause (Err r) → move_job s b ≡ move_refused r b
      go (refusal.Sheet r) x = move_sheet_refused s b r x
      go refusal.Target (K, l) = move_kept s b K ∙ move_short_over _ _ b l

  -- a target that is long enough
  pub move_done_lem : Keeps layout s → length (moved_bytes s) ≤ length b → move_job s b ≡ move_done (moved_bytes s) b
  unfolding moved_bytes
  move_done_lem K l = move_kept s b K ∙ move_done_over _ _ b l

  -- what a move that was not refused leaves: the answer is the moved sheet's length, the moved sheet stands at the front, and the old bytes
  -- after it
  pub record SheetMoved (w : ℕ) : Type 0 where
    pub keeps : Keeps layout s
    pub length_is : w ≡ length (moved_bytes s)
    pub front : AtFront (moved_bytes s) b (move_job s b).target
    pub sheet : take w (move_job s b).target ≡ moved_bytes s

  pub move_written : (w : ℕ) → (move_job s b).answer ≡ Ok w → SheetMoved w
  unfolding moved_bytes
  move_written w e =
      let c = (move_iff (Ok w)).0 e in
      let l = c.1.0 in
      let q = ap (λ (y : MoveResult). y.target) (move_done_lem c.0 l) in
      record {
        keeps = c.0;
        length_is = c.1.1;
        front = rw q (fronted_bytes (moved_bytes s) b l);
        sheet = ap (take w) q ∙ ap (λ (n : ℕ). take n (fronted (moved_bytes s) b)) c.1.1 ∙ sheet_stands layout (other_version (version_of s)) (problem_of layout s) b;
      }
