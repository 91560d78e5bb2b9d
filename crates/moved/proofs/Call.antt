-- What the number of the exported call tells: a refusal leaves the target as it was, everything else is a multiple of 256 from which the bytes
-- written come back. Stated over the definition that the contract cites. Assumes nothing.
use Rattle.std.specs.Prelude.{Ok, Err}
use mathlib.Core.Path.{◌≡◌, sym, ◌∙◌, refl, ap}
use mathlib.Core.List.{List}
use Prim.Native.Nat.{ℕ, ◌/◌, ◌%◌, ◌^◌, ◌≤◌, ◌<◌}
use Rattle.moved.specs.Move.{Moved, move_job, move_number, moved_bytes, MoveResult}
use Rattle.moved.specs.Call.{move_crossed, move_call, MoveCall}
use mathlib.Core.Logic.{◌⊎◌, inl, inr, ◌≢◌, ◌↔◌}
use native.Mathlib.Omega.{arith}
use lib.ListN.{length, take}
use Rattle.buffers.specs.Bytes.{AreBytes}
use Rattle.sheet.specs.Sheet.{layout, Keeps}
use Rattle.sheet.proofs.Refusals.{sheet_number_lem}
use Rattle.buffers.specs.Written.{fronted}
use Rattle.boundary.proofs.Answers.{Refuses, refused_keeps, taken_iff, written_unpacked}
use Rattle.moved.specs.declared.MoveRefusal.{MoveRefusal}
use Rattle.moved.specs.declared.MoveRefusal.TheVariants as not_moved
use Rattle.moved.proofs.Causes.{move_unaltered, move_written}
use Rattle.moved.proofs.Demands.{move_again, move_longest}
use Rattle.boundary.specs.Numbers.{written_number}

-- the job's answer x, which is o, and its target w
pub move_says : (s b : List ℕ) (x : Moved) (w : List ℕ) → x ≡ (move_job s b).answer → w ≡ (move_job s b).target → (o : Moved) → x ≡ o → move_crossed o w ≡ move_call s b
unfolding move_call
move_says s b x w a l o q = λ j. move_crossed ((sym q ∙ a) j) (l j)

-- a number of the format's table
pub move_listed : (r : MoveRefusal) → (1 ≤ move_number r) × (move_number r ≤ 26)
move_listed (not_moved.Sheet r) = let l = sheet_number_lem r in (omega arith, omega arith)
move_listed not_moved.Target = (omega arith, omega arith)

module _ (s b : List ℕ) where
  -- accepted: the bytes written come back, and fit their bits; the target is the job's
  pub move_unpacked : (w : ℕ) → (move_job s b).answer ≡ Ok w
      → ((move_call s b).answer % 256 ≡ 0) × ((move_call s b).answer / 256 ≡ w) × (w < 2 ^ 24) × ((move_call s b).target ≡ (move_job s b).target)
  move_unpacked w o =
      let e = sym (move_says s b _ _ refl refl _ o) in
      let u = written_unpacked _ w (ap (λ (y : MoveCall). y.answer) e) (move_longest s b w o) in
      (u.0, u.1, u.2, ap (λ (y : MoveCall). y.target) e)

  abbrev pub MoveTaken : Type 0
  MoveTaken = (w : ℕ) × ((move_job s b).answer ≡ Ok w)

  abbrev pub MoveKept : Type 0
  MoveKept = ((r : MoveRefusal) × ((move_job s b).answer ≡ Err r) × ((move_call s b).answer ≡ move_number r)) × ((move_call s b).target ≡ b)

  move_either : MoveTaken ⊎ (Refuses (move_call s b).answer × MoveKept)
  move_either = go (move_job s b).answer refl
    where
      go : (o : Moved) → (move_job s b).answer ≡ o → MoveTaken ⊎ (Refuses (move_call s b).answer × MoveKept)
      go (Ok w) o = inl (w, o)
      go (Err r) o =
          let e = sym (move_says s b _ _ refl refl _ o) in
          let q = ap (λ (y : MoveCall). y.answer) e in
          let l = move_listed r in
          inr ((omega arith, omega arith), ((r, o, q), ap (λ (y : MoveCall). y.target) e ∙ ap (λ (y : MoveResult). y.target) (move_unaltered s b r o)))

  move_even : MoveTaken → (move_call s b).answer % 256 ≡ 0
  move_even x = (move_unpacked x.0 x.1).0

  -- refused: the answer is the refusal's number, and the target is as it was
  pub move_refused_keeps : (move_call s b).answer % 256 ≢ 0 → MoveKept
  move_refused_keeps = refused_keeps MoveTaken MoveKept _ move_either move_even

  -- the remainder is 0 exactly where the job wrote
  pub move_taken : ((move_call s b).answer % 256 ≡ 0) ↔ MoveTaken
  move_taken = taken_iff MoveTaken MoveKept _ move_either move_even

  -- what a call that was not refused leaves at the target's front is the moved sheet, on which every other call answers as on the sheet
  -- (alike: Crossed)
  pub move_call_sheet : (move_call s b).answer % 256 ≡ 0 → Keeps layout s × (take ((move_call s b).answer / 256) (move_call s b).target ≡ moved_bytes s)
  move_call_sheet e =
      let x = move_taken.0 e in
      let u = move_unpacked x.0 x.1 in
      let m = move_written s b x.0 x.1 in
      (m.keeps, (λ i. take (u.1 i) (u.3 i)) ∙ m.sheet)

  -- two calls, the second lent what the first wrote: the sheet stands in its target again, byte for byte
  pub move_call_twice : AreBytes s → (move_call s b).answer % 256 ≡ 0 → (c : List ℕ) → length s ≤ length c
      → move_call (take ((move_call s b).answer / 256) (move_call s b).target) c ≡ record { answer = written_number (length s); target = fronted s c }
  unfolding move_call
  move_call_twice bytes e c h =
      let m = move_call_sheet e in
      ap (λ (y : List ℕ). move_call y c) m.1 ∙ ap (λ (y : MoveResult). move_crossed y.answer y.target) (move_again s c m.0 bytes h)
