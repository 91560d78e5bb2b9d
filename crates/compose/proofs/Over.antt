-- What a caller of the writer finds in its buffer. Assumes nothing.
use mathlib.Core.Path.{◌≡◌, ap}
use mathlib.Core.List.{List}
use Rattle.std.specs.Prelude.{Ok, Err}
use Prim.Native.Nat.{ℕ, ◌≤◌, ◌<◌}
use lib.ListN.{length, take, drop}
use lib.Seq.{take-append_seam}
use borrow.Author.Tests.{lt-ltb, le-ltb}
use Rattle.problem.specs.Problem.{Problem}
use Rattle.problem.specs.Held.{held, Bounded, Filled}
use Rattle.problem.proofs.HeldTable.{held_filled}
use Rattle.sheet.specs.Sheet.{Layout}
use Rattle.buffers.specs.Written.{fronted}
use Rattle.compose.specs.Compose.{sheet_bytes, too_short, sheet_over}

module _ (L : Layout) (v : ℕ) (P : Problem) (b : List ℕ) where
  pub sheet_over_short : length b < length (sheet_bytes L v P) → sheet_over L v P b ≡ record { answer = Err too_short; buffer = b }
  unfolding sheet_over
  sheet_over_short h = simp (lt-ltb _ _ h)

  pub sheet_over_done : length (sheet_bytes L v P) ≤ length b
      → sheet_over L v P b ≡ record { answer = Ok (length (sheet_bytes L v P)); buffer = fronted (sheet_bytes L v P) b }
  unfolding sheet_over
  sheet_over_done h = simp (le-ltb _ _ h)

  -- the sheet is what stands there
  pub sheet_stands : take (length (sheet_bytes L v P)) (fronted (sheet_bytes L v P) b) ≡ sheet_bytes L v P
  sheet_stands = take-append_seam (sheet_bytes L v P) (drop (length (sheet_bytes L v P)) b)

  -- over a table that was filled with the problem
  pub sheet_over_table : Bounded P → {t : List ℕ} → Filled P t → sheet_over L v (held t) b ≡ sheet_over L v P b
  sheet_over_table B F = ap (λ (Q : Problem). sheet_over L v Q b) (held_filled B F)
