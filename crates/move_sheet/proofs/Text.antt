-- What is written, by the job's answer. Assumes nothing.
use Rattle.std.specs.Prelude.{Ok, Err}
use mathlib.Core.Path.{◌≡◌, sym, ap, ◌∙◌}
use mathlib.Core.List.{List}
use Prim.Native.Nat.{ℕ, ◌+◌, ◌≤◌}
use native.Mathlib.Omega.{arith}
use lib.ListN.{length, take}
use Rattle.fields.specs.Print.{refused_line}
use Rattle.buffers.specs.Written.{written}
use Rattle.buffers.proofs.Written.{take_written}
use Rattle.moved.specs.Move.{Moved, MoveResult, move_number}
use Rattle.moved.specs.declared.MoveRefusal.{MoveRefusal}
use Rattle.move_sheet.specs.Text.{answer_text, moved_text}

module _ (c : MoveResult) (a : Moved) (p : a ≡ c.answer) where
  -- the sheet, where it was left
  pub text_sheet : (w : ℕ) (b : List ℕ) → a ≡ Ok w → b ≡ c.target → take w b ≡ moved_text c
  text_sheet w b e q = ap (take w) q ∙ ap (λ (x : Moved). answer_text x c.target) (sym e ∙ p)

  -- or the line, put over the front of the buffer
  pub text_line : (r : MoveRefusal) (n k : ℕ) (m b : List ℕ) → a ≡ Err r → n ≡ move_number r → b ≡ written m 0 (refused_line n) → k ≡ 0 + length (refused_line n) → k ≤ length m → take k b ≡ moved_text c
  text_line r n k m b e h q l s =
      (λ i. take (l i) (q i)) ∙ take_written m 0 (refused_line n) (omega arith)
      ∙ ap refused_line h ∙ ap (λ (x : Moved). answer_text x c.target) (sym e ∙ p)
