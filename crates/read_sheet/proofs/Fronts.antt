-- What the front of a sheet decides. Assumes nothing.
use mathlib.Core.Path.{◌≡◌, sym, ◌∙◌}
use mathlib.Core.List.{List}
use Prim.Native.Nat.{ℕ, ◌+◌}
use native.Mathlib.Omega.{arith}
use Rattle.sheet.specs.Sheet.{layout, variables_of, blocks_of, blocks_from, read_sheet, Front, accepted}
use Rattle.sheet.specs.declared.SheetRefusal.{SheetRefusal}
use Rattle.std.specs.Prelude.{Err}
use Rattle.read_sheet.specs.Reading.{FrontRead}

module _ (s : List ℕ) where
  apart : (f : SheetRefusal) (n m : ℕ) → Err f ≡ accepted n m → ⊥
  apart f n m e = let z : ◌≡◌ {A = ℕ} 0 1 = cc in omega arith

  pub front_refused : (f : SheetRefusal) → read_sheet layout s ≡ Err f → FrontRead s (Err f)
  front_refused f h = record { refused = λ g e. h ∙ e; good = λ n m e. absurd (apart f n m e) }

  pub front_good : (n m : ℕ) → Front s → read_sheet layout s ≡ blocks_from layout s (blocks_of s) 0 (8 + variables_of s) → FrontRead s (accepted n m)
  front_good n m f h = record { refused = λ g e. absurd (apart g n m (sym e)); good = λ k l e. (f, h) }
