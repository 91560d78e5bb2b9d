-- What the blocks of a sheet that keeps the layout say: a pair has one exactly where it bars something, and its rows are what is allowed.
-- Assumes nothing.
use mathlib.Core.Path.{◌≡◌, refl, sym, ap, ◌∙◌}
use mathlib.Core.Bool.{Bool, true, false, cond, not, ◌&&◌}
use mathlib.Core.List.{List}
use mathlib.Core.Logic.{◌↔◌}
use Prim.Native.Nat.{ℕ, ◌+◌, ◌^◌, ◌≤◌, ◌<◌}
use native.Mathlib.Omega.{arith}
use lib.Dec.{eqb, leb}
use lib.Pow.{pow_mono}
use borrow.Author.Tests.{leb-true}
use Rattle.bounded.specs.Mask.{bit}
use Rattle.bounded.proofs.Truth.{T_of, T_false, clash, not_iff}
use Rattle.bounded.proofs.Quantifiers.{any_iff}
use Rattle.problem.specs.Problem.{Problem}
use Rattle.problem.proofs.HeldTable.{row_sized}
use Rattle.sheet.specs.Sheet.{Layout, layout, variables_of, size_at, row_width, Keeps}
use Rattle.sheet.specs.Relation.{rows_of, row_in, problem_of}
use Rattle.std.specs.Prelude.{None, Option, Some}
use Rattle.sheet.proofs.Laws.{all_full_lem}
use Rattle.sheet.proofs.Accepted.{rows_narrow, Found, found, size_in, listed_of, bounded}
use Rattle.sheet.proofs.Allows.{unconstrained_allowed, row_tells}
use Rattle.sheet.proofs.Words.{row_up}
use Rattle.compose.specs.Compose.{row_number, row_bars, pair_bars, Roomy}
use Rattle.compose.proofs.Rows.{full_mask, bars_none, none_bars}

-- the rows of both versions have room
pub layout_roomy : Roomy layout
layout_roomy = record { narrow = rows_narrow; room = λ v z t h. room (eqb v 2) z h (leb z 8) refl }
  where
    room : (o : Bool) (z : ℕ) → z ≤ 16 → (t : Bool) → leb z 8 ≡ t → 2 ^ z ≤ 256 ^ cond (o && t) 1 2
    room true z h true e = pow_mono {j = 8} (leb-true z 8 e)
    room true z h false e = pow_mono {j = 16} h
    room false z h t e = pow_mono {j = 16} h

-- a pair that bars something, by its settings
pub bars_some : (P : Problem) (i j : ℕ) → pair_bars P i j ≡ true → (a : ℕ) × (b : ℕ) × (a < P.size i) × (b < P.size j) × (P.allowed i a j b ≡ false)
unfolding pair_bars row_bars
bars_some P i j e =
    let x = (any_iff (P.size i) (row_bars P i j)).0 (T_of e) in
    let y = (any_iff (P.size j) (λ b. not (P.allowed i x.0 j b))).0 x.2 in
    (x.0, y.0, x.1, y.1, T_false _ ((not_iff (P.allowed i x.0 j y.0)).0 y.2))

pub sized : (L : Layout) (s : List ℕ) (i : ℕ) → i < variables_of s → (problem_of L s).size i ≡ size_at s i
unfolding problem_of
sized L s i h = size_in L s i h

module _ (L : Layout) (s : List ℕ) (K : Keeps L s) (i j : ℕ) where
  -- a row of the sheet says which settings are allowed
  pub row_allows : (r : ℕ) → rows_of L s i j ≡ Some r → (a c : ℕ) → a < (problem_of L s).size i → c < (problem_of L s).size j → bit (row_in L s j r a) c ≡ (problem_of L s).allowed i a j c
  unfolding problem_of
  row_allows r e a c h l =
      let f = found L s i j r K e in
      let rises = f.rises in
      let ends = f.ends in
      let zi = size_in L s i (omega arith) in
      let zj = size_in L s j ends in
      sym (row_tells L s i a j c rises (listed_of L s i a (omega arith) (omega arith)) (listed_of L s j c ends (omega arith)) r e)

  -- and is the set of them
  pub row_is : (r : ℕ) → rows_of L s i j ≡ Some r → (a : ℕ) → a < (problem_of L s).size i → row_in L s j r a ≡ row_number (problem_of L s) i j a
  row_is r e a h =
      let f = found L s i j r K e in
      let rises = f.rises in
      let ends = f.ends in
      let zi = sized L s i (omega arith) in
      row_up L s K i a j (listed_of L s i a (omega arith) (omega arith)) ends r rises e ∙ row_sized (bounded L s K) i j a

  -- a block bars something
  pub block_some : (r : ℕ) → rows_of L s i j ≡ Some r → pair_bars (problem_of L s) i j ≡ true
  block_some r e = go (pair_bars (problem_of L s) i j) refl
    where
      f : Found L s i j r
      f = found L s i j r K e

      go : (t : Bool) → pair_bars (problem_of L s) i j ≡ t → t ≡ true
      go true q = refl
      go false q =
          let rises = f.rises in
          let ends = f.ends in
          let zi = sized L s i (omega arith) in
          let zj = sized L s j ends in
          absurd
          (clash
          (all_full_lem L s (row_width L s j) (size_at s j) (size_at s i) r
          (λ a m.
          ap (λ (x : ℕ). x + 1) (row_is r e a (omega arith))
          ∙ full_mask ((problem_of L s).size j) (λ b. (problem_of L s).allowed i a j b) (λ b o. bars_none (problem_of L s) i j q a b (omega arith) o)
          ∙ ap (λ (x : ℕ). 2 ^ x) zj))
          f.bars)

  -- and a pair with none bars nothing
  pub free_none : i < j → j < variables_of s → rows_of L s i j ≡ None → pair_bars (problem_of L s) i j ≡ false
  unfolding problem_of
  free_none h l e =
      let zi = size_in L s i (omega arith) in
      let zj = size_in L s j l in
      none_bars (problem_of L s) i j (λ a b m o. unconstrained_allowed L s i a j b h (listed_of L s i a (omega arith) (omega arith)) (listed_of L s j b l (omega arith)) e)

  -- "A pair with no block allows everything; so a block that bars nothing is refused.": two items have a block exactly where some two of their
  -- settings are barred
  pub block_bars : i < j → j < (problem_of L s).n → ((r : ℕ) × (rows_of L s i j ≡ Some r)) ↔ ((a : ℕ) × (b : ℕ) × (a < (problem_of L s).size i) × (b < (problem_of L s).size j) × ((problem_of L s).allowed i a j b ≡ false))
  unfolding problem_of
  block_bars h l = (λ x. bars_some (problem_of L s) i j (block_some x.0 x.1), λ x. go (rows_of L s i j) refl x)
    where
      go : (x : Option ℕ) → rows_of L s i j ≡ x → ((a : ℕ) × (b : ℕ) × (a < (problem_of L s).size i) × (b < (problem_of L s).size j) × ((problem_of L s).allowed i a j b ≡ false)) → (r : ℕ) × (rows_of L s i j ≡ Some r)
      go (Some r) e x = (r, e)
      go None e x =
          let zi = size_in L s i (omega arith) in
          let zj = size_in L s j l in
          let ha = x.2 in
          let hb = x.3 in
          absurd (clash (unconstrained_allowed L s i x.0 j x.1 h (listed_of L s i x.0 (omega arith) (omega arith)) (listed_of L s j x.1 l (omega arith)) e) x.4)
