-- Bench sheets, byte for byte, from the problems that they are. Assumes nothing.
use mathlib.Core.Path.{◌≡◌, refl}
use mathlib.Core.List.{[], ◌∷◌}
use Rattle.bounded.specs.Quantifiers.{any_below}
use Rattle.bounded.specs.Mask.{mask_of}
use Rattle.bounded.specs.Table.{tab}
use Rattle.problem.specs.Problem.{both_ways}
use Rattle.problem.specs.Samples.{problem, unequal, barred, star}
use Rattle.sheet.specs.Sheet.{layout}
use Rattle.jobs.specs.Sheets.{sheet_a, sheet_b, sheet_d}
use Rattle.compose.specs.Compose.{row_bars, pair_bars, has_block, block_count, rows_bytes, block_bytes, place_bytes, blocks_bytes, sheet_bytes}

written_a : sheet_bytes layout 1 (problem (2 ∷ []) unequal) ≡ sheet_a
unfolding sheet_bytes block_count has_block pair_bars row_bars any_below mask_of both_ways blocks_bytes place_bytes block_bytes rows_bytes tab
written_a = refl

written_b : sheet_bytes layout 1 (problem (2 ∷ 2 ∷ []) unequal) ≡ sheet_b
unfolding sheet_bytes block_count has_block pair_bars row_bars any_below mask_of both_ways blocks_bytes place_bytes block_bytes rows_bytes tab
written_b = refl

-- "A block that bars everything is accepted."
written_d : sheet_bytes layout 1 (problem (1 ∷ 1 ∷ []) barred) ≡ sheet_d
unfolding sheet_bytes block_count has_block pair_bars row_bars any_below mask_of both_ways blocks_bytes place_bytes block_bytes rows_bytes tab
written_d = refl

-- items 1 and 2 bar nothing and have no block
written_star : sheet_bytes layout 1 (problem (2 ∷ 3 ∷ 2 ∷ []) star)
    ≡ 1 ∷ 0 ∷ 0 ∷ 0 ∷ 23 ∷ 3 ∷ 0 ∷ 2 ∷ 2 ∷ 3 ∷ 2 ∷ 0 ∷ 1 ∷ 0 ∷ 6 ∷ 0 ∷ 5 ∷ 0 ∷ 2 ∷ 0 ∷ 2 ∷ 0 ∷ 1 ∷ []
unfolding sheet_bytes block_count has_block pair_bars row_bars any_below mask_of both_ways blocks_bytes place_bytes block_bytes rows_bytes tab
written_star = refl
