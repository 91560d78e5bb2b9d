-- Sheets moved, by computation. Assumes nothing.
use mathlib.Core.Path.{refl}
use Rattle.bounded.specs.Quantifiers.{any_below}
use Rattle.bounded.specs.Mask.{mask_of}
use Rattle.bounded.specs.Table.{tab}
use Rattle.problem.specs.Problem.{both_ways}
use Rattle.sheet.specs.Sheet.{beyond, allows_all, block_of, block_at, blocks_from, bad_sizes, read_sheet}
use Rattle.sheet.specs.Relation.{rows_from, rows_of, pair_allowed, size_of, listed, allowed_of, problem_of}
use Rattle.jobs.specs.WithSheet.{with_sheet}
use Rattle.starred.specs.Starred.{rows}
use Rattle.compose.specs.Compose.{row_bars, pair_bars, has_block, block_count, rows_bytes, block_bytes, place_bytes, blocks_bytes, sheet_bytes}
use Rattle.moved.specs.Move.{moved_bytes, move_over, move_job}
use Rattle.moved.specs.Samples.{AllMoved, AllSampled, samples}

-- the starred sheets, each in both versions
pub starred_moved : AllMoved rows
unfolding any_below mask_of tab both_ways rows_from rows_of pair_allowed size_of listed allowed_of problem_of row_bars pair_bars has_block block_count rows_bytes block_bytes place_bytes blocks_bytes sheet_bytes moved_bytes
starred_moved = (refl, (refl, (refl, (refl, (refl, (refl, (refl, (refl, (refl, (refl, (refl, (refl, (refl, (refl, (refl, (refl, (refl, (refl, (refl, (refl, (refl, (refl, (refl, (refl, (refl, (refl, (refl, (refl, tt))))))))))))))))))))))))))))

pub moves_sampled : AllSampled samples
unfolding any_below mask_of tab both_ways beyond allows_all block_of block_at blocks_from bad_sizes read_sheet rows_from rows_of pair_allowed size_of listed allowed_of problem_of row_bars pair_bars has_block block_count rows_bytes block_bytes place_bytes blocks_bytes sheet_bytes with_sheet move_over move_job
moves_sampled = (refl, (refl, (refl, (refl, (refl, (refl, (refl, (refl, (refl, (refl, (refl, (refl, (refl, (refl, (refl, (refl, (refl, (refl, (refl, (refl, (refl, (refl, (refl, (refl, tt))))))))))))))))))))))))
