-- The samples of colouring files, by computation. Assumes nothing.
use mathlib.Core.Path.{◌≡◌, refl}
use Rattle.bounded.specs.Quantifiers as bounded
use Rattle.bounded.specs.Mask as mask
use Rattle.bounded.specs.Table as table
use Rattle.problem.specs.Problem as problem
use Rattle.graph.specs.Graph as graph
use Rattle.graph.specs.Colouring as colouring
use Rattle.compose.specs.Compose as compose
use Rattle.colour.specs.Colour as colour
use Rattle.colour.specs.Colour.{graph_sheet}
use Rattle.colour.specs.Samples.{AllSampled, samples, loggers_file, loggers_sheet}

-- each file gets its number
pub sampled : AllSampled samples
unfolding colour.graph_sheet colour.colour_job graph.lines_of graph.line_fields graph.all_digits graph.is_number graph.decimal_from graph.begins graph.two_numbers graph.line_of graph.file_lines graph.any_line graph.count_lines graph.stated_vertices graph.stated_edges graph.edge_first graph.bad_lines graph.bad_file colouring.adjacent colouring.channels_at colouring.is_channel colouring.may_stand colouring.colouring bounded.any_below mask.mask_of table.tab problem.both_ways compose.row_bars compose.pair_bars compose.has_block compose.block_count compose.rows_bytes compose.block_bytes compose.place_bytes compose.blocks_bytes compose.sheet_bytes
sampled = (refl, (refl, (refl, (refl, (refl, (refl, (refl, (refl, (refl, (refl, (refl, (refl, (refl, (refl, (refl, (refl, (refl, (refl, (refl, (refl, (refl, (refl, (refl, (refl, (refl, (refl, (refl, (refl, tt))))))))))))))))))))))))))))

-- and the loggers of the format their sheet, byte for byte
pub loggers : graph_sheet loggers_file 2 ≡ loggers_sheet
unfolding colour.graph_sheet colour.colour_job graph.lines_of graph.line_fields graph.all_digits graph.is_number graph.decimal_from graph.begins graph.two_numbers graph.line_of graph.file_lines graph.any_line graph.count_lines graph.stated_vertices graph.stated_edges graph.edge_first graph.bad_lines graph.bad_file colouring.adjacent colouring.channels_at colouring.is_channel colouring.may_stand colouring.colouring bounded.any_below mask.mask_of table.tab problem.both_ways compose.row_bars compose.pair_bars compose.has_block compose.block_count compose.rows_bytes compose.block_bytes compose.place_bytes compose.blocks_bytes compose.sheet_bytes
loggers = refl
