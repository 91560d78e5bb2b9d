-- One statement over the table of specs/Refusals.antt, shown for the definitions by computation. Assumes nothing.
use mathlib.Core.Path.{refl}
use Rattle.bounded.specs.Quantifiers as bounded
use Rattle.bounded.specs.Mask as mask
use Rattle.bounded.specs.Table as table
use Rattle.problem.specs.Problem as problem
use Rattle.problem.specs.Record as record·
use Rattle.problem.specs.Run as run·
use Rattle.problem.specs.Hand as hand·
use Rattle.problem.specs.PutBack as back·
use Rattle.problem.specs.Masks as packed
use Rattle.sheet.specs.Sheet as sheet
use Rattle.sheet.specs.Relation as relation
use Rattle.jobs.specs.WithSheet.{with_sheet}
use Rattle.trace.specs.Trace.{records_bytes, trace_bytes, record_at}
use Rattle.put_back.specs.PutBack.{check_from, check_trace, plan_fits, put_back_over, put_back_job}
use Rattle.put_back.specs.Refusals.{AllNumbered, rows}

pub numbered : AllNumbered rows
unfolding record·.record_of bounded.all_below bounded.any_below bounded.lowest bounded.at_lowest bounded.sum_to bounded.count_below mask.mask_of table.tab problem.both_ways problem.full problem.state_fits problem.all_active problem.all_live problem.any_live problem.lowest_live problem.all_other problem.all_third problem.none_empty problem.spoils problem.spoiler problem.unsupported problem.snake_serves problem.snake problem.triangle_serves problem.triangle problem.neighbourhood problem.substitution_serves problem.snake_substitution problem.breaks problem.first_break problem.cover_asked problem.remove problem.eliminate problem.live_count problem.size_sum run·.holds_by run·.lawful_by run·.broken_cover run·.after run·.after_trace run·.step_if run·.first run·.next_unsupported run·.next_snake run·.next_triangle run·.next_neighbourhood run·.next_snake_substitution_by run·.next_of_kind_by run·.next_by run·.run_from_by run·.run_by run·.end_of hand·.supported hand·.prune hand·.prune_times hand·.start hand·.call back·.solves back·.put back·.repair back·.undo back·.undo_trace packed.state_of packed.masks_of sheet.beyond sheet.allows_all sheet.block_of sheet.block_at sheet.blocks_from sheet.bad_sizes sheet.read_sheet relation.rows_from relation.rows_of relation.pair_allowed relation.size_of relation.listed relation.allowed_of relation.problem_of records_bytes trace_bytes record_at with_sheet check_from check_trace plan_fits put_back_over put_back_job
numbered = (refl, (refl, (refl, (refl, (refl, (refl, (refl, (refl, (refl, (refl, (refl, (refl, (refl, (refl, (refl, (refl, (refl, (refl, (refl, (refl, tt))))))))))))))))))))
