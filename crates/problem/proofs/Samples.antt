-- The bench sheets as problems: one statement over the table of specs/Samples.antt, by computation. Assumes nothing.
use mathlib.Core.Path.{refl}
use Rattle.bounded.specs.Quantifiers as bounded
use Rattle.bounded.specs.Table as table
use Rattle.problem.specs.Problem.{both_ways, full, state_fits, all_active, all_live, any_live, lowest_live, all_other, all_third, none_empty, spoils, spoiler, breaks, first_break, cover_asked, unsupported, snake_serves, snake, triangle_serves, triangle, neighbourhood, substitution_serves, snake_substitution, remove, eliminate, live_count}
use Rattle.problem.specs.Run.{holds_by, lawful_by, broken_cover, after, lawful_trace_by, after_trace, step_if, first, next_unsupported, next_snake, next_triangle, next_neighbourhood, next_snake_substitution_by, next_of_kind_by, next_by, run_from_by, run_by, end_of}
use Rattle.problem.specs.Hand.{supported, prune, prune_times, start, call}
use Rattle.problem.specs.PutBack.{solves, put, repair, undo, undo_trace}
use Rattle.problem.specs.Solutions.{solutions_from, solution_count}
use Rattle.problem.specs.Samples.{AllRows, rows}

pub samples : AllRows rows
unfolding bounded.all_below bounded.any_below bounded.lowest bounded.at_lowest bounded.sum_to bounded.count_below table.tab both_ways full state_fits all_active all_live any_live lowest_live all_other all_third none_empty spoils spoiler breaks first_break cover_asked unsupported snake_serves snake triangle_serves triangle neighbourhood substitution_serves snake_substitution remove eliminate live_count holds_by lawful_by broken_cover after lawful_trace_by after_trace step_if first next_unsupported next_snake next_triangle next_neighbourhood next_snake_substitution_by next_of_kind_by next_by run_from_by run_by end_of supported prune prune_times start call solves put repair undo undo_trace solutions_from solution_count
samples = (
  ((refl, refl), tt),
  (
    ((refl, refl), (refl, (refl, (refl, tt)))),
    (
      ((refl, refl), (refl, (refl, (refl, (refl, (refl, (refl, (refl, (refl, (refl, (refl, (refl, tt)))))))))))),
      (
        ((refl, refl), (refl, (refl, tt))),
        (
          (refl, (refl, tt)),
          (
            ((refl, refl), (refl, (refl, (refl, (refl, (refl, (refl, (refl, tt)))))))),
            (
              ((refl, refl), tt),
              (
                ((refl, refl), tt),
                (
                  (refl, (refl, (refl, tt))),
                  (
                    ((refl, refl), (refl, (refl, tt))),
                    (
                      ((refl, refl), (refl, (refl, tt))),
                      (
                        (refl, (refl, tt)),
                        (
                          (refl, (refl, (refl, tt))),
                          (
                            (refl, (refl, tt)),
                            tt,
                          ),
                        ),
                      ),
                    ),
                  ),
                ),
              ),
            ),
          ),
        ),
      ),
    ),
  ),
)
