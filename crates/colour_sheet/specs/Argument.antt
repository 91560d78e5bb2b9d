-- The argument of the program colour_sheet.
use Rattle.std.specs.Prelude.{cond, List, ℕ}
use Rattle.graph.specs.Graph.{is_number, decimal_of}

-- the number of channels that an argument names: one to nine digits; any other names 0
unfoldable pub channels_of : List ℕ → ℕ
channels_of w = cond (is_number w) (decimal_of w) 0
