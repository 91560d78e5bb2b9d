-- `colour_sheet::channels_of`: the number at the front, where it is all of the word. Assumes nothing.
use Rattle.std.proofs.Common.{sym, ◌∙◌}
use Rattle.colour_sheet.proofs.Laws.{none_long, none_read, one_read}
use Rattle.colour_sheet.proofs.channels_of.Goals as goal

pub returns-then-n-gt9 : goal.returns-then-n-gt9
returns-then-n-gt9 c = sym (none_long c.args.word.now c.if-n-gt9.true)

pub returns-in-None : goal.returns-in-None
returns-in-None c = sym (none_read c.args.word.now c.in-None.ensures)

pub returns-in-Some : goal.returns-in-Some
returns-in-Some c = c.whole.ensures ∙ one_read c.args.word.now _ _ c.in-Some.ensures
