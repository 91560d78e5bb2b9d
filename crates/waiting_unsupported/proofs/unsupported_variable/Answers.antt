-- `waiting_unsupported::unsupported_variable`: the lowest value that is known. Assumes nothing.
use mathlib.Core.Path.{sym, ◌∙◌}
use borrow.Author.Rules.{rules}
use Rattle.waiting_unsupported.proofs.Search.{known_none, known_lowest}
use Rattle.waiting_unsupported.proofs.unsupported_variable.Goals as goal

pub offset_bounds-words-i : goal.offset_bounds-words-i
offset_bounds-words-i c = let long = c.requires.0.long in search rules

pub bounds-words-i : goal.bounds-words-i
bounds-words-i c = let long = c.requires.0.long in search rules

pub returns-then-known-eq0 : goal.returns-then-known-eq0
returns-then-known-eq0 c = let p = c.requires in sym (known_none c.args.view.ready _ p.1 _ p.0 p.2 c.if-known-eq0.true)

pub unsupported_value-requires : goal.unsupported_value-requires
unsupported_value-requires c =
    let p = c.requires in
    (p.1, (known_lowest c.args.view.ready _ p.1 _ p.0 p.2 _ c.if-known-eq0.false c.lowest.ensures).0)

pub returns : goal.returns
returns c =
    let p = c.requires in
    c.unsupported_value.ensures ∙ (known_lowest c.args.view.ready _ p.1 _ p.0 p.2 _ c.if-known-eq0.false c.lowest.ensures).1
