-- `cover::spoiler`: the cover test, as the lowest member of one word. Assumes nothing.
use Rattle.std.specs.Prelude.{Some, None}
use mathlib.Core.Path.{◌≡◌, sym, ap, ◌∙◌}
use Prim.Native.Nat.{ℕ}
use Rattle.bounded.specs.Quantifiers.{lowest}
use Rattle.bounded.specs.Mask.{bit}
use Rattle.bounded.proofs.Mask.{at_lowest_zero, at_lowest_member}
use Rattle.cover.proofs.Laws.{spoilers_word, spoilers_raw, spoiler_word, spoilers_lt}
use Rattle.cover.proofs.spoiler.Goals as goal
use Rattle.cover.proofs.spoiler.Goals.{After-barred-spoilers}

-- the word that is tested is that of the values that spoil
word : (c : After-barred-spoilers) → let a = c.args in c.barred-spoilers.result ≡ spoilers_word c.args.view.ready a.i a.a a.j a.b a.l
word c =
    let a = c.args in
    let p = c.requires in
    c.barred-spoilers.ensures.is
    ∙ spoilers_raw a.view.ready a.i a.a a.j a.b a.l _ _ c.rows_or-other.ensures.is c.rows_at-own.ensures.is c.barred-spoilers.ensures.fits p.0 p.1 p.2 p.3 p.4

pub returns-then-spoilers-eq0 : goal.returns-then-spoilers-eq0
returns-then-spoilers-eq0 c =
    let p = c.requires in
    sym (at_lowest_zero Some None 16 _ (spoilers_lt c.args.view.ready _ _ _ _ _ p.2) (sym (word (goal.at.returns-then-spoilers-eq0 c).After-barred-spoilers) ∙ c.if-spoilers-eq0.true)) ∙ spoiler_word c.args.view.ready _ _ _ _ _

pub returns-else-spoilers-eq0 : goal.returns-else-spoilers-eq0
returns-else-spoilers-eq0 c =
    let p = c.requires in
    let w = word (goal.at.returns-else-spoilers-eq0 c).After-barred-spoilers in
    ap Some (c.lowest.ensures ∙ ap (λ (x : ℕ). lowest 16 (bit x)) w)
    ∙ sym (at_lowest_member Some None 16 _ (spoilers_lt c.args.view.ready _ _ _ _ _ p.2) (λ z. c.if-spoilers-eq0.false (w ∙ z))) ∙ spoiler_word c.args.view.ready _ _ _ _ _
