-- `bounded::where16`: one bit, by `&` with a power of 2. Assumes nothing.
use mathlib.Core.Path.{sym, ap, ◌∙◌}
use lib.Bits.{bit_and}
use Rattle.bounded.proofs.Mask.{bit_hit, bit_miss, one_shifted}
use Rattle.bounded.proofs.where16.Goals as goal

pub returns-then-set-c-ne0 : goal.returns-then-set-c-ne0
returns-then-set-c-ne0 c =
    let a = c.args in
    let l = c.requires in
    rw (bit_hit a.set a.c l (λ z. c.if-set-c-ne0.true (ap (bit_and a.set) (one_shifted 16 a.c l) ∙ z)))

pub returns-else-set-c-ne0 : goal.returns-else-set-c-ne0
returns-else-set-c-ne0 c =
    let a = c.args in
    rw (bit_miss a.set a.c (ap (bit_and a.set) (sym (one_shifted 16 a.c c.requires)) ∙ c.if-set-c-ne0.false))
