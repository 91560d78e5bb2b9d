-- `fields::put_decimal`: the digits before the last one are those of a tenth of the number.
use Rattle.std.proofs.Common.{◌≤◌, ◌/◌, length, arith}
use Rattle.fields.proofs.Decimal.{decimal_small, decimal_more, decimal_four}
use Rattle.fields.proofs.Laws.{after}
use Rattle.fields.proofs.+put_decimal.Goals as goal

pub returns-then-x-lt10-clause-text : goal.returns-then-x-lt10-clause-text
returns-then-x-lt10-clause-text t c = rw (decimal_small c.args.x c.if-x-lt10.true) c.put_byte.ensures.text

pub put_byte-requires-2 : goal.put_byte-requires-2
put_byte-requires-2 t c = let d = decimal_four (c.args.x / 10) (omega arith) in omega arith

-- the digits of a tenth of the number, and the last digit after them
pub returns-clause-text : goal.returns-clause-text
returns-clause-text t c =
    let a = c.args in
    let p = c.put_decimal-p in
    let b = c.put_byte-2 in
    let four = decimal_four (a.x / 10) (omega arith) in
    let room : p.result ≤ length a.out.now = omega arith in
    rw (decimal_more a.x (omega arith)) (after _ _ _ _ _ _ _ _ p.ensures.text b.ensures.text room)

pub returns-clause-within : goal.returns-clause-within
returns-clause-within t c = let d = decimal_four (c.args.x / 10) (omega arith) in omega arith
