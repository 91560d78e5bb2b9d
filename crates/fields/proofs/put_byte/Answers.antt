-- `fields::put_byte`: one store.
use mathlib.Core.Path.{refl}
use native.Mathlib.Omega.{arith}
use Rattle.buffers.proofs.Written.{written_one}
use Rattle.fields.proofs.put_byte.Goals as goal

pub returns : goal.returns
returns c = record { text = (written_one c.args.out.now c.args.at c.args.v (omega arith), refl) }
