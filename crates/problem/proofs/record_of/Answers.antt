-- `problem::record_of`: each kind by itself, and the numbers that no kind has. Assumes nothing.
use native.Mathlib.Omega.{arith}
use Rattle.problem.specs.Record.{record_of}
use Rattle.problem.proofs.Apart.{no_kind}
use Rattle.problem.proofs.record_of.Goals as goal

pub returns-in-1 : goal.returns-in-1
unfolding record_of
returns-in-1 c = rw c.in-1.is

pub returns-in-2 : goal.returns-in-2
unfolding record_of
returns-in-2 c = rw c.in-2.is

pub returns-in-3 : goal.returns-in-3
unfolding record_of
returns-in-3 c = rw c.in-3.is

pub returns-in-4 : goal.returns-in-4
unfolding record_of
returns-in-4 c = rw c.in-4.is

pub returns-in-5 : goal.returns-in-5
unfolding record_of
returns-in-5 c = rw c.in-5.is

pub returns-in_default : goal.returns-in_default
unfolding record_of
returns-in_default c = no_kind c.args.kind _ _ _ (λ e. omega arith) (λ e. omega arith) (λ e. omega arith) (λ e. omega arith) (λ e. omega arith)
