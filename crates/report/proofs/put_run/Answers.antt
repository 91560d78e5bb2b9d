-- `report::put_run`: the three parts one after the other. Assumes nothing.
use mathlib.Core.Path.{refl}
use Prim.Native.Nat.{◌≤◌}
use native.Mathlib.Omega.{arith}
use lib.ListN.{length}
use Rattle.problem.specs.Masks.{state_of}
use Rattle.sheet.specs.Sheet.{layout}
use Rattle.sheet.specs.Relation.{problem_of}
use Rattle.sheet.proofs.Accepted.{facts, problem_bounded}
use Rattle.report.proofs.Text.{run_put}
use Rattle.report.proofs.put_run.Goals as goal

pub bounds-s-5 : goal.bounds-s-5
bounds-s-5 c = omega (arith, (facts layout c.args.s.now c.requires.0).eight)

pub put_first_line-p-requires : goal.put_first_line-p-requires
put_first_line-p-requires c = (omega (arith, c.type_inv.s 5), (omega (arith, c.size_sum-sum.ensures.below), omega arith))

pub returns : goal.returns
unfolding problem_of state_of
returns c =
    let f = c.put_first_line-p in
    let g = c.put_steps-q in
    let l = c.put_last_line in
    let room_f : f.result ≤ length c.args.out.now = omega arith in
    let room_g : g.result ≤ length f.new.out = omega arith in
    record {
      text = run_put _ (problem_bounded c.args.s.now c.requires.0) _ _ _ _ c.requires.1.0 _ _ _ _ _ _ _ _ _ _ _ refl c.size_sum-sum.ensures.is
          c.count_bits-variables.ensures.is c.count_values-values.ensures.is f.ensures.text g.ensures.text l.ensures.text room_f room_g;
      within = omega arith;
    }
