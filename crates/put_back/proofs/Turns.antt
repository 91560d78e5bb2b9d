-- One turn of the check of a trace. Assumes nothing.
use mathlib.Core.Path.{◌≡◌}
use mathlib.Core.Bool.{true, false}
use mathlib.Core.List.{List, []}
use Prim.Native.Nat.{ℕ, suc, ◌+◌}
use Rattle.problem.specs.Problem.{Problem, State}
use Rattle.problem.specs.Run.{lawful, broken_cover, after}
use Rattle.problem.specs.declared.Record.{Record}
use Rattle.trace.specs.Trace.{record_at}
use Rattle.put_back.specs.PutBack.{Lawful, Faulty, unlawful_record, with_record, check_from}
use Rattle.trace.specs.declared.RecordRead.TheVariants.{Read, End, Malformed}
use Rattle.put_back.specs.declared.PutBackRefusal.TheVariants as refusal

-- ---- one turn

module _ (P : Problem) (w : List ℕ) where
  pub turn_end : (f : ℕ) (s : State) (k p : ℕ) → record_at w p ≡ End → check_from (suc f) P w s k p ≡ Lawful []
  unfolding check_from
  turn_end f s k p e = rw (e, check_from)

  pub turn_malformed : (f : ℕ) (s : State) (k p : ℕ) → record_at w p ≡ Malformed → check_from (suc f) P w s k p ≡ Faulty refusal.Malformed
  unfolding check_from
  turn_malformed f s k p e = rw (e, check_from)

  pub turn_lawful : (f : ℕ) (s : State) (k p : ℕ) (r : Record) (q : ℕ) → record_at w p ≡ Read r q → lawful P s r ≡ true → check_from (suc f) P w s k p ≡ with_record r (check_from f P w (after P s r) (k + 1) q)
  unfolding check_from
  turn_lawful f s k p r q e l = rw (e, l, check_from)

  pub turn_unlawful : (f : ℕ) (s : State) (k p : ℕ) (r : Record) (q : ℕ) → record_at w p ≡ Read r q → lawful P s r ≡ false → check_from (suc f) P w s k p ≡ Faulty (unlawful_record k (broken_cover P s r))
  unfolding check_from
  turn_unlawful f s k p r q e l = rw (e, l, check_from)
