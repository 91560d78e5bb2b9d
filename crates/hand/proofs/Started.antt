-- What each answer of a start says: its cause, and no other. Assumes nothing.
use mathlib.Core.Path.{◌≡◌, ap}
use mathlib.Core.List.{List}
use mathlib.Core.Logic.{inl, inr, ◌↔◌}
use Prim.Native.Nat.{ℕ}
use Rattle.bounded.proofs.Causes.{cause_iff}
use Rattle.hand.specs.Hand.{start_job}
use Rattle.hand.specs.declared.StartAnswer.{StartAnswer}
use Rattle.hand.specs.Numbers.{StartOutcome}
use Rattle.std.specs.Prelude.{Err, Ok}
use Rattle.jobs.proofs.Opened.{sheet_or}
use Rattle.hand.specs.Causes.{StartCause}
use Rattle.hand.proofs.Opened.{start_refused_lem, start_kept}

module _ (s : List ℕ) where
  cause_starts : (o : StartOutcome) → StartCause s o → (start_job s).outcome ≡ o
  cause_starts (Err r) e = ap (λ (y : StartAnswer). y.outcome) (start_refused_lem s r e)
  cause_starts (Ok _) K = ap (λ (y : StartAnswer). y.outcome) (start_kept s K)

  some_start : (o : StartOutcome) × StartCause s o
  some_start = elim (sheet_or s) [ inl x ↦ (Err x.0, x.1) | inr K ↦ ((Ok tt), K) ]

  pub started_iff : (o : StartOutcome) → ((start_job s).outcome ≡ o) ↔ StartCause s o
  started_iff = cause_iff (start_job s).outcome (StartCause s) cause_starts some_start
