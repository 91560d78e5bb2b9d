-- "A refusal [..] leaves all lent bytes unchanged": the result's buffer at exit is as at entry. Assumes nothing.
use mathlib.Core.Path.{◌≡◌, refl, sym, ap, ◌∙◌}
use mathlib.Core.Bool.{Bool, true, false}
use mathlib.Core.List.{List}
use mathlib.Core.Logic.{◌⊎◌, inl, inr, ◌≢◌}
use Prim.Native.Nat.{ℕ}
use native.Mathlib.Omega.{arith}
use lib.ListN.{length}
use Rattle.bounded.proofs.Truth.{eq_dec}
use Rattle.problem.specs.Problem.{Problem, full}
use Rattle.problem.specs.Run.{after_trace}
use Rattle.sheet.specs.Sheet.{layout}
use Rattle.sheet.specs.Relation.{problem_of}
use Rattle.put_back.specs.PutBack.{PutBackResult, Checked, Lawful, Faulty, check_trace, plan_fits, after_check, put_back_over, put_back_job}
use Rattle.put_back.specs.declared.PutBackRefusal.{PutBackRefusal}
use Rattle.std.specs.Prelude.{Err}
use Rattle.jobs.proofs.Opened.{sheet_each}
use Rattle.put_back.proofs.Opened.{put_back_plan_length_over, put_back_result_length_over, put_back_checked_over}

-- refused putting back leaves the result's buffer as it was
check_unaltered : (P : Problem) (p b : List ℕ) (c : Checked) (r : PutBackRefusal) → (after_check P p b c).answer ≡ Err r → (after_check P p b c).result ≡ b
check_unaltered P p b (Faulty e) r o = refl
check_unaltered P p b (Lawful u) r o = go (plan_fits P (after_trace P (full P) u) p) refl
  where
    go : (y : Bool) → plan_fits P (after_trace P (full P) u) p ≡ y → (after_check P p b (Lawful u)).result ≡ b
    go true e = let z : ◌≡◌ {A = ℕ} 0 1 = cc (rw (e, after_check) at o) in absurd (omega arith)
    go false e = rw (e, after_check)

pub put_back_unaltered_over : (P : Problem) (t p b : List ℕ) (r : PutBackRefusal) → (put_back_over P t p b).answer ≡ Err r → (put_back_over P t p b).result ≡ b
put_back_unaltered_over P t p b r o = by_plan (eq_dec (length p) P.n)
  where
    by_result : length p ≡ P.n → (length b ≡ P.n) ⊎ (length b ≢ P.n) → (put_back_over P t p b).result ≡ b
    by_result l (inl m) =
        let q = put_back_checked_over P t p b l m in
        ap (λ (y : PutBackResult). y.result) q ∙ check_unaltered P p b (check_trace P t) r (sym (ap (λ (y : PutBackResult). y.answer) q) ∙ o)
    by_result l (inr d) = ap (λ (y : PutBackResult). y.result) (put_back_result_length_over P t p b l d)

    by_plan : (length p ≡ P.n) ⊎ (length p ≢ P.n) → (put_back_over P t p b).result ≡ b
    by_plan (inl l) = by_result l (eq_dec (length b) P.n)
    by_plan (inr d) = ap (λ (y : PutBackResult). y.result) (put_back_plan_length_over P t p b d)

pub put_back_unaltered : (s t p b : List ℕ) (r : PutBackRefusal) → (put_back_job s t p b).answer ≡ Err r → (put_back_job s t p b).result ≡ b
unfolding put_back_job
put_back_unaltered s t p b r = sheet_each s _ _ (λ (y : PutBackResult). y.answer ≡ Err r → y.result ≡ b) (λ _ _ _. refl) (λ _. put_back_unaltered_over (problem_of layout s) t p b r)
