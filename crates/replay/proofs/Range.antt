-- A record with fields that the table cannot name: no rule holds of it, and nothing is named of it. Assumes nothing.
use mathlib.Core.Path.{◌≡◌, sym, ap, ◌∙◌, subst}
use mathlib.Core.Bool.{Bool, true, false, ◌&&◌}
use mathlib.Core.List.{List}
use Prim.Native.Nat.{ℕ, ◌≤◌, ◌<◌}
use native.Mathlib.Omega.{arith}
use lib.Dec.{ltb}
use borrow.Author.Tests.{ltb-true}
use Rattle.bounded.proofs.Truth.{T_of, T_not, T_false, both, and_iff, ltb_iff}
use Rattle.problem.specs.Problem.{Problem, State, none_empty, unsupported, snake, triangle, neighbourhood, snake_substitution, substitution_spares, cover_asked}
use Rattle.problem.specs.Run.{holds, lawful_by, lawful, after}
use Rattle.problem.specs.Held.{held}
use Rattle.problem.specs.Masks.{state_of, masks_of}
use Rattle.problem.specs.declared.Masks.{Masks}
use Rattle.problem.specs.declared.Record.{Record}
use Rattle.problem.proofs.Reflect.{unsupported_iff, snake_iff, triangle_iff, neighbourhood_iff, snake_substitution_iff}
use Rattle.held.specs.Ready.{Ready, Value}
use Rattle.held.proofs.Laws.{live_value, active_32}
use Rattle.steps.proofs.States.{after_state, after_ready, live_within}

-- two and three tests of range
pub range2 : (i m j n : ℕ) → (ltb i m && ltb j n) ≡ true → (i < m) × (j < n)
range2 i m j n e = let x = both (ltb i m) (ltb j n) e in (ltb-true i m x.0, ltb-true j n x.1)

pub range3 : (i m j n k l : ℕ) → (ltb i m && (ltb j n && ltb k l)) ≡ true → (i < m) × (j < n) × (k < l)
range3 i m j n k l e =
    let x = both (ltb i m) (ltb j n && ltb k l) e in
    let y = range2 j n k l x.1 in
    (ltb-true i m x.0, y.0, y.1)

out2 : (i m j n : ℕ) → (ltb i m && ltb j n) ≡ false → (i < m) × (j < n) → ⊥
out2 i m j n e h = T_not e (simp (and_iff, ltb_iff) h)

out3 : (i m j n k l : ℕ) → (ltb i m && (ltb j n && ltb k l)) ≡ false → (i < m) × ((j < n) × (k < l)) → ⊥
out3 i m j n k l e h = T_not e (simp (and_iff, ltb_iff) h)

module _ {t : List ℕ} {m : Masks} (R : Ready t m) where
  -- ---- out of range no rule holds

  pub unsupported_out : (i b k : ℕ) → (ltb i 32 && (ltb b 16 && ltb k 32)) ≡ false → unsupported (held t) (state_of m) i b k ≡ false
  unsupported_out i b k e = T_false _ (λ h. out3 i 32 b 16 k 32 e (let x = (unsupported_iff R.fits i b k).0 h in let y = live_within R i b x.0 in (y.0, (y.1, active_32 R k x.1))))

  pub snake_out : (i v : ℕ) → (ltb i 32 && ltb v 16) ≡ false → snake (held t) (state_of m) i v ≡ false
  snake_out i v e = T_false _ (λ h. out2 i 32 v 16 e (live_within R i v ((snake_iff R.fits i v).0 h).0))

  pub triangle_out : (i j : ℕ) → (ltb i 32 && ltb j 32) ≡ false → triangle (held t) (state_of m) i j ≡ false
  triangle_out i j e = T_false _ (λ h. out2 i 32 j 32 e (let x = (triangle_iff R.fits i j).0 h in (active_32 R i x.0, active_32 R j x.1.0)))

  pub neighbourhood_out : (i b a : ℕ) → (ltb i 32 && (ltb b 16 && ltb a 16)) ≡ false → neighbourhood (held t) (state_of m) i b a ≡ false
  neighbourhood_out i b a e = T_false _ (λ h. out3 i 32 b 16 a 16 e (let x = (neighbourhood_iff R.fits i b a).0 h in let y = live_within R i b x.0 in (y.0, (y.1, (live_within R i a x.1.0).1))))

  pub substitution_out : (i b a : ℕ) → (ltb i 32 && (ltb b 16 && ltb a 16)) ≡ false → snake_substitution (held t) (state_of m) substitution_spares i b a ≡ false
  substitution_out i b a e = T_false _ (λ h. out3 i 32 b 16 a 16 e (let x = (snake_substitution_iff R.fits substitution_spares i b a).0 h in let y = live_within R i b x.0 in (y.0, (y.1, (live_within R i a x.1.0).1))))

  -- ---- what is named of a record

  pub asked_out : (i b a : ℕ) → 32 ≤ i → false ≡ cover_asked (held t) (state_of m) i b a
  unfolding cover_asked
  asked_out i b a n = sym (T_false _ (λ h. let l = active_32 R i (simp and_iff at h).0 in omega arith))

  pub asked_values : (i b a : ℕ) → cover_asked (held t) (state_of m) i b a ≡ true → Value t i a × Value t i b
  unfolding cover_asked
  asked_values i b a e =
      let h = (simp and_iff at (T_of e)) in
      (live_value R i a h.1.1.0, live_value R i b h.1.1.1.0)

  -- ---- a step

  -- what a step answers is a state again, and says the state after it
  pub step_on : (r : Record) (x : Masks) → x ≡ masks_of (after (held t) (state_of m) r) → Ready t x × (state_of x ≡ after (held t) (state_of m) r)
  step_on r x e = (subst (Ready t) (sym e) (after_ready R r), ap state_of e ∙ after_state R r)

module _ (P : Problem) (s : State) (r : Record) where
  pub lawful_on : none_empty P s ≡ true → holds P s r ≡ lawful P s r
  unfolding lawful_by
  lawful_on e = ap (λ (b : Bool). b && holds P s r) (sym e)

  pub lawful_off : none_empty P s ≡ false → false ≡ lawful P s r
  unfolding lawful_by
  lawful_off e = ap (λ (b : Bool). b && holds P s r) (sym e)
