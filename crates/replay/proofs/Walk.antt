-- A trace checked from a place on: what each record adds, and what a lawful trace says of its first record. Assumes nothing.
use mathlib.Core.Path.{◌≡◌, refl, sym, ap, ◌∙◌}
use mathlib.Core.Bool.{Bool, true, false, ◌&&◌}
use mathlib.Core.List.{List, [], ◌∷◌}
use Prim.Native.Nat.{ℕ, suc, ◌+◌, ◌-◌}
use native.Mathlib.Omega.{arith}
use lib.Dec.{T, ltb, eqb}
use lib.ListN.{length}
use borrow.Author.Tests.{lt-ltb, le-ltb, eq-eqb, ne_eqb}
use Rattle.problem.specs.Problem.{Problem, State, full}
use Rattle.problem.specs.Run.{lawful, broken_cover, after, lawful_trace, after_trace}
use Rattle.problem.specs.declared.Record.{Record}
use Rattle.problem.specs.Masks.{masks_of}
use Rattle.problem.specs.declared.Masks.{Masks}
use Rattle.buffers.specs.Bytes.{byte_at}
use Rattle.trace.specs.Trace.{record_at}
use Rattle.put_back.specs.PutBack.{Checked, Lawful as Records, Faulty, unlawful_record, with_record, check_from, check_trace}
use Rattle.trace.specs.declared.RecordRead.{RecordRead}
use Rattle.trace.specs.declared.RecordRead.TheVariants as record·
use Rattle.put_back.specs.declared.PutBackRefusal.{PutBackRefusal}
use Rattle.put_back.specs.declared.PutBackRefusal.TheVariants.{TraceFront, Malformed}
use Rattle.trace.proofs.Back.{next_after}
use Rattle.put_back.proofs.Checked.{records_iff, check_fuel}
use Rattle.replay.specs.Walk.{checked_from, walk_ended, lawful_end}
use Rattle.replay.specs.declared.TraceEnd.{TraceEnd}
use Rattle.std.specs.Prelude.{Err}

-- ---- the definition over its tests

-- y is the fault where the test fails
abbrev ruled : Bool → Record → Checked → PutBackRefusal → Checked
ruled b r c y = elim b [ true ↦ with_record r c | false ↦ Faulty y ]

abbrev judged : Problem → State → (k : ℕ) → (Record → ℕ → Checked) → RecordRead → Checked
judged P s k f x =
    elim x [
      | record·.End ↦ Records []
      | record·.Malformed ↦ Faulty Malformed
      | record·.Read r next ↦ elim (lawful P s r) [ true ↦ with_record r (f r next) | false ↦ Faulty (unlawful_record k (broken_cover P s r)) ]
    ]

abbrev fronted : Problem → List ℕ → Bool → Checked
fronted P t b = elim b [ true ↦ check_from (suc (length t)) P t (full P) 0 1 | false ↦ Faulty TraceFront ]

-- a check that ends lawfully, taken apart
parts : (b : Bool) (r : Record) (c : Checked) (y : PutBackRefusal) (ts : List Record) → ruled b r c y ≡ Records ts → (b ≡ true) × ((rest : List Record) × (c ≡ Records rest) × (ts ≡ r ∷ rest))
parts true r (Records rest) y ts e = (refl, (rest, refl, cc))
parts true r (Faulty x) y ts e = let z : ◌≡◌ {A = ℕ} 0 1 = cc in absurd (omega arith)
parts false r c y ts e = let z : ◌≡◌ {A = ℕ} 0 1 = cc in absurd (omega arith)

module _ (P : Problem) (t : List ℕ) where
  -- what a lawful trace comes to is the same from whatever number its records are counted
  recounted : (s : State) (j k p : ℕ) (ts : List Record) → checked_from P t s j p ≡ Records ts → checked_from P t s k p ≡ Records ts
  unfolding checked_from
  recounted s j k p ts e = (records_iff P t (suc (length t - p)) s k p (omega arith) (Records ts)).1 ((records_iff P t (suc (length t - p)) s j p (omega arith) (Records ts)).0 e)

  -- ---- one place

  module _ (s : State) (k p : ℕ) where
    pub checked_end : record_at t p ≡ record·.End → checked_from P t s k p ≡ Records []
    unfolding checked_from check_from
    checked_end e = ap (judged P s k (λ r q. check_from (length t - p) P t (after P s r) (k + 1) q)) e

    pub checked_malformed : record_at t p ≡ record·.Malformed → checked_from P t s k p ≡ Faulty Malformed
    unfolding checked_from check_from
    checked_malformed e = ap (judged P s k (λ r q. check_from (length t - p) P t (after P s r) (k + 1) q)) e

    -- the fault where a record that stands here is not lawful
    abbrev unlawful : Record → PutBackRefusal
    unlawful r = unlawful_record k (broken_cover P s r)

    checked_read : (r : Record) (q : ℕ) → record_at t p ≡ record·.Read r q → checked_from P t s k p ≡ ruled (lawful P s r) r (checked_from P t (after P s r) (k + 1) q) (unlawful r)
    unfolding checked_from check_from
    checked_read r q e =
        let n = next_after t p r q e in
        ap (judged P s k (λ r q. check_from (length t - p) P t (after P s r) (k + 1) q)) e
        ∙ ap (λ (c : Checked). ruled (lawful P s r) r c (unlawful r)) (check_fuel P t (length t - p) (suc (length t - q)) (after P s r) (k + 1) q (omega arith) (omega arith))

    pub checked_unlawful : (r : Record) (q : ℕ) → record_at t p ≡ record·.Read r q → lawful P s r ≡ false → checked_from P t s k p ≡ Faulty (unlawful_record k (broken_cover P s r))
    checked_unlawful r q e h = checked_read r q e ∙ ap (λ (b : Bool). ruled b r (checked_from P t (after P s r) (k + 1) q) (unlawful r)) h

    pub checked_lawful : (r : Record) (q : ℕ) → record_at t p ≡ record·.Read r q → lawful P s r ≡ true → checked_from P t s k p ≡ with_record r (checked_from P t (after P s r) (k + 1) q)
    checked_lawful r q e h = checked_read r q e ∙ ap (λ (b : Bool). ruled b r (checked_from P t (after P s r) (k + 1) q) (unlawful r)) h

    -- the first record of a lawful trace, and the rest, counted from any number
    pub first_lawful : (r : Record) (q : ℕ) (ts : List Record) → record_at t p ≡ record·.Read r q → checked_from P t s k p ≡ Records ts → (j : ℕ)
        → (lawful P s r ≡ true) × ((rest : List Record) × (checked_from P t (after P s r) j q ≡ Records rest) × (ts ≡ r ∷ rest))
    first_lawful r q ts e h j =
        let x = parts (lawful P s r) r (checked_from P t (after P s r) (k + 1) q) (unlawful r) ts (sym (checked_read r q e) ∙ h) in
        (x.0, (x.1.0, recounted (after P s r) (k + 1) j q x.1.0 x.1.1, x.1.2))

  -- ---- the whole trace

  pub checked_trace : (s : State) (k p : ℕ) (ts : List Record) → checked_from P t s k p ≡ Records ts → T (lawful_trace P s ts)
  unfolding checked_from
  checked_trace s k p ts e = ((records_iff P t (suc (length t - p)) s k p (omega arith) (Records ts)).0 e).1

  pub no_front : length t ≡ 0 → check_trace P t ≡ Faulty TraceFront
  unfolding check_trace
  no_front e = ap (λ (b : Bool). fronted P t (b && eqb (byte_at t 0) 1)) (le-ltb 0 (length t) (omega arith))

  pub wrong_front : (length t ≡ 0 → ⊥) → (byte_at t 0 ≡ 1 → ⊥) → check_trace P t ≡ Faulty TraceFront
  unfolding check_trace
  wrong_front n e = λ i. fronted P t (lt-ltb 0 (length t) (omega arith) i && ne_eqb (byte_at t 0) 1 e i)

  pub right_front : (length t ≡ 0 → ⊥) → byte_at t 0 ≡ 1 → check_trace P t ≡ checked_from P t (full P) 0 1
  unfolding check_trace checked_from
  right_front n e =
      (λ i. fronted P t (lt-ltb 0 (length t) (omega arith) i && eq-eqb (byte_at t 0) 1 e i))
      ∙ check_fuel P t (suc (length t)) (suc (length t - 1)) (full P) 0 1 (omega arith) (omega arith)

  -- a lawful trace has its front
  pub front_lawful : (ts : List Record) → check_trace P t ≡ Records ts → checked_from P t (full P) 0 1 ≡ Records ts
  unfolding check_trace checked_from
  front_lawful ts e = go (ltb 0 (length t) && eqb (byte_at t 0) 1) e
    where
      go : (b : Bool) → fronted P t b ≡ Records ts → check_from (suc (length t - 1)) P t (full P) 0 1 ≡ Records ts
      go true h = check_fuel P t (suc (length t - 1)) (suc (length t)) (full P) 0 1 (omega arith) (omega arith) ∙ h
      go false h = let z : ◌≡◌ {A = ℕ} 0 1 = cc in absurd (omega arith)

-- one record more leads to the same end from the state after it
pub ended_more : (P : Problem) (s : State) (r : Record) (c : Checked) → walk_ended P s (with_record r c) ≡ walk_ended P (after P s r) c
unfolding after_trace
ended_more P s r (Records ts) = refl
ended_more P s r (Faulty e) = refl

-- what an end says of the check
pub ended_lawful : (P : Problem) (s : State) (c : Checked) (m : Masks) → walk_ended P s c ≡ lawful_end m → (ts : List Record) × (c ≡ Records ts) × (m ≡ masks_of (after_trace P s ts))
ended_lawful P s (Records ts) m e = (ts, refl, ap (λ (x : TraceEnd). x.state) (sym e))
ended_lawful P s (Faulty f) m e = let q = ap (λ (x : TraceEnd). x.check) e in let z : ◌≡◌ {A = ℕ} 0 1 = cc in absurd (omega arith)

pub ended_fault : (P : Problem) (s : State) (c : Checked) (x : TraceEnd) (f : PutBackRefusal) → x ≡ walk_ended P s c → x.check ≡ Err f → c ≡ Faulty f
ended_fault P s (Records ts) x f e h = let q = ap (λ (x : TraceEnd). x.check) e in let z : ◌≡◌ {A = ℕ} 0 1 = cc in absurd (omega arith)
ended_fault P s (Faulty g) x f e h = let q = ap (λ (x : TraceEnd). x.check) e in cc
