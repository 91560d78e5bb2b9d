-- The cases of what stands at a place of a trace. Assumes nothing.
use Rattle.std.specs.Prelude.{Option, Some, None}
use mathlib.Core.Path.{◌≡◌, refl, ap, ◌∙◌, subst}
use mathlib.Core.Bool.{Bool, true, false, ◌&&◌}
use mathlib.Core.List.{List}
use mathlib.Core.Logic.{◌⊎◌, inl, inr}
use Prim.Native.Nat.{ℕ, suc, ◌+◌, ◌≤◌, ◌<◌}
use native.Mathlib.Omega.{arith}
use lib.Dec.{T, ltb, eqb}
use lib.ListN.{length}
use borrow.Author.Tests.{lt-ltb, le-ltb}
use Rattle.bounded.proofs.Truth.{T_true, T_false, T_dec, lt_dec, and_iff, eqb_iff, ltb_iff}
use Rattle.buffers.specs.Bytes.{byte_at}
use Rattle.problem.specs.Record.{fields_of}
use Rattle.problem.specs.declared.Record.{Record}
use Rattle.trace.specs.Trace.{numbered_at, whole_at, record_at}
use Rattle.trace.specs.declared.RecordRead.{RecordRead}
use Rattle.trace.specs.declared.RecordRead.TheVariants.{Read, End, Malformed}

-- the definition over its tests
abbrev picked : List ℕ → ℕ → Bool → Option Record → RecordRead
picked s p a x = elim a [ false ↦ End | true ↦ whole_at s p x ]

abbrev taken : List ℕ → ℕ → Record → Bool → RecordRead
taken s p r b = elim b [ true ↦ Read r (p + 1 + byte_at s p) | false ↦ Malformed ]

module _ (s : List ℕ) (p : ℕ) where
  -- the length byte is the record's, and it is not cut short
  abbrev is_whole : Record → Bool
  is_whole r = eqb (byte_at s p) (suc (length (fields_of r))) && ltb (p + byte_at s p) (length s)

  pub at_end : length s ≤ p → record_at s p ≡ End
  unfolding record_at
  at_end h = ap (λ (b : Bool). picked s p b (numbered_at s p)) (le-ltb p (length s) h)

  pub at_none : p < length s → numbered_at s p ≡ None → record_at s p ≡ Malformed
  unfolding record_at
  at_none h e = λ i. picked s p (lt-ltb p (length s) h i) (e i)

  at_kind : (r : Record) → p < length s → numbered_at s p ≡ Some r → record_at s p ≡ taken s p r (is_whole r)
  unfolding record_at
  at_kind r h e = λ i. picked s p (lt-ltb p (length s) h i) (e i)

  at_broken : (r : Record) → p < length s → numbered_at s p ≡ Some r → (T (is_whole r) → ⊥) → record_at s p ≡ Malformed
  at_broken r h e f = at_kind r h e ∙ ap (taken s p r) (T_false (is_whole r) f)

  -- a length byte that is not the kind's, and one that is
  pub at_wrong : (r : Record) → p < length s → numbered_at s p ≡ Some r → (byte_at s p ≡ suc (length (fields_of r)) → ⊥) → record_at s p ≡ Malformed
  at_wrong r h e n = at_broken r h e (λ t. n (simp (and_iff, eqb_iff, ltb_iff) at t).0)

  pub at_record : (r : Record) → p + byte_at s p < length s → numbered_at s p ≡ Some r → byte_at s p ≡ suc (length (fields_of r)) → record_at s p ≡ Read r (p + 1 + byte_at s p)
  at_record r h e q = at_kind r (omega arith) e ∙ ap (taken s p r) (T_true (is_whole r) (simp (and_iff, eqb_iff, ltb_iff) (q, h)))

  -- what a record that is read is read from
  pub record ReadFrom (r : Record) (q : ℕ) : Type 0 where
    pub made : numbered_at s p ≡ Some r
    pub long : byte_at s p ≡ suc (length (fields_of r))
    pub inside : p + byte_at s p < length s
    pub next : q ≡ p + 1 + byte_at s p

  -- where bytes are left they are malformed, or a record's
  inside_cases : p < length s → (record_at s p ≡ Malformed) ⊎ ((r : Record) × (record_at s p ≡ Read r (p + 1 + byte_at s p)) × ReadFrom r (p + 1 + byte_at s p))
  inside_cases h = kinds (numbered_at s p) refl
    where
      whole : (r : Record) → numbered_at s p ≡ Some r → T (is_whole r) ⊎ (T (is_whole r) → ⊥) → (record_at s p ≡ Malformed) ⊎ ((r : Record) × (record_at s p ≡ Read r (p + 1 + byte_at s p)) × ReadFrom r (p + 1 + byte_at s p))
      whole r f (inr n) = inl (at_broken r h f n)
      whole r f (inl t) = let w = simp (and_iff, eqb_iff, ltb_iff) at t in inr (r, at_record r w.1 f w.0, record { made = f; long = w.0; inside = w.1; next = refl })

      kinds : (x : Option Record) → numbered_at s p ≡ x → (record_at s p ≡ Malformed) ⊎ ((r : Record) × (record_at s p ≡ Read r (p + 1 + byte_at s p)) × ReadFrom r (p + 1 + byte_at s p))
      kinds None f = inl (at_none h f)
      kinds (Some r) f = whole r f (T_dec (is_whole r))

  -- cut short
  pub at_cut : p < length s → length s ≤ p + byte_at s p → record_at s p ≡ Malformed
  at_cut h l = elim (inside_cases h) [ inl e ↦ e | inr x ↦ absurd (omega (arith, x.2.inside)) ]

  none : ◌≡◌ {A = ℕ} 0 1 → ⊥
  none e = omega arith

  -- what is read as the end is the end, and what is read as a record is one
  pub end_only : record_at s p ≡ End → length s ≤ p
  end_only e = elim (lt_dec p (length s)) [ inr l ↦ l | inl h ↦ absurd (elim (inside_cases h) [ inl f ↦ none cc | inr x ↦ let f = x.1 in none cc ]) ]

  pub read_from : (r : Record) (q : ℕ) → record_at s p ≡ Read r q → ReadFrom r q
  read_from r q e = at_place (lt_dec p (length s))
    where
      by : (record_at s p ≡ Malformed) ⊎ ((r : Record) × (record_at s p ≡ Read r (p + 1 + byte_at s p)) × ReadFrom r (p + 1 + byte_at s p)) → ReadFrom r q
      by (inl f) = absurd (none cc)
      by (inr (x, f, F)) =
          let y : x ≡ r = cc in
          let z : p + 1 + byte_at s p ≡ q = cc in
          subst (ReadFrom r) z (subst (λ (u : Record). ReadFrom u (p + 1 + byte_at s p)) y F)

      at_place : (p < length s) ⊎ (length s ≤ p) → ReadFrom r q
      at_place (inl h) = by (inside_cases h)
      at_place (inr h) = let f = at_end h in absurd (none cc)
