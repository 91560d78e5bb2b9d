-- The triangle rule over words, and what its failure rests on. Assumes nothing.
use Rattle.std.specs.Prelude.{Option, Some, None, true, false, not, is_some}
use mathlib.Core.Path.{◌≡◌, refl, sym, ◌∙◌}
use mathlib.Core.Bool.{Bool, ◌&&◌}
use mathlib.Core.Logic.Iff
use mathlib.Core.Logic.{inl, inr, ◌≢◌, ◌↔◌}
use mathlib.Core.List.{List}
use Prim.Native.Nat.{ℕ, ◌<◌}
use native.Mathlib.Omega.{arith}
use lib.Dec.{T, eqb}
use lib.Bits.{bit_and}
use lib.ListN.{get_or}
use Rattle.bounded.specs.Quantifiers.{lowest}
use Rattle.bounded.specs.Mask.{bit, mask_of, without}
use Rattle.bounded.proofs.Truth.{T_ext, T_of, T_not, T_true, T_false, and_iff, eqb_iff, eq_dec}
use Rattle.bounded.proofs.Mask.{bit_without16, mask_is, member_some}
use Rattle.bounded.proofs.Members.{Sought, sought_all, sought_next, sought_none, lowest_member}
use Rattle.problem.specs.Problem.{Problem, State, triangle_serves, triangle}
use Rattle.problem.specs.Held.{row_word, held}
use Rattle.problem.specs.Masks.{state_of}
use Rattle.problem.specs.declared.Masks.{Masks}
use Rattle.problem.proofs.Reflect.{turn, triangle_serves_iff, triangle_iff}
use Rattle.problem.specs.Sentences.{Active, Live, TriangleServes}
use Rattle.rests.proofs.Rests.{rests_fails, triangle_rests}
use Rattle.held.specs.Ready.{Ready}
use Rattle.held.proofs.Laws.{active_32, live_value, word_iff}
use Rattle.cover.specs.Words.{servers_in, thirds}
use Rattle.cover.specs.Broken.{BrokenIn}
use Rattle.cover.proofs.Laws.{broken_at, servers_in_iff, servers_lt, thirds_iff}
use Rattle.triangle.specs.Parts.{TriangleTried}
use Rattle.triangle.specs.declared.Unserved.{Unserved}

module _ (t : List ℕ) (m : Masks) (i j : ℕ) where
  -- the values of i that are allowed with v, and of those the ones that serve for it
  abbrev candidates : ℕ → ℕ
  candidates v = bit_and (get_or m.domains i 0) (row_word (held t) j i v)

  abbrev servers : ℕ → ℕ
  servers v = servers_in (held t) (state_of m) (thirds m.active i j) (candidates v) i j v

  -- v is a value of j for which nothing serves
  abbrev pub unserved_at : ℕ → Bool
  unserved_at v = bit (get_or m.domains j 0) v && eqb (servers v) 0

  unserved_iff : (v : ℕ) → T (unserved_at v) ↔ (T (bit (get_or m.domains j 0) v) × (servers v ≡ 0))
  unserved_iff v = simp (and_iff, eqb_iff) Iff.rfl

module _ {t : List ℕ} {m : Masks} (R : Ready t m) where
  abbrev P : Problem
  P = held t

  abbrev s : State
  s = state_of m

  module _ (i j : ℕ) (p : i < 32) (q : j < 32) where
    -- the variables other than i and j, and the domain of j
    abbrev rest : ℕ
    rest = thirds m.active i j

    abbrev domain : ℕ
    domain = get_or m.domains j 0

    abbrev word : ℕ → ℕ
    word = candidates t m i j

    servers_iff : (v u : ℕ) → T (bit (servers t m i j v) u) ↔ (Live s i u × TriangleServes P s i j v u)
    unfolding state_of
    servers_iff v u = (
      λ h. let x = (servers_in_iff R.fits rest (word v) i j v u).0 h in
          let y = (word_iff R j v i u).0 x.1 in
          (y.0, (turn P j v i u y.1, λ l a di dj. x.2 l (active_32 R l a) ((thirds_iff m.active i j l p q (active_32 R l a)).1 ((a, di), dj)))),
      λ x. (servers_in_iff R.fits rest (word v) i j v u).1 (
        (live_value R i u x.0).value,
        (word_iff R j v i u).1 (x.0, turn P i u j v x.1.0),
        λ l k h. let z = (thirds_iff m.active i j l p q k).0 h in x.1.1 l z.0.0 z.0.1 z.1,
      ),
    )

    pub servers_mask : (v : ℕ) → servers t m i j v ≡ mask_of 16 (λ u. s.live i u && triangle_serves P s i j v u)
    servers_mask v =
        mask_is 16 (servers t m i j v) (λ u. s.live i u && triangle_serves P s i j v u) (servers_lt P s rest (word v) i j v)
        (λ u k. T_ext (
          λ h. let x = (servers_iff v u).0 h in (and_iff (s.live i u) _).1 (x.0, (triangle_serves_iff R.fits i j v u).1 x.1),
          λ h. let x = (and_iff (s.live i u) (triangle_serves P s i j v u)).0 h in (servers_iff v u).1 (x.0, (triangle_serves_iff R.fits i j v u).0 x.1),
        ))

    pub tried_first : Sought 16 (unserved_at t m i j) domain domain
    tried_first = sought_all 16 _ _ (R.proper.domain_lt j q) (λ v k h. ((unserved_iff t m i j v).0 h).0)

    -- a value for which something serves
    pub tried_next : {left v some : ℕ} → Sought 16 (unserved_at t m i j) domain left → v < 16 → some ≡ servers t m i j v → some ≢ 0 → Sought 16 (unserved_at t m i j) domain (without 16 left v)
    tried_next {left} {v} S k e d = sought_next 16 bit_without16 S k (T_false _ (λ h. d (e ∙ ((unserved_iff t m i j v).0 h).1)))

    -- one for which nothing does: each candidate breaks
    pub tried_fails : {some broken v : ℕ} → v < 16 → Live s j v → BrokenIn P s rest (word v) some broken i j v → some ≡ 0 → TriangleTried P s i j (Some (record { value = v; rests = broken }))
    tried_fails {some} {broken} {v} k o B e = (
      k,
      triangle_rests i j v o (inr (refl, refl)) (λ u on a.
          let y = broken_at R.fits B u ((word_iff R j v i u).1 (on, turn P i u j v a)) (λ h. member_some some u h e) in
          let z = (thirds_iff m.active i j y.0 p q y.1).0 y.3 in
          (y.0, (z.0.1, z.1), λ c. inl y.2, y.4)),
    )

    -- none left: something serves for each
    pub tried_holds : {left : ℕ} → Active s i → Active s j → j ≢ i → left ≡ 0 → Sought 16 (unserved_at t m i j) domain left → TriangleTried P s i j None
    unfolding state_of
    tried_holds ai aj d e S = (
      ai,
      (
        aj,
        (
          d,
          λ v o. elim (eq_dec (servers t m i j v) 0) [
            | inl z ↦ absurd (sought_none S e v (live_value R j v o).value ((unserved_iff t m i j v).1 (o, z)))
            | inr n ↦ let y = (servers_iff v _).0 (lowest_member 16 (servers t m i j v) (servers_lt P s rest (word v) i j v) n).1 in (lowest 16 (bit (servers t m i j v)), y.0, y.1)
          ],
        ),
      ),
    )

  -- what trying tells of the rule
  pub tried_triangle : (i j : ℕ) (r : Option Unserved) (b : Bool) → TriangleTried P s i j r → is_some r ≡ not b → b ≡ triangle P s i j
  tried_triangle i j None true F e = sym (T_true _ ((triangle_iff R.fits i j).1 F))
  tried_triangle i j None false F e = absurd (T_of e)
  tried_triangle i j (Some u) true F e = absurd (T_not e tt)
  tried_triangle i j (Some u) false F e = sym (T_false _ (λ h. rests_fails R.fits F.1 ((triangle_iff R.fits i j).0 h)))
