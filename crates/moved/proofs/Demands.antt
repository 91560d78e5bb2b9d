-- What a moved sheet is. Assumes nothing.
use Rattle.std.specs.Prelude.{Ok}
use mathlib.Core.Path.{◌≡◌, refl, sym, ap, ◌∙◌}
use mathlib.Core.Bool.{true}
use mathlib.Core.List.{List, ◌∷◌}
use mathlib.Core.Logic.{inl, inr}
use Prim.Native.Nat.{ℕ, ◌/◌, ◌%◌, ◌≤◌, ◌<◌}
use native.Mathlib.Omega.{arith}
use lib.ListN.{length, take, drop}
use Rattle.bounded.proofs.Truth.{clash}
use Rattle.problem.specs.Problem.{Problem}
use Rattle.problem.specs.PutBack.{solves_whole}
use Rattle.buffers.specs.Bytes.{AreBytes}
use Rattle.sheet.specs.Sheet.{layout, version_of, variables_of, size_at, Keeps}
use Rattle.sheet.specs.Relation.{rows_of, problem_of}
use Rattle.std.specs.Prelude.{None, Option, Some}
use Rattle.sheet.proofs.Accepted.{facts, problem_bounded}
use Rattle.sheet.proofs.Versions.{both_versions, width_wide}
use Rattle.sheet.specs.Causes.{KnownVersion}
use Rattle.jobs.proofs.Opened.{variables_of_lem}
use Rattle.compose.specs.Compose.{pair_bars, has_block, sheet_bytes}
use Rattle.compose.proofs.Rows.{has_block_lem}
use Rattle.compose.proofs.Blocks.{layout_roomy, sized, free_none}
use Rattle.compose.proofs.Written.{written_keeps, written_problem, written_short}
use Rattle.compose.proofs.Canonical.{written_canonical}
use Rattle.compose.proofs.Widths.{first_byte_only, version_2_short}
use Rattle.moved.specs.Move.{other_version, moved_bytes, move_done, move_job}
use Rattle.moved.proofs.Job.{other_twice, moved_taken}
use Rattle.moved.proofs.Causes.{move_done_lem, move_written}

module _ (s : List ℕ) (K : Keeps layout s) where
  some : 1 ≤ (problem_of layout s).n
  some = let e = variables_of_lem s in let h = (facts layout s K).front.some in omega arith

  -- what is moved keeps the layout
  pub move_keeps : Keeps layout (moved_bytes s)
  unfolding moved_bytes
  move_keeps = written_keeps layout (other_version (version_of s)) (problem_of layout s) layout_roomy (moved_taken s K) (problem_bounded s K) some

  -- in the other version
  pub move_version : version_of (moved_bytes s) ≡ other_version (version_of s)
  unfolding moved_bytes sheet_bytes
  move_version = refl

  -- it is the same problem
  pub move_same : problem_of layout (moved_bytes s) ≡ problem_of layout s
  unfolding moved_bytes
  move_same = written_problem layout (other_version (version_of s)) (problem_of layout s) layout_roomy (moved_taken s K) (problem_bounded s K) some

  -- "with the same plans"
  pub move_plans : (p : ℕ → ℕ) → solves_whole (problem_of layout (moved_bytes s)) p ≡ solves_whole (problem_of layout s) p
  move_plans p = ap (λ (P : Problem). solves_whole P p) move_same

  pub move_short : length (moved_bytes s) ≤ 16904
  unfolding moved_bytes
  move_short = written_short layout (other_version (version_of s)) (problem_of layout s) layout_roomy (moved_taken s K) (problem_bounded s K) some

  module _ (bytes : AreBytes s) where
    -- the sheet, written in its own version
    own : (v : ℕ) → version_of s ≡ v → sheet_bytes layout v (problem_of layout s) ≡ s
    own v e = ap (λ (x : ℕ). sheet_bytes layout x (problem_of layout s)) (sym e) ∙ written_canonical layout s K bytes

    -- "Both ways sheets come back byte for byte": of whichever version s is
    pub move_back : moved_bytes (moved_bytes s) ≡ s
    unfolding moved_bytes
    move_back =
        (λ i. sheet_bytes layout (other_version (move_version i)) (move_same i))
        ∙ ap (λ (x : ℕ). sheet_bytes layout x (problem_of layout s)) (other_twice (version_of s) (both_versions s K))
        ∙ written_canonical layout s K bytes

    -- the sheet is as long as its problem in its version v, and the moved one as that in the other version u
    lengths : (v u : ℕ) → version_of s ≡ v → other_version v ≡ u
        → (length s ≡ length (sheet_bytes layout v (problem_of layout s))) × (length (moved_bytes s) ≡ length (sheet_bytes layout u (problem_of layout s)))
    unfolding moved_bytes
    lengths v u e o =
        (sym (ap length (own v e)), ap (λ (x : ℕ). length (sheet_bytes layout x (problem_of layout s))) (ap other_version e ∙ o))

    -- "Version 2 is never the longer one.": to it, and from it
    pub move_shorter : version_of s ≡ 1 → length (moved_bytes s) ≤ length s
    move_shorter e = let l = version_2_short (problem_of layout s) (problem_bounded s K) in let q = lengths 1 2 e refl in omega arith

    pub move_longer : version_of s ≡ 2 → length s ≤ length (moved_bytes s)
    move_longer e = let l = version_2_short (problem_of layout s) (problem_bounded s K) in let q = lengths 2 1 e refl in omega arith

    -- "Where no block's j has 8 settings or fewer the two differ in byte 0 only."
    pub move_wide : ((i j r : ℕ) → rows_of layout s i j ≡ Some r → 8 < size_at s j) → moved_bytes s ≡ other_version (version_of s) ∷ drop 1 s
    unfolding moved_bytes
    move_wide wide =
        first_byte_only layout (problem_of layout s) (version_of s) (other_version (version_of s)) (λ x h. two (both_versions s K) (large x h))
        ∙ ap (λ (l : List ℕ). other_version (version_of s) ∷ drop 1 l) (written_canonical layout s K bytes)
      where
        large : (x : ℕ) → has_block (problem_of layout s) x ≡ true → 8 < (problem_of layout s).size (x % 32)
        large x h =
            let b = has_block_lem (problem_of layout s) x h in
            let e = variables_of_lem s in
            let l = b.ends in
            let z = sized layout s (x % 32) (omega arith) in
            go (rows_of layout s (x / 32) (x % 32)) refl b.rises (let y : x % 32 < variables_of s = omega arith in y) b.bar z
          where
            go : (r : Option ℕ) → rows_of layout s (x / 32) (x % 32) ≡ r → x / 32 < x % 32 → x % 32 < variables_of s → pair_bars (problem_of layout s) (x / 32) (x % 32) ≡ true
                → (problem_of layout s).size (x % 32) ≡ size_at s (x % 32) → 8 < (problem_of layout s).size (x % 32)
            go (Some r) e h l b z = let m = wide (x / 32) (x % 32) r e in omega arith
            go None e h l b z = absurd (clash b (free_none layout s K (x / 32) (x % 32) h l e))

        two : KnownVersion (version_of s) → {z : ℕ} → 8 < z → layout.width (other_version (version_of s)) z ≡ layout.width (version_of s) z
        two (inl e) {z} h = rw e (width_wide z h)
        two (inr e) {z} h = rw e (sym (width_wide z h))

-- a target of the longest sheet's length is never too short
pub move_room : (s b : List ℕ) → Keeps layout s → 16904 ≤ length b → move_job s b ≡ move_done (moved_bytes s) b
move_room s b K h = let l = move_short s K in move_done_lem s b K (omega arith)

-- a moved sheet is moved again: what stands in the target is the sheet, byte for byte
pub move_again : (s c : List ℕ) → Keeps layout s → AreBytes s → length s ≤ length c → move_job (moved_bytes s) c ≡ move_done s c
move_again s c K bytes h =
    let back = move_back s K bytes in
    let l = ap length back in
    move_done_lem (moved_bytes s) c (move_keeps s K) (omega arith) ∙ ap (λ (x : List ℕ). move_done x c) back

-- the same of what a move wrote, lent to another
pub move_twice : (s b c : List ℕ) → AreBytes s → (w : ℕ) → (move_job s b).answer ≡ Ok w → length s ≤ length c
    → move_job (take w (move_job s b).target) c ≡ move_done s c
move_twice s b c bytes w e h =
    let m = move_written s b w e in
    ap (λ (x : List ℕ). move_job x c) m.sheet ∙ move_again s c m.keeps bytes h

-- the bytes written are few
pub move_longest : (s b : List ℕ) (w : ℕ) → (move_job s b).answer ≡ Ok w → w ≤ 16904
move_longest s b w e = let m = move_written s b w e in let l = move_short s m.keeps in omega (arith, m.length_is)
