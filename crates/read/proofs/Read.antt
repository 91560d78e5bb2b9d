-- What the number of the read check tells: a refusal's, or the variables and the blocks come back. Assumes nothing.
use mathlib.Core.Path.{◌≡◌, refl, sym, ap, ◌∙◌}
use mathlib.Core.List.{List}
use Prim.Native.Nat.{ℕ, zero, suc, ◌+◌, ◌-◌, ◌*◌, ◌≤◌, ◌/◌, ◌%◌}
use native.Mathlib.Omega.{arith}
use Rattle.buffers.specs.Bytes.{byte_at}
use Rattle.sheet.specs.Sheet.{layout, variables_of, blocks_of, read_sheet, Front, sheet_number, SheetRead, accepted}
use Rattle.std.specs.Prelude.{Err, Ok}
use Rattle.sheet.proofs.Laws.{accepted_parts}
use Rattle.sheet.proofs.Accepted.{Good, facts, keeps, here}
use mathlib.Core.Logic.{◌⊎◌, inl, inr, ◌≢◌, ◌↔◌}
use Rattle.sheet.specs.declared.SheetRefusal.{SheetRefusal}
use Rattle.read.specs.Read.{read_number, read_call}
use Rattle.boundary.proofs.Answers.{Refuses, sheet_listed, refused_keeps, taken_iff}

-- the blocks rise in their order, which has 1,024 places
blocks_few : (s : List ℕ) → Front s → (k least p : ℕ) → least ≤ 1024 → Good layout s k least p → k + least ≤ 1024
blocks_few s f zero least p l g = omega arith
blocks_few s f (suc k) least p l g =
    let h = here layout s (suc k) least p (omega arith) g in
    let one : suc k - 1 ≡ k = omega arith in
    let few = f.few in
    let r = h.block.rises in
    let e = h.block.ends in
    let a = h.after in
    let rest : k + (32 * byte_at s p + byte_at s (p + 1) + 1) ≤ 1024 = blocks_few s f k _ _ (omega arith) (rw one at h.rest) in
    omega arith

pub read_small : (s : List ℕ) (n m : ℕ) → read_sheet layout s ≡ accepted n m → (n ≤ 32) × (m ≤ 1024)
read_small s n m e =
    let K = keeps layout s n m e in
    let F = facts layout s K in
    let few = F.front.few in
    let b = blocks_few s F.front (blocks_of s) 0 (8 + variables_of s) (omega arith) F.laid in
    let p = accepted_parts (sym e ∙ K) in
    let n_is = p.0 in
    let m_is = p.1 in
    (omega arith, omega arith)

-- ---- what the number tells

-- accepted: the variables and the blocks come back
pub read_unpacked : (s : List ℕ) (n m : ℕ) → read_sheet layout s ≡ accepted n m → (read_call s % 256 ≡ 0) × (read_call s / 256 % 256 ≡ n) × (read_call s / 65536 ≡ m)
read_unpacked s n m e =
    let l = read_small s n m e in
    let q : read_call s ≡ 256 * (n + 256 * m) = ap read_number e in
    (omega arith, omega arith, omega arith)

abbrev pub ReadTaken : List ℕ → Type 0
ReadTaken s = (n : ℕ) × (m : ℕ) × (read_sheet layout s ≡ accepted n m)

abbrev pub ReadRefused : List ℕ → Type 0
ReadRefused s = (r : SheetRefusal) × (read_sheet layout s ≡ Err r) × (read_call s ≡ sheet_number r)

read_either : (s : List ℕ) → ReadTaken s ⊎ (Refuses (read_call s) × ReadRefused s)
read_either s = go (read_sheet layout s) refl
  where
    go : (y : SheetRead) → read_sheet layout s ≡ y → ReadTaken s ⊎ (Refuses (read_call s) × ReadRefused s)
    go (Ok a) e = inl (a.variables, a.blocks, e)
    go (Err r) e =
        let q : read_call s ≡ sheet_number r = ap read_number e in
        let l = sheet_listed r in
        inr ((omega arith, omega arith), (r, e, q))

-- the remainder is 0 exactly where the sheet is accepted, and otherwise the answer is the refusal's number
pub read_taken : (s : List ℕ) → (read_call s % 256 ≡ 0) ↔ ReadTaken s
read_taken s = taken_iff _ _ _ (read_either s) (λ x. (read_unpacked s x.0 x.1 x.2).0)

pub read_refused : (s : List ℕ) → read_call s % 256 ≢ 0 → ReadRefused s
read_refused s = refused_keeps _ _ _ (read_either s) (λ x. (read_unpacked s x.0 x.1 x.2).0)
