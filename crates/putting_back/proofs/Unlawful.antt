-- "Refusal 17 carries the record's number, from 0, and, for a kind 4 record with i in, a and b different and on, and no item in left without a
-- setting, the lowest item where the cover breaks and the lowest setting that spoils it there; for every other cause both are 255." Here: what
-- a refusal by 17 with three numbers shows. That it is made for nothing else, and wherever this holds: `put_back_iff`. Assumes nothing.
use mathlib.Core.Path.{◌≡◌, ◌∙◌}
use mathlib.Core.List.{List, ◌++◌}
use mathlib.Core.Logic.{inl, inr, ◌≢◌, ◌↔◌}
use Prim.Native.Nat.{ℕ, ◌≤◌, ◌<◌}
use native.Mathlib.Omega.{arith}
use lib.Dec.{T}
use lib.ListN.{length}
use Rattle.problem.specs.Problem.{Problem, State, full}
use Rattle.problem.specs.Run.{lawful, lawful_trace, after_trace}
use Rattle.problem.specs.Held.{Bounded}
use Rattle.problem.specs.declared.Record.{Record}
use Rattle.problem.proofs.Reflect.{full_fits}
use Rattle.problem.proofs.Count.{sizes_most}
use Rattle.problem.proofs.Trace.{trace_fits, trace_short}
use Rattle.problem.proofs.Spoiler.{named_listed}
use Rattle.problem.specs.Causes.{CoverAlone, BreaksAt}
use Rattle.sheet.specs.Sheet.{layout, variables_of, Keeps}
use Rattle.sheet.specs.Relation.{problem_of}
use Rattle.sheet.proofs.Accepted.{problem_bounded}
use Rattle.trace.specs.Trace.{record_bytes, trace_bytes}
use Rattle.put_back.specs.PutBack.{put_back_job}
use Rattle.std.specs.Prelude.{Err}
use Rattle.put_back.specs.declared.PutBackRefusal.TheVariants.{Unlawful}
use Rattle.jobs.proofs.Opened.{variables_of_lem}
use Rattle.put_back.specs.Causes.{Carried, BackCauseOver}
use Rattle.putting_back.proofs.Causes.{put_back_iff}

-- the state that records lead to
abbrev pub reached : Problem → List Record → State
reached P u = after_trace P (full P) u

-- What the three numbers of a refusal by 17 say of the trace t.
pub record UnlawfulRecord (P : Problem) (t : List ℕ) (k l c : ℕ) : Type 0 where
  -- the records before it, each lawful in the state reached, the record, and the bytes after it
  pub before : List Record
  pub at : Record
  pub more : List ℕ
  pub bytes : t ≡ trace_bytes before ++ (record_bytes at ++ more)
  pub lawfully : T (lawful_trace P (full P) before)
  -- it is "not lawful in the state reached, or an item in has no setting on"
  pub unlawful : T (lawful P (reached P before) at) → ⊥
  -- "the record's number, from 0": so many are before it
  pub number : length before ≡ k
  -- an item is named "for a kind 4 record with i in, a and b different and on, and no item in left without a setting", and for nothing else
  pub item_named : (l ≢ 255) ↔ CoverAlone P (reached P before) at
  -- and so is a setting
  pub setting_named : (c ≢ 255) ↔ CoverAlone P (reached P before) at
  -- "the lowest item where the cover breaks and the lowest setting that spoils it there"
  pub broken : CoverAlone P (reached P before) at → BreaksAt P (reached P before) at l c
  -- "for every other cause both are 255"
  pub others : (CoverAlone P (reached P before) at → ⊥) → (l ≡ 255) × (c ≡ 255)
  -- the record's number has room in two bytes, item and setting in one each
  pub small : (k ≤ 512) × (l ≤ 255) × (c ≤ 255)

-- ---- over a problem

module _ {P : Problem} (B : Bounded P) where
  -- what is named is below 255
  below : (u : List Record) (r : Record) (l c : ℕ) → BreaksAt P (reached P u) r l c → (l < 255) × (c < 255)
  below u r l c h =
      let x = named_listed (trace_fits P (full_fits P) u) r l c h in
      (omega (arith, x.0, B.few), omega (arith, x.1, B.narrow l))

  pub unlawful_names_over : (t p b : List ℕ) (k l c : ℕ) → BackCauseOver P t p b (Err (Unlawful k l c)) → UnlawfulRecord P t k l c
  unlawful_names_over t p b k l c (Z, (u, r, more, e, h, n, m, x)) =
      record {
        before = u;
        at = r;
        more = more;
        bytes = e;
        lawfully = h;
        unlawful = n;
        number = m;
        item_named = (λ d. asked x (λ y. d y.0), λ C. let z = (below u r l c (breaks x C)).0 in λ f. omega arith);
        setting_named = (λ d. asked x (λ y. d y.1), λ C. let z = (below u r l c (breaks x C)).1 in λ f. omega arith);
        broken = breaks x;
        others = λ d. none x d;
        small = (omega (arith, m, trace_short P u h, sizes_most P B), (within x).0, (within x).1);
      }
    where
      asked : Carried P (reached P u) r l c → ((l ≡ 255) × (c ≡ 255) → ⊥) → CoverAlone P (reached P u) r
      asked (inl y) d = y.0
      asked (inr y) d = absurd (d (y.1, y.2))

      breaks : Carried P (reached P u) r l c → CoverAlone P (reached P u) r → BreaksAt P (reached P u) r l c
      breaks (inl y) C = y.1
      breaks (inr y) C = absurd (y.0 C)

      none : Carried P (reached P u) r l c → (CoverAlone P (reached P u) r → ⊥) → (l ≡ 255) × (c ≡ 255)
      none (inl y) d = absurd (d y.0)
      none (inr y) d = (y.1, y.2)

      within : Carried P (reached P u) r l c → (l ≤ 255) × (c ≤ 255)
      within (inl y) = let z = below u r l c y.1 in (omega arith, omega arith)
      within (inr y) = let f = y.1 in let g = y.2 in (omega arith, omega arith)

-- ---- over a sheet

-- A call gets 17 with these numbers only where the sheet keeps the layout, the lengths are right, and the numbers say what they should.
pub unlawful_names : (s t p b : List ℕ) (k l c : ℕ) → (put_back_job s t p b).answer ≡ Err (Unlawful k l c)
    → Keeps layout s × (length p ≡ variables_of s) × (length b ≡ variables_of s) × UnlawfulRecord (problem_of layout s) t k l c
unlawful_names s t p b k l c e =
    let x = (put_back_iff s t p b (Err (Unlawful k l c))).0 e in
    (x.0, x.1.0.0 ∙ variables_of_lem s, x.1.0.1 ∙ variables_of_lem s, unlawful_names_over (problem_bounded s x.0) t p b k l c x.1)

-- a lawful trace has at most as many records as the sheet lists settings
pub unlawful_small : (s t p b : List ℕ) (k l c : ℕ) → (put_back_job s t p b).answer ≡ Err (Unlawful k l c) → (k ≤ 512) × (l ≤ 255) × (c ≤ 255)
unlawful_small s t p b k l c e = (unlawful_names s t p b k l c e).3.small
