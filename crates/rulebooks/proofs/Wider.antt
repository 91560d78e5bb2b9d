-- The rulebook after request Four against the one before it, over bytes: the trace of a run goes as it went, and on from there only by a slide
-- that was not lawful; and putting back answers as it did on every call but one that it refused with 17. Assumes nothing.
use Rattle.std.specs.Prelude.{Option, Some, None}
use mathlib.Core.Path.{◌≡◌, refl, sym, ap, subst, ◌∙◌}
use mathlib.Core.Bool.{Bool, true, false, ◌&&◌}
use mathlib.Core.List.{List, [], ◌∷◌, ◌++◌, append_assoc, append-nil}
use mathlib.Core.Logic.{◌⊎◌, inl, inr, ◌≢◌}
use Prim.Native.Nat.{ℕ, zero, suc, ◌+◌, ◌≤◌, ◌<◌}
use native.Mathlib.Omega.{arith}
use native.Mathlib.Nat.{not-suc-le-zero}
use lib.Dec.{T, ltb, eqb}
use borrow.Author.Tests.{lt-ltb}
use lib.ListN.{length, take, drop, length-append, length-drop}
use lib.Seq.{take-append_seam}
use Rattle.bounded.proofs.Truth.{T_of, T_true, split}
use Rattle.problem.specs.Problem.{Problem, State, full}
use Rattle.problem.specs.Rulebook.{Rulebook, before_four, after_four}
use Rattle.problem.specs.Run.{lawful_by, broken_cover, after, lawful_trace_by, run_by}
use Rattle.problem.specs.declared.Record.{Record}
use Rattle.problem.specs.declared.Record.TheVariants.{SnakeSubstitution}
use Rattle.problem.specs.declared.End.{End}
use Rattle.problem.proofs.Reflect.{full_fits}
use Rattle.problem.specs.Sentences.{Fits}
use Rattle.problem.proofs.Trace.{after_fits, trace_by_iff}
use Rattle.problem.proofs.Wider.{lawful_widens, trace_stays, end_before, Added, run_extends}
use Rattle.sheet.specs.Sheet.{layout}
use Rattle.buffers.specs.Bytes.{byte_at}
use Rattle.sheet.specs.Relation.{problem_of}
use Rattle.trace.specs.Trace.{record_bytes, records_bytes, trace_bytes, record_at}
use Rattle.buffers.specs.Written.{fronted}
use Rattle.put_back.specs.Numbers.{put_back_number}
use Rattle.run.specs.Run.{RunResult, ran_through, buffer_short}
use Rattle.put_back.specs.PutBack.{PutBackResult, unlawful_record, Checked, Lawful, Faulty, with_record, after_check}
use Rattle.trace.specs.declared.RecordRead.{RecordRead}
use Rattle.trace.specs.declared.RecordRead.TheVariants as record·
use Rattle.run.specs.Numbers.{ran}
use Rattle.put_back.specs.declared.PutBackRefusal.TheVariants as refusal
use Rattle.jobs.proofs.Opened.{sheet_both}
use Rattle.trace.proofs.Read.{at_end}
use Rattle.trace.proofs.Back.{record_most, records_append}
use Rattle.put_back.proofs.Checked.{read_here}
use Rattle.run.proofs.Ran.{ran_parts}
use Rattle.rulebooks.specs.Under.{run_over_under, run_job_under, check_from_under, check_trace_under, put_back_over_under, put_back_job_under}

-- ---- the run

module _ (P : Problem) where
  -- the state that the run of before ended in
  abbrev pub last_before : State
  last_before = end_before P (full P)

  -- the bytes of its trace
  abbrev pub trace_before : List ℕ
  trace_before = trace_bytes (run_by before_four P (full P))

  -- the trace's bytes are those of before, and those of the records added
  pub trace_extends : (trace_bytes (run_by after_four P (full P)) ≡ trace_before ++ records_bytes (run_by after_four P last_before)) × Added P last_before (run_by after_four P last_before)
  unfolding trace_bytes
  trace_extends =
      let x = run_extends P (full_fits P) in
      (ap trace_bytes x.0 ∙ ap (λ (w : List ℕ). 1 ∷ w) (records_append (run_by before_four P (full P)) (run_by after_four P last_before)), x.1)

-- the run's result x against its result y before request Four, with the buffer b: where that run ended, having written its trace to the
-- front of the buffer, x has the record of a slide that is lawful there and was not, and what follows
pub record SubstitutionAdded (P : Problem) (b : List ℕ) (x y : RunResult) : Type 0 where
  pub item : ℕ
  pub from : ℕ
  pub to : ℕ
  pub more : List ℕ
  pub before : y ≡ ran_through P (run_by before_four P (full P)) b
  pub now : x.buffer ≡ fronted (trace_before P ++ (4 ∷ 5 ∷ item ∷ from ∷ to ∷ more)) b
  pub lawful_now : T (lawful_by after_four P (last_before P) (SnakeSubstitution item from to))
  pub not_before : T (lawful_by before_four P (last_before P) (SnakeSubstitution item from to)) → ⊥

module _ (P : Problem) (b : List ℕ) where
  done_extends : (ran_through P (run_by after_four P (full P)) b ≡ ran_through P (run_by before_four P (full P)) b) ⊎ SubstitutionAdded P b (ran_through P (run_by after_four P (full P)) b) (ran_through P (run_by before_four P (full P)) b)
  unfolding records_bytes
  done_extends = go (trace_extends P).1
    where
      go : Added P (last_before P) (run_by after_four P (last_before P)) → (ran_through P (run_by after_four P (full P)) b ≡ ran_through P (run_by before_four P (full P)) b) ⊎ SubstitutionAdded P b (ran_through P (run_by after_four P (full P)) b) (ran_through P (run_by before_four P (full P)) b)
      go (inl e) =
          inl (ap (λ (t : List Record). ran_through P t b) ((run_extends P (full_fits P)).0 ∙ ap (λ (u : List Record). run_by before_four P (full P) ++ u) e ∙ append-nil (run_by before_four P (full P))))
      go (inr (i, c, a, v, e, l, n)) =
          inr record {
            item = i;
            from = c;
            to = a;
            more = records_bytes v;
            before = refl;
            now = ap (λ (w : List ℕ). fronted w b) ((trace_extends P).0 ∙ ap (λ (u : List Record). trace_before P ++ records_bytes u) e);
            lawful_now = l;
            not_before = n;
          }

  over_extends : (run_over_under after_four P b ≡ run_over_under before_four P b) ⊎ SubstitutionAdded P b (run_over_under after_four P b) (run_over_under before_four P b)
  unfolding run_over_under
  over_extends = go (buffer_short P b) refl
    where
      go : (x : Bool) → buffer_short P b ≡ x → (run_over_under after_four P b ≡ run_over_under before_four P b) ⊎ SubstitutionAdded P b (run_over_under after_four P b) (run_over_under before_four P b)
      go true e = rw (e, run_over_under) (inl refl)
      go false e = rw (e, run_over_under) done_extends

-- the run over a sheet answers and leaves the buffer byte for byte as before request Four, or the buffer goes on from there with an
-- added slide
pub run_job_extends : (s b : List ℕ) → (run_job_under after_four s b ≡ run_job_under before_four s b) ⊎ SubstitutionAdded (problem_of layout s) b (run_job_under after_four s b) (run_job_under before_four s b)
unfolding run_job_under
run_job_extends s b =
    sheet_both s _ (λ P. run_over_under after_four P b) (λ P. run_over_under before_four P b) (λ x y. (x ≡ y) ⊎ SubstitutionAdded (problem_of layout s) b x y) (λ r. inl refl) (λ K. over_extends (problem_of layout s) b)

-- "Traces change only from the first added slide on": the bytes that the run of before wrote stand as they did
pub run_front_stays : (s b : List ℕ) (e : End) (steps written : ℕ) → (run_job_under before_four s b).answer.outcome ≡ ran e steps written
    → take written (run_job_under after_four s b).buffer ≡ take written (run_job_under before_four s b).buffer
run_front_stays s b e k m h = go (run_job_extends s b)
  where
    P : Problem
    P = problem_of layout s

    go : (run_job_under after_four s b ≡ run_job_under before_four s b) ⊎ SubstitutionAdded P b (run_job_under after_four s b) (run_job_under before_four s b) → take m (run_job_under after_four s b).buffer ≡ take m (run_job_under before_four s b).buffer
    go (inl q) = ap (λ (x : RunResult). take m x.buffer) q
    go (inr x) =
        let w = trace_before P in
        let z = sym (ap (λ (y : RunResult). y.answer.outcome) x.before) ∙ h in
        let l : length w ≡ m = (ran_parts z).2 in
        subst (λ (n : ℕ). take n (run_job_under after_four s b).buffer ≡ take n (run_job_under before_four s b).buffer) l
        (ap (take (length w)) (x.now ∙ append_assoc w (4 ∷ 5 ∷ x.item ∷ x.from ∷ x.to ∷ x.more) _) ∙ take-append_seam w _
        ∙ sym (ap (λ (y : RunResult). take (length w) y.buffer) x.before ∙ take-append_seam w _))

-- ---- putting back

-- the check of before found an unlawful record
abbrev Refused17 : Checked → Type 0
Refused17 c = (j : ℕ) × (l : ℕ) × (m : ℕ) × (c ≡ Faulty (refusal.Unlawful j l m))

unlawful_17 : (k : ℕ) (x : Option (ℕ × ℕ)) → Refused17 (Faulty (unlawful_record k x))
unlawful_17 k (Some (l, c)) = (k, l, c, refl)
unlawful_17 k None = (k, 255, 255, refl)

after_stays : (P : Problem) (p b : List ℕ) (c d : Checked) → (c ≡ d) ⊎ Refused17 d → put_back_number (after_check P p b d).answer ≢ 17 → after_check P p b c ≡ after_check P p b d
after_stays P p b c d (inl e) n = ap (after_check P p b) e
after_stays P p b c d (inr (j, l, m, e)) n = absurd (n (ap (λ (y : Checked). put_back_number (after_check P p b y).answer) e))

module _ (P : Problem) (t : List ℕ) where
  -- the check finds what it found, unless that was an unlawful record
  from_stays : (f : ℕ) {s : State} → Fits P s → (k p : ℕ) → (check_from_under after_four f P t s k p ≡ check_from_under before_four f P t s k p) ⊎ Refused17 (check_from_under before_four f P t s k p)
  unfolding check_from_under
  from_stays zero F k p = inl refl
  from_stays (suc f) {s} F k p = by_read (record_at t p) refl (λ r. from_stays f (after_fits P F r))
    where
      Goal : Type 0
      Goal = (check_from_under after_four (suc f) P t s k p ≡ check_from_under before_four (suc f) P t s k p) ⊎ Refused17 (check_from_under before_four (suc f) P t s k p)

      Later : Record → Type 0
      Later r = (k p : ℕ) → (check_from_under after_four f P t (after P s r) k p ≡ check_from_under before_four f P t (after P s r) k p) ⊎ Refused17 (check_from_under before_four f P t (after P s r) k p)

      more : (r : Record) (c d : Checked) → (c ≡ d) ⊎ Refused17 d → (with_record r c ≡ with_record r d) ⊎ Refused17 (with_record r d)
      more r c d (inl e) = inl (ap (with_record r) e)
      more r c d (inr (j, l, m, e)) = inr (j, l, m, ap (with_record r) e)

      by_law : (r : Record) (q : ℕ) → record_at t p ≡ record·.Read r q → Later r → (lawful_by before_four P s r ≡ true) ⊎ (lawful_by before_four P s r ≡ false) → Goal
      by_law r q e ih (inl l) = rw (e, l, T_true (lawful_by after_four P s r) (lawful_widens F r (T_of l)), check_from_under) (more r _ _ (ih (k + 1) q))
      by_law r q e ih (inr l) = inr (rw (e, l, check_from_under) (unlawful_17 k (broken_cover P s r)))

      by_read : (x : RecordRead) → record_at t p ≡ x → ((r : Record) → Later r) → Goal
      by_read record·.End e ih = rw (e, check_from_under) (inl refl)
      by_read record·.Malformed e ih = rw (e, check_from_under) (inl refl)
      by_read (record·.Read r q) e ih = by_law r q e (ih r) (split (lawful_by before_four P s r))

  check_stays : (check_trace_under after_four P t ≡ check_trace_under before_four P t) ⊎ Refused17 (check_trace_under before_four P t)
  unfolding check_trace_under
  check_stays = go (split (ltb 0 (length t) && eqb (byte_at t 0) 1))
    where
      go : ((ltb 0 (length t) && eqb (byte_at t 0) 1) ≡ true) ⊎ ((ltb 0 (length t) && eqb (byte_at t 0) 1) ≡ false) → (check_trace_under after_four P t ≡ check_trace_under before_four P t) ⊎ Refused17 (check_trace_under before_four P t)
      go (inl e) = rw (e, check_trace_under) (from_stays (suc (length t)) (full_fits P) 0 1)
      go (inr e) = rw (e, check_trace_under) (inl refl)

  module _ (p b : List ℕ) where
    -- what holds of every answer and itself, and of what follows the two checks, holds of the two
    over_both : (Q : PutBackResult → PutBackResult → Type 0) → ((x : PutBackResult) → Q x x) → Q (after_check P p b (check_trace_under after_four P t)) (after_check P p b (check_trace_under before_four P t))
        → Q (put_back_over_under after_four P t p b) (put_back_over_under before_four P t p b)
    unfolding put_back_over_under
    over_both Q same h = go (split (eqb (length p) P.n)) (split (eqb (length b) P.n))
      where
        go : (eqb (length p) P.n ≡ true) ⊎ (eqb (length p) P.n ≡ false) → (eqb (length b) P.n ≡ true) ⊎ (eqb (length b) P.n ≡ false)
            → Q (put_back_over_under after_four P t p b) (put_back_over_under before_four P t p b)
        go (inr e) y = rw (e, put_back_over_under) (same _)
        go (inl e) (inr g) = rw (e, g, put_back_over_under) (same _)
        go (inl e) (inl g) = rw (e, g, put_back_over_under) h

-- putting back answers, and leaves the result buffer, as before request Four wherever that did not answer 17
pub put_back_stays : (s t p b : List ℕ) → put_back_number (put_back_job_under before_four s t p b).answer ≢ 17 → put_back_job_under after_four s t p b ≡ put_back_job_under before_four s t p b
unfolding put_back_job_under
put_back_stays s t p b =
    sheet_both s _ (λ P. put_back_over_under after_four P t p b) (λ P. put_back_over_under before_four P t p b) Stays (λ r n. refl)
    (λ K. over_both (problem_of layout s) t p b Stays (λ x n. refl) (after_stays (problem_of layout s) p b _ _ (check_stays (problem_of layout s) t)))
  where
    Stays : PutBackResult → PutBackResult → Type 0
    Stays x y = put_back_number y.answer ≢ 17 → x ≡ y

-- a record has a byte at least
records_long : (u : List Record) → length u ≤ length (records_bytes u)
unfolding records_bytes
records_long [] = omega arith
records_long (r ∷ u) = let a = length-append (record_bytes r) (records_bytes u) in let m = (record_most r).0 in let h = records_long u in omega arith

module _ (book : Rulebook) (P : Problem) (t : List ℕ) where
  -- the bytes of records that are lawful are found to be these records
  from_lawful : (f : ℕ) (s : State) (k p : ℕ) (u : List Record) → drop p t ≡ records_bytes u → length u < f → T (lawful_trace_by book P s u) → check_from_under book f P t s k p ≡ Lawful u
  unfolding check_from_under records_bytes
  from_lawful zero s k p u e h l = absurd (not-suc-le-zero h)
  from_lawful (suc f) s k p [] e h l =
      let a = length-drop p t in
      let b : length (drop p t) ≡ 0 = ap length e in
      rw (at_end t p (omega arith), check_from_under)
  from_lawful (suc f) s k p (r ∷ u) e h l =
      let x = read_here t p r (records_bytes u) e in
      let m = (trace_by_iff book P s r u).0 l in
      rw (x.0, T_true (lawful_by book P s r) m.0, from_lawful f (after P s r) (k + 1) (p + length (record_bytes r)) u x.1 (omega arith) m.1, check_from_under)

-- the bytes of a lawful trace are found to be its records
check_lawful : (book : Rulebook) (P : Problem) (u : List Record) → T (lawful_trace_by book P (full P) u) → check_trace_under book P (trace_bytes u) ≡ Lawful u
unfolding check_trace_under trace_bytes
check_lawful book P u l =
    let front : (ltb 0 (length (trace_bytes u)) && true) ≡ true = simp (lt-ltb 0 (length (1 ∷ records_bytes u)) (omega arith)) in
    rw (front, check_trace_under) (from_lawful book P (trace_bytes u) (suc (length (trace_bytes u))) (full P) 0 1 u refl (let h = records_long u in omega arith) l)

-- "every trace lawful before stays lawful": so whatever the plan and the buffers, putting back answers the same on it, byte for byte
pub lawful_put_back_stays : (s : List ℕ) (u : List Record) (p b : List ℕ) → T (lawful_trace_by before_four (problem_of layout s) (full (problem_of layout s)) u)
    → put_back_job_under after_four s (trace_bytes u) p b ≡ put_back_job_under before_four s (trace_bytes u) p b
unfolding put_back_job_under
lawful_put_back_stays s u p b l =
    let P = problem_of layout s in
    let t = trace_bytes u in
    sheet_both s _ (λ P. put_back_over_under after_four P t p b) (λ P. put_back_over_under before_four P t p b) (λ x y. x ≡ y) (λ r. refl)
    (λ K. over_both P t p b (λ x y. x ≡ y) (λ x. refl) (ap (after_check P p b) (check_lawful after_four P u (trace_stays (full_fits P) u l) ∙ sym (check_lawful before_four P u l))))
