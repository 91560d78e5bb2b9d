-- What checking a trace finds, and why: the first fault, every record before it being lawful in the state reached. Assumes nothing.
use Rattle.std.specs.Prelude.{Option, Some, None}
use mathlib.Core.Path.{◌≡◌, refl, sym, ap, ◌∙◌, subst}
use mathlib.Core.Bool.{Bool, true, false, ◌&&◌}
use mathlib.Core.List.{List, [], ◌∷◌, ◌++◌, append_assoc, append-nil}
use mathlib.Core.Logic.{◌↔◌, ◌⊎◌, inl, inr, ◌≢◌}
use Prim.Native.Nat.{ℕ, zero, suc, ◌+◌, ◌-◌, ◌≤◌, ◌<◌}
use native.Mathlib.Omega.{arith}
use lib.Dec.{T, ltb, eqb}
use lib.ListN.{length, take, drop, length-append, length-drop, take-append-drop}
use lib.Seq.{length-take-le, drop-drop, drop-append_seam}
use borrow.Author.Tests.{lt-ltb, le-ltb, ne_eqb}
use Rattle.bounded.proofs.Truth.{T_true, T_false, T_dec, lt_dec, eq_dec, and_iff, eqb_iff}
use Rattle.bounded.proofs.Causes.{cause_iff}
use Rattle.problem.specs.Problem.{Problem, State, full}
use Rattle.problem.specs.Run.{lawful, broken_cover, after, lawful_trace_by, lawful_trace, after_trace}
use Rattle.problem.specs.declared.Record.{Record}
use Rattle.problem.proofs.Reflect.{full_fits}
use Rattle.problem.specs.Sentences.{Fits}
use Rattle.problem.proofs.Trace.{trace_iff, trace_fits}
use Rattle.problem.proofs.Spoiler.{names_iff}
use Rattle.problem.specs.Causes.{BreaksAt}
use Rattle.buffers.specs.Bytes.{byte_at}
use Rattle.trace.specs.Trace.{record_bytes, records_bytes, trace_bytes, record_at}
use Rattle.put_back.specs.Causes.{NoRecord, Carried}
use Rattle.put_back.specs.PutBack.{Checked, Lawful, Faulty, unlawful_record, with_record, check_from, check_trace}
use Rattle.trace.specs.declared.RecordRead.{RecordRead}
use Rattle.trace.specs.declared.RecordRead.TheVariants.{Read, End, Malformed}
use Rattle.put_back.specs.declared.PutBackRefusal.{PutBackRefusal}
use Rattle.put_back.specs.declared.PutBackRefusal.TheVariants as refusal
use Rattle.trace.proofs.Read.{at_end}
use Rattle.trace.proofs.Back.{record_back, record_most, next_after}
use Rattle.put_back.proofs.Turns.{turn_end, turn_malformed, turn_lawful, turn_unlawful}
use Rattle.trace.proofs.Turns.{read_bytes, end_bytes, drop_more}

-- ---- what stands at a place

module _ (t : List ℕ) (p : ℕ) where
  -- the bytes of a record are read as that record
  pub read_here : (r : Record) (more : List ℕ) → drop p t ≡ record_bytes r ++ more → (record_at t p ≡ Read r (p + length (record_bytes r))) × (drop (p + length (record_bytes r)) t ≡ more)
  read_here r more e = (
    subst (λ (k : ℕ). record_at t k ≡ Read r (k + length (record_bytes r))) long
        (subst (λ (w : List ℕ). record_at w (length (take p t)) ≡ Read r (length (take p t) + length (record_bytes r))) parts (record_back (take p t) more r)),
    sym (drop-drop (length (record_bytes r)) p t) ∙ ap (drop (length (record_bytes r))) e ∙ drop-append_seam (record_bytes r) more,
  )
    where
      inside : p < length t
      inside =
          let a = length-drop p t in
          let b = ap length e in
          let c = length-append (record_bytes r) more in
          let m = (record_most r).0 in
          omega arith

      long : length (take p t) ≡ p
      long = length-take-le p t (let i = inside in omega arith)

      parts : take p t ++ (record_bytes r ++ more) ≡ t
      parts = ap (λ (w : List ℕ). take p t ++ w) (sym e) ∙ take-append-drop p t

  malformed_none : record_at t p ≡ Malformed → NoRecord (drop p t)
  malformed_none e = (λ z. go z (lt_dec p (length t)), λ r more h. let x = (read_here r more h).0 in let z : ◌≡◌ {A = ℕ} 0 1 = cc in omega arith)
    where
      go : drop p t ≡ [] → (p < length t) ⊎ (length t ≤ p) → ⊥
      go z (inl l) = let a = length-drop p t in let b : length (drop p t) ≡ 0 = ap length z in omega arith
      go z (inr l) = let x = at_end t p l in let z : ◌≡◌ {A = ℕ} 0 1 = cc in omega arith

  none_malformed : NoRecord (drop p t) → record_at t p ≡ Malformed
  none_malformed n = go (record_at t p) refl
    where
      go : (x : RecordRead) → record_at t p ≡ x → record_at t p ≡ Malformed
      go End e = absurd (n.0 (end_bytes t p e))
      go Malformed e = e
      go (Read r q) e = absurd (n.1 r (drop q t) (read_bytes t p r q e))

-- ---- what 17 names

-- what the definition answers is what is named, and nothing else
carried_iff : {P : Problem} {q : State} → Fits P q → (r : Record) → (T (lawful P q r) → ⊥) → (j k l c : ℕ)
    → (unlawful_record j (broken_cover P q r) ≡ refusal.Unlawful k l c) ↔ ((j ≡ k) × Carried P q r l c)
carried_iff {P} {q} F r n j k l c = (forth (broken_cover P q r) refl, λ x. back x.0 x.1)
  where
    forth : (x : Option (ℕ × ℕ)) → broken_cover P q r ≡ x → unlawful_record j x ≡ refusal.Unlawful k l c → (j ≡ k) × Carried P q r l c
    forth (Some (m, d)) e h =
        let y = (names_iff F r n (Some (m, d))).0 e in
        let f : m ≡ l = cc in
        let g : d ≡ c = cc in
        (cc, inl (y.0, subst (λ (z : ℕ). BreaksAt P q r z c) f (subst (BreaksAt P q r m) g y.1)))
    forth None e h = (cc, inr ((names_iff F r n None).0 e, cc, cc))

    back : j ≡ k → Carried P q r l c → unlawful_record j (broken_cover P q r) ≡ refusal.Unlawful k l c
    back e (inl x) = ap (unlawful_record j) ((names_iff F r n (Some (l, c))).1 x) ∙ ap (λ (z : ℕ). refusal.Unlawful z l c) e
    back e (inr x) = ap (unlawful_record j) ((names_iff F r n None).1 x.0) ∙ (λ i. refusal.Unlawful (e i) (sym x.1 i) (sym x.2 i))

-- ---- why the records are judged as they are

-- how many records there are, counted from k on, with none and with one more in front
add_zero : (k : ℕ) → k + 0 ≡ k
add_zero k = omega arith

one_more : (k : ℕ) (u : List Record) → k + suc (length u) ≡ k + 1 + length u
one_more k u = omega arith

module _ (P : Problem) where
  -- the bytes d of records, met in the state s, with record k in front: the records u before the fault are lawful in the state reached
  abbrev pub RecordsCause : State → (k : ℕ) → List ℕ → Checked → Type 0
  RecordsCause s k d (Lawful u) = (d ≡ records_bytes u) × T (lawful_trace P s u)
  -- 16: "cut short, unknown kind, or length byte wrong for the kind"
  RecordsCause s k d (Faulty refusal.Malformed) = (u : List Record) × (more : List ℕ) × (d ≡ records_bytes u ++ more) × T (lawful_trace P s u) × NoRecord more
  -- 17: "not lawful in the state reached, or an item in has no setting on"; with what is named of the record
  RecordsCause s k d (Faulty (refusal.Unlawful j l c)) =
      (u : List Record) × (r : Record) × (more : List ℕ) × (d ≡ records_bytes u ++ (record_bytes r ++ more)) × T (lawful_trace P s u)
      × (T (lawful P (after_trace P s u) r) → ⊥) × (unlawful_record (k + length u) (broken_cover P (after_trace P s u) r) ≡ refusal.Unlawful j l c)
  RecordsCause s k d (Faulty (refusal.Sheet r)) = ⊥
  RecordsCause s k d (Faulty refusal.PlanLength) = ⊥
  RecordsCause s k d (Faulty refusal.ResultLength) = ⊥
  RecordsCause s k d (Faulty refusal.TraceFront) = ⊥
  RecordsCause s k d (Faulty refusal.Plan) = ⊥

  -- at the first record
  cause_end : (s : State) (k : ℕ) (d : List ℕ) → d ≡ [] → RecordsCause s k d (Lawful [])
  unfolding records_bytes lawful_trace_by
  cause_end s k d e = (e, tt)

  cause_malformed : (s : State) (k : ℕ) (d : List ℕ) → NoRecord d → RecordsCause s k d (Faulty refusal.Malformed)
  unfolding records_bytes lawful_trace_by
  cause_malformed s k d n = ([], d, refl, tt, n)

  cause_unlawful : (s : State) (k : ℕ) (d : List ℕ) (r : Record) (more : List ℕ) → d ≡ record_bytes r ++ more → (T (lawful P s r) → ⊥) → RecordsCause s k d (Faulty (unlawful_record k (broken_cover P s r)))
  unfolding records_bytes lawful_trace_by after_trace
  cause_unlawful s k d r more e l = go (broken_cover P s r) refl
    where
      go : (x : Option (ℕ × ℕ)) → broken_cover P s r ≡ x → RecordsCause s k d (Faulty (unlawful_record k x))
      go (Some (m, c)) h = ([], r, more, e, tt, l, λ i. unlawful_record (add_zero k i) (h i))
      go None h = ([], r, more, e, tt, l, λ i. unlawful_record (add_zero k i) (h i))

  -- a lawful record in front
  cause_more : (s : State) (k : ℕ) (d : List ℕ) (r : Record) (rest : List ℕ) → d ≡ record_bytes r ++ rest → T (lawful P s r)
      → (c : Checked) → RecordsCause (after P s r) (k + 1) rest c → RecordsCause s k d (with_record r c)
  unfolding records_bytes after_trace
  cause_more s k d r rest e l (Lawful u) x = (e ∙ ap (λ (w : List ℕ). record_bytes r ++ w) x.0, (trace_iff P s r u).1 (l, x.1))
  cause_more s k d r rest e l (Faulty refusal.Malformed) x =
      (r ∷ x.0, x.1, e ∙ ap (λ (w : List ℕ). record_bytes r ++ w) x.2 ∙ sym (append_assoc (record_bytes r) (records_bytes x.0) x.1), (trace_iff P s r x.0).1 (l, x.3), x.4)
  cause_more s k d r rest e l (Faulty (refusal.Unlawful j m c)) (u, y, more, h, t, n, w) = (
    r ∷ u,
    y,
    more,
    e ∙ ap (λ (w : List ℕ). record_bytes r ++ w) h ∙ sym (append_assoc (record_bytes r) (records_bytes u) (record_bytes y ++ more)),
    (trace_iff P s r u).1 (l, t),
    n,
    ap (λ (a : ℕ). unlawful_record a (broken_cover P (after_trace P (after P s r) u) y)) (one_more k u) ∙ w,
  )
  cause_more s k d r rest e l (Faulty (refusal.Sheet y)) x = x
  cause_more s k d r rest e l (Faulty refusal.PlanLength) x = x
  cause_more s k d r rest e l (Faulty refusal.ResultLength) x = x
  cause_more s k d r rest e l (Faulty refusal.TraceFront) x = x
  cause_more s k d r rest e l (Faulty refusal.Plan) x = x

  -- records in front of what is found after them
  abbrev with_records : List Record → Checked → Checked
  with_records [] c = c
  with_records (r ∷ u) c = with_record r (with_records u c)

  all_lawful : (u : List Record) → with_records u (Lawful []) ≡ Lawful u
  all_lawful [] = refl
  all_lawful (r ∷ u) = ap (with_record r) (all_lawful u)

  fault_after : (u : List Record) (e : PutBackRefusal) → with_records u (Faulty e) ≡ Faulty e
  fault_after [] e = refl
  fault_after (r ∷ u) e = ap (with_record r) (fault_after u e)

  module _ (t : List ℕ) where
    -- with more turns than bytes left, what the check finds has its cause
    check_cause : (f : ℕ) (s : State) (k p : ℕ) → length t - p < f → RecordsCause s k (drop p t) (check_from f P t s k p)
    check_cause zero s k p h = absurd (omega arith)
    check_cause (suc f) s k p h = by_read (record_at t p) refl (check_cause f)
      where
        Later : Type 0
        Later = (s : State) (k p : ℕ) → length t - p < f → RecordsCause s k (drop p t) (check_from f P t s k p)

        by_law : (r : Record) (q : ℕ) → record_at t p ≡ Read r q → T (lawful P s r) ⊎ (T (lawful P s r) → ⊥) → Later → RecordsCause s k (drop p t) (check_from (suc f) P t s k p)
        by_law r q e (inl l) ih =
            let n = next_after t p r q e in
            subst (RecordsCause s k (drop p t)) (sym (turn_lawful P t f s k p r q e (T_true (lawful P s r) l)))
            (cause_more s k (drop p t) r (drop q t) (read_bytes t p r q e) l (check_from f P t (after P s r) (k + 1) q) (ih (after P s r) (k + 1) q (omega arith)))
        by_law r q e (inr l) ih =
            subst (RecordsCause s k (drop p t)) (sym (turn_unlawful P t f s k p r q e (T_false (lawful P s r) l))) (cause_unlawful s k (drop p t) r (drop q t) (read_bytes t p r q e) l)

        by_read : (x : RecordRead) → record_at t p ≡ x → Later → RecordsCause s k (drop p t) (check_from (suc f) P t s k p)
        by_read End e ih = subst (RecordsCause s k (drop p t)) (sym (turn_end P t f s k p e)) (cause_end s k (drop p t) (end_bytes t p e))
        by_read Malformed e ih = subst (RecordsCause s k (drop p t)) (sym (turn_malformed P t f s k p e)) (cause_malformed s k (drop p t) (malformed_none t p e))
        by_read (Read r q) e ih = by_law r q e (T_dec (lawful P s r)) ih

    -- the check goes over lawful records to the place after them
    abbrev Over : List Record → ℕ → State → (k p : ℕ) → List ℕ → Type 0
    Over u f s k p more = (g : ℕ) × (q : ℕ) × (length t - q < g) × (drop q t ≡ more) × (check_from f P t s k p ≡ with_records u (check_from g P t (after_trace P s u) (k + length u) q))

    over : (u : List Record) (f : ℕ) (s : State) (k p : ℕ) (more : List ℕ) → length t - p < f → drop p t ≡ records_bytes u ++ more → T (lawful_trace P s u) → Over u f s k p more
    unfolding records_bytes after_trace
    over [] f s k p more h e l = (f, p, h, e, ap (λ (a : ℕ). check_from f P t s a p) (sym (add_zero k)))
    over (r ∷ u) zero s k p more h e l = absurd (omega arith)
    over (r ∷ u) (suc f) s k p more h e l =
        let x = read_here t p r (records_bytes u ++ more) (e ∙ append_assoc (record_bytes r) (records_bytes u) more) in
        let n = next_after t p r (p + length (record_bytes r)) x.0 in
        let y = (trace_iff P s r u).0 l in
        let z = over u f (after P s r) (k + 1) (p + length (record_bytes r)) more (omega arith) x.1 y.1 in (
          z.0,
          z.1,
          z.2,
          z.3,
          turn_lawful P t f s k p r (p + length (record_bytes r)) x.0 (T_true (lawful P s r) y.0) ∙ ap (with_record r) z.4
              ∙ ap (λ (a : ℕ). with_record r (with_records u (check_from z.0 P t (after_trace P (after P s r) u) a z.1))) (sym (one_more k u)),
        )

    -- what stands at a place decides
    here_end : (g : ℕ) (s : State) (k q : ℕ) → length t - q < g → drop q t ≡ [] → check_from g P t s k q ≡ Lawful []
    here_end zero s k q h e = absurd (omega arith)
    here_end (suc g) s k q h e = turn_end P t g s k q (at_end t q (let a = length-drop q t in let b : length (drop q t) ≡ 0 = ap length e in omega arith))

    here_malformed : (g : ℕ) (s : State) (k q : ℕ) → length t - q < g → NoRecord (drop q t) → check_from g P t s k q ≡ Faulty refusal.Malformed
    here_malformed zero s k q h n = absurd (omega arith)
    here_malformed (suc g) s k q h n = turn_malformed P t g s k q (none_malformed t q n)

    here_unlawful : (g : ℕ) (s : State) (k q : ℕ) (r : Record) (more : List ℕ) → length t - q < g → drop q t ≡ record_bytes r ++ more → (T (lawful P s r) → ⊥) → check_from g P t s k q ≡ Faulty (unlawful_record k (broken_cover P s r))
    here_unlawful zero s k q r more h e l = absurd (omega arith)
    here_unlawful (suc g) s k q r more h e l = turn_unlawful P t g s k q r _ (read_here t q r more e).0 (T_false (lawful P s r) l)

    cause_check : (f : ℕ) (s : State) (k p : ℕ) → length t - p < f → (c : Checked) → RecordsCause s k (drop p t) c → check_from f P t s k p ≡ c
    cause_check f s k p h (Lawful u) x =
        let y = over u f s k p [] h (x.0 ∙ sym (append-nil (records_bytes u))) x.1 in
        y.4 ∙ ap (with_records u) (here_end y.0 (after_trace P s u) (k + length u) y.1 y.2 y.3) ∙ all_lawful u
    cause_check f s k p h (Faulty refusal.Malformed) (u, more, e, l, n) =
        let y = over u f s k p more h e l in
        y.4 ∙ ap (with_records u) (here_malformed y.0 (after_trace P s u) (k + length u) y.1 y.2 (subst NoRecord (sym y.3) n)) ∙ fault_after u refusal.Malformed
    cause_check f s k p h (Faulty (refusal.Unlawful j m c)) (u, r, more, e, l, n, w) =
        let y = over u f s k p (record_bytes r ++ more) h e l in
        y.4 ∙ ap (with_records u) (here_unlawful y.0 (after_trace P s u) (k + length u) y.1 r more y.2 y.3 n ∙ ap Faulty w) ∙ fault_after u (refusal.Unlawful j m c)
    cause_check f s k p h (Faulty (refusal.Sheet r)) x = absurd x
    cause_check f s k p h (Faulty refusal.PlanLength) x = absurd x
    cause_check f s k p h (Faulty refusal.ResultLength) x = absurd x
    cause_check f s k p h (Faulty refusal.TraceFront) x = absurd x
    cause_check f s k p h (Faulty refusal.Plan) x = absurd x

    -- from a place on, with more turns than bytes are left, the check finds this for its cause and for no other
    pub records_iff : (f : ℕ) (s : State) (k p : ℕ) → length t - p < f → (c : Checked) → (check_from f P t s k p ≡ c) ↔ RecordsCause s k (drop p t) c
    records_iff f s k p h = cause_iff (check_from f P t s k p) (RecordsCause s k (drop p t)) (cause_check f s k p h) (check_from f P t s k p, check_cause f s k p h)

    -- more turns than bytes are left never run out, so that their number does not change what is found
    pub check_fuel : (f g : ℕ) (s : State) (k p : ℕ) → length t - p < f → length t - p < g → check_from f P t s k p ≡ check_from g P t s k p
    check_fuel f g s k p h i = cause_check f s k p h (check_from g P t s k p) (check_cause g s k p i)

-- ---- why a whole trace is judged as it is

module _ (P : Problem) (t : List ℕ) where
  abbrev pub TraceCause : Checked → Type 0
  TraceCause (Lawful u) = (t ≡ trace_bytes u) × T (lawful_trace P (full P) u)
  -- 15: "no byte, or byte 0 is not 1"
  TraceCause (Faulty refusal.TraceFront) = (t ≡ []) ⊎ (byte_at t 0 ≢ 1)
  -- 16: after the bytes of a lawful trace, bytes that begin with no record's
  TraceCause (Faulty refusal.Malformed) = (u : List Record) × (more : List ℕ) × (t ≡ trace_bytes u ++ more) × T (lawful_trace P (full P) u) × NoRecord more
  -- 17: after the bytes of a lawful trace of k records, those of a record that is not lawful in the state reached, and of it l and c are named
  TraceCause (Faulty (refusal.Unlawful k l c)) =
      (u : List Record) × (r : Record) × (more : List ℕ) × (t ≡ trace_bytes u ++ (record_bytes r ++ more)) × T (lawful_trace P (full P) u)
      × (T (lawful P (after_trace P (full P) u) r) → ⊥) × (length u ≡ k) × Carried P (after_trace P (full P) u) r l c
  TraceCause (Faulty (refusal.Sheet r)) = ⊥
  TraceCause (Faulty refusal.PlanLength) = ⊥
  TraceCause (Faulty refusal.ResultLength) = ⊥
  TraceCause (Faulty refusal.Plan) = ⊥

  -- where byte 0 is 1 the records follow
  begun : (d : List ℕ) → t ≡ 1 ∷ d → check_trace P t ≡ check_from (suc (length t)) P t (full P) 0 1
  unfolding check_trace
  begun d e = rw (front, check_trace)
    where
      front : (ltb 0 (length t) && eqb (byte_at t 0) 1) ≡ true
      front = subst (λ (w : List ℕ). (ltb 0 (length w) && eqb (byte_at w 0) 1) ≡ true) (sym e) (simp (lt-ltb 0 (length (1 ∷ d)) (omega arith)))

  begun_iff : (d : List ℕ) → t ≡ 1 ∷ d → (c : Checked) → (check_trace P t ≡ c) ↔ RecordsCause P (full P) 0 d c
  begun_iff d e c =
      let x = records_iff P t (suc (length t)) (full P) 0 1 (omega arith) c in
      let q : drop 1 t ≡ d = ap (drop 1) e in (
        λ h. subst (λ (w : List ℕ). RecordsCause P (full P) 0 w c) q (x.0 (sym (begun d e) ∙ h)),
        λ h. begun d e ∙ x.1 (subst (λ (w : List ℕ). RecordsCause P (full P) 0 w c) (sym q) h),
      )

  wrong_front : (ltb 0 (length t) && eqb (byte_at t 0) 1) ≡ false → check_trace P t ≡ Faulty refusal.TraceFront
  unfolding check_trace
  wrong_front e = rw (e, check_trace)

  -- the causes of the records, of the whole trace
  of_records : (d : List ℕ) → t ≡ 1 ∷ d → (c : Checked) → RecordsCause P (full P) 0 d c → TraceCause c
  unfolding trace_bytes
  of_records d e (Lawful u) x = (e ∙ ap (λ (w : List ℕ). 1 ∷ w) x.0, x.1)
  of_records d e (Faulty refusal.Malformed) (u, more, h, l, n) = (u, more, e ∙ ap (λ (w : List ℕ). 1 ∷ w) h, l, n)
  of_records d e (Faulty (refusal.Unlawful k j c)) (u, r, more, h, l, n, w) =
      let y = (carried_iff (trace_fits P (full_fits P) u) r n (0 + length u) k j c).0 w in
      (u, r, more, e ∙ ap (λ (w : List ℕ). 1 ∷ w) h, l, n, omega (arith, y.0), y.1)
  of_records d e (Faulty (refusal.Sheet r)) x = absurd x
  of_records d e (Faulty refusal.PlanLength) x = absurd x
  of_records d e (Faulty refusal.ResultLength) x = absurd x
  of_records d e (Faulty refusal.TraceFront) x = absurd x
  of_records d e (Faulty refusal.Plan) x = absurd x

  trace_cause : TraceCause (check_trace P t)
  trace_cause = by_front (lt_dec 0 (length t)) (eq_dec (byte_at t 0) 1)
    where
      by_front : (0 < length t) ⊎ (length t ≤ 0) → (byte_at t 0 ≡ 1) ⊎ (byte_at t 0 ≢ 1) → TraceCause (check_trace P t)
      by_front (inr l) q = subst TraceCause (sym (wrong_front (ap (λ (b : Bool). b && eqb (byte_at t 0) 1) (le-ltb 0 (length t) l)))) (inl (none t l))
        where
          none : (w : List ℕ) → length w ≤ 0 → w ≡ []
          none [] h = refl
          none (x ∷ w) h = absurd (omega arith)
      by_front (inl l) (inr d) = subst TraceCause (sym (wrong_front (λ i. lt-ltb 0 (length t) l i && ne_eqb (byte_at t 0) 1 d i))) (inr d)
      by_front (inl l) (inl o) =
          let e : t ≡ 1 ∷ drop 1 t = drop_more t 0 1 l refl ∙ ap (λ (x : ℕ). x ∷ drop 1 t) o in
          of_records (drop 1 t) e (check_trace P t) ((begun_iff (drop 1 t) e (check_trace P t)).0 refl)

  cause_trace : (c : Checked) → TraceCause c → check_trace P t ≡ c
  unfolding trace_bytes
  cause_trace (Lawful u) x = (begun_iff (records_bytes u) x.0 (Lawful u)).1 (refl, x.1)
  cause_trace (Faulty refusal.TraceFront) (inl e) = wrong_front (ap (λ (w : List ℕ). ltb 0 (length w) && eqb (byte_at w 0) 1) e)
  cause_trace (Faulty refusal.TraceFront) (inr d) = wrong_front (T_false _ (λ h. d ((eqb_iff (byte_at t 0) 1).0 ((and_iff (ltb 0 (length t)) (eqb (byte_at t 0) 1)).0 h).1)))
  cause_trace (Faulty refusal.Malformed) (u, more, e, l, n) = (begun_iff (records_bytes u ++ more) e (Faulty refusal.Malformed)).1 (u, more, refl, l, n)
  cause_trace (Faulty (refusal.Unlawful k j c)) (u, r, more, e, l, n, h, x) =
      (begun_iff (records_bytes u ++ (record_bytes r ++ more)) e (Faulty (refusal.Unlawful k j c))).1
      (u, r, more, refl, l, n, (carried_iff (trace_fits P (full_fits P) u) r n (0 + length u) k j c).1 (omega arith, x))
  cause_trace (Faulty (refusal.Sheet r)) x = absurd x
  cause_trace (Faulty refusal.PlanLength) x = absurd x
  cause_trace (Faulty refusal.ResultLength) x = absurd x
  cause_trace (Faulty refusal.Plan) x = absurd x

  -- A trace is judged as it is for its cause and for no other.
  pub checked_iff : (c : Checked) → (check_trace P t ≡ c) ↔ TraceCause c
  checked_iff = cause_iff (check_trace P t) TraceCause cause_trace (check_trace P t, trace_cause)

-- The bytes that are taken for a lawful trace are exactly the bytes of a lawful list of records.
pub taken_iff : (P : Problem) (t : List ℕ) (u : List Record) → (check_trace P t ≡ Lawful u) ↔ ((t ≡ trace_bytes u) × T (lawful_trace P (full P) u))
taken_iff P t u = checked_iff P t (Lawful u)
