-- The loop of the run: what holds before each turn, at its start, after a turn, and at its end. Assumes nothing.
use Rattle.std.specs.Prelude.{Some, None}
use mathlib.Core.Path.{◌≡◌, refl, sym, ap, ◌∙◌, subst}
use mathlib.Core.Bool.{true}
use mathlib.Core.List.{List, [], ◌∷◌, ◌++◌, append-nil, append_assoc}
use Prim.Native.Nat.{ℕ, suc, ◌+◌, ◌*◌, ◌≤◌, ◌<◌}
use native.Mathlib.Omega.{arith}
use lib.Dec.{T, ltb}
use lib.ListN.{length, set, length-append, length-set}
use lib.Seq.{drop-set-lt}
use Rattle.bounded.proofs.Truth.{T_true, and_iff, ltb_iff}
use Rattle.problem.specs.Problem.{Problem, State, full, none_empty, live_count, size_sum}
use Rattle.problem.specs.Run.{lawful, after, lawful_trace_by, lawful_trace, after_trace, next, run_by, run, end_of}
use Rattle.problem.specs.Held.{held, RowTable}
use Rattle.problem.specs.Masks.{state_of, masks_of}
use Rattle.problem.specs.declared.Masks.{Masks}
use Rattle.problem.specs.declared.Record.{Record}
use Rattle.problem.proofs.Reflect.{full_fits, none_empty_iff}
use Rattle.problem.specs.Sentences.{Fits}
use Rattle.problem.proofs.HeldTable.{held_few, held_narrow, held_bounded}
use Rattle.problem.proofs.Trace.{after_fits, lawful_iff, step_falls, trace_iff, trace_falls}
use Rattle.problem.proofs.Least.{holds_below}
use Rattle.problem.proofs.Count.{full_count}
use Rattle.problem.proofs.Run.{next_lawful, run_step, run_stop, run_enough}
use Rattle.problem.proofs.Bridge.{masks_back}
use Rattle.trace.specs.Trace.{record_bytes, records_bytes, trace_bytes, Small}
use Rattle.buffers.specs.Written.{fronted, written}
use Rattle.run.specs.Run.{run_done}
use Rattle.run.specs.Numbers.{ran}
use Rattle.run.proofs.Worked.{trace_length}
use Rattle.buffers.proofs.Written.{fronted_more, length_fronted}
use Rattle.trace.proofs.Back.{trace_more, record_most}
use Rattle.held.specs.Ready.{Ready}
use Rattle.held.proofs.Full.{full_ready, full_says}
use Rattle.steps.proofs.States.{after_state, after_ready}

-- ---- the run, one step at a time

module _ (P : Problem) where
  pub run_more : {s : State} → Fits P s → (r : Record) → next P s ≡ Some r → run P s ≡ r ∷ run P (after P s r)
  unfolding run_by
  run_more {s} F r e =
      run_step P (live_count P s) s r e
      ∙ ap (λ (t : List Record). r ∷ t) (run_enough P (live_count P s) (suc (live_count P (after P s r))) (after P s r) (after_fits P F r) (step_falls P F r (next_lawful P s r e)) (omega arith))

  pub run_ended : (s : State) → next P s ≡ None → run P s ≡ []
  unfolding run_by
  run_ended s e = run_stop P (suc (live_count P s)) s e

  -- a trace one record longer
  pub after_more : (s : State) (t : List Record) (r : Record) → after_trace P s (t ++ (r ∷ [])) ≡ after P (after_trace P s t) r
  unfolding after_trace
  after_more s [] r = refl
  after_more s (x ∷ t) r = after_more (after P s x) t r

  pub lawful_more : (s : State) (t : List Record) (r : Record) → T (lawful_trace P s t) → T (lawful P (after_trace P s t) r) → T (lawful_trace P s (t ++ (r ∷ [])))
  unfolding after_trace lawful_trace_by
  lawful_more s [] r h l = (trace_iff P s r []).1 (l, tt)
  lawful_more s (x ∷ t) r h l = let y = (trace_iff P s x t).0 h in (trace_iff P s x (t ++ (r ∷ []))).1 (y.0, lawful_more (after P s x) t r y.1 l)

-- ---- the loop

-- Of the table t, with d in the buffer at first: `done` are the records so far. The buffer holds them at its front, and the run from
-- the first state is these and the run from the state reached.
pub record Running (t d b : List ℕ) (m : Masks) (at steps : ℕ) : Type 0 where
  pub done : List Record
  pub ready : Ready t m
  pub reached : state_of m ≡ after_trace (held t) (full (held t)) done
  pub lawful : T (lawful_trace (held t) (full (held t)) done)
  pub told : run (held t) (full (held t)) ≡ done ++ run (held t) (state_of m)
  pub bytes : b ≡ fronted (trace_bytes done) d
  pub place : at ≡ length (trace_bytes done)
  pub count : steps ≡ length done
  pub long : 1 + 5 * size_sum (held t) ≤ length d

-- the first byte of the trace is in the buffer before the loop
first_byte : (d : List ℕ) → 1 ≤ length d → set d 0 1 ≡ fronted (trace_bytes []) (set d 0 1)
unfolding trace_bytes records_bytes
first_byte [] l = absurd (omega arith)
first_byte (x ∷ d) l = refl

-- and is no byte of what stands after the trace
fronted_first : (l : List Record) (d : List ℕ) → fronted (trace_bytes l) (set d 0 1) ≡ fronted (trace_bytes l) d
unfolding trace_bytes
fronted_first l d = ap (λ (x : List ℕ). (1 ∷ records_bytes l) ++ x) (drop-set-lt (length (1 ∷ records_bytes l)) d 0 1 (omega arith))

-- every variable has a value at first
pub first_lasts : {t : List ℕ} → RowTable t → none_empty (held t) (state_of (masks_of (full (held t)))) ≡ true
unfolding full
first_lasts {t} R =
    ap (none_empty (held t)) (full_says R)
    ∙ T_true _ ((none_empty_iff (full_fits (held t))).1 (λ i h. (0, (and_iff (ltb i (held t).n) (ltb 0 ((held t).size i))).1 (h, (ltb_iff 0 ((held t).size i)).1 ((held_bounded R).some i ((ltb_iff i (held t).n).0 h))))))

pub running_start : (t d : List ℕ) → RowTable t → 1 + 5 * size_sum (held t) ≤ length d → Running t (set d 0 1) (set d 0 1) (masks_of (full (held t))) 1 0
unfolding after_trace lawful_trace_by trace_bytes records_bytes
running_start t d R l =
    record {
      done = [];
      ready = full_ready R;
      reached = full_says R;
      lawful = tt;
      told = ap (run (held t)) (sym (full_says R));
      bytes = first_byte d (omega arith);
      place = refl;
      count = refl;
      long = omega (arith, length-set d 0 1);
    }

module _ (t d : List ℕ) where
  module _ (b : List ℕ) (m : Masks) (at steps : ℕ) (W : Running t d b m at steps) where
    -- as many values are in domains as steps can still come
    few : steps + live_count (held t) (state_of m) ≤ size_sum (held t)
    few =
        let e = ap (live_count (held t)) W.reached in
        omega (arith, e, W.count, trace_falls (held t) (full_fits (held t)) W.done W.lawful, full_count (held t))

    room : at ≤ 1 + 5 * steps
    room = omega (arith, trace_length W.done, W.place, W.count)

    pub same_length : length b ≡ length d
    same_length = ap length W.bytes ∙ length_fronted (trace_bytes W.done) d (omega (arith, few, room, W.place, W.long))

    module _ (r : Record) (e : next (held t) (state_of m) ≡ Some r) where
      holds_here : T (lawful (held t) (state_of m) r)
      holds_here = next_lawful (held t) (state_of m) r e

      pub falls : live_count (held t) (after (held t) (state_of m) r) < live_count (held t) (state_of m)
      falls = step_falls (held t) W.ready.fits r holds_here

      -- the longest record has room
      pub record_room : at + 5 ≤ length b
      record_room = omega (arith, falls, few, room, W.long, same_length)

      pub step_counts : steps < length b
      step_counts = omega (arith, falls, few, W.long, same_length)

      -- its fields fit a byte
      pub record_small : Small r
      record_small = holds_below W.ready.fits 256 (omega (arith, held_few t)) (λ i. omega (arith, held_narrow W.ready.table i)) r ((lawful_iff (held t) (state_of m) r).0 holds_here).1

      pub running_next : Running t d (written b at (record_bytes r)) (masks_of (after (held t) (state_of m) r)) (at + length (record_bytes r)) (steps + 1)
      running_next =
          let P = held t in
          let done = W.done in
          let back = after_state W.ready r in
          let more = trace_more done r in
          record {
            done = done ++ (r ∷ []);
            ready = after_ready W.ready r;
            reached = back ∙ ap (λ (s : State). after P s r) W.reached ∙ sym (after_more P (full P) done r);
            lawful = lawful_more P (full P) done r W.lawful (subst (λ (s : State). T (lawful P s r)) W.reached holds_here);
            told =
                W.told ∙ ap (λ (l : List Record). done ++ l) (run_more P W.ready.fits r e) ∙ sym (append_assoc done (r ∷ []) (run P (after P (state_of m) r)))
                ∙ ap (λ (s : State). (done ++ (r ∷ [])) ++ run P s) (sym back);
            bytes =
                (λ i. written (W.bytes i) (W.place i) (record_bytes r))
                ∙ fronted_more (trace_bytes done) (record_bytes r) d (omega (arith, W.place, record_room, same_length, (record_most r).1))
                ∙ ap (λ (w : List ℕ). fronted w d) (sym more);
            place = ap (λ (k : ℕ). k + length (record_bytes r)) W.place ∙ sym (ap length more ∙ length-append (trace_bytes done) (record_bytes r));
            count = ap (λ (k : ℕ). k + 1) W.count ∙ sym (length-append done (r ∷ []));
            long = W.long;
          }

    -- no step is left
    module _ (e : next (held t) (state_of m) ≡ None) where
      all_done : run (held t) (full (held t)) ≡ W.done
      all_done = W.told ∙ ap (λ (l : List Record). W.done ++ l) (run_ended (held t) (state_of m) e) ∙ append-nil W.done

      last : state_of m ≡ after_trace (held t) (full (held t)) (run (held t) (full (held t)))
      last = W.reached ∙ ap (after_trace (held t) (full (held t))) (sym all_done)

      done_state : m ≡ masks_of (after_trace (held t) (full (held t)) (run (held t) (full (held t))))
      done_state = sym (masks_back m W.ready.proper) ∙ ap masks_of last

      done_end : end_of (held t) (state_of m) ≡ end_of (held t) (after_trace (held t) (full (held t)) (run (held t) (full (held t))))
      done_end = ap (end_of (held t)) last

      done_count : steps ≡ length (run (held t) (full (held t)))
      done_count = W.count ∙ ap length (sym all_done)

      done_place : at ≡ length (trace_bytes (run (held t) (full (held t))))
      done_place = W.place ∙ ap (λ (l : List Record). length (trace_bytes l)) (sym all_done)

      -- d₀ was in the buffer before the trace's first byte
      pub done_buffer : (d₀ : List ℕ) → d ≡ set d₀ 0 1 → b ≡ (run_done (held t) d₀).buffer
      unfolding run_done
      done_buffer d₀ q = W.bytes ∙ (λ i. fronted (trace_bytes (sym all_done i)) (q i)) ∙ fronted_first (run (held t) (full (held t))) d₀

      pub done_answer : (d₀ : List ℕ) → record { outcome = ran (end_of (held t) (state_of m)) steps at; state = m } ≡ (run_done (held t) d₀).answer
      unfolding run_done
      done_answer d₀ = λ i. record { outcome = ran (done_end i) (done_count i) (done_place i); state = done_state i }
