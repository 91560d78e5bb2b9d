-- A trace checked from a place on, and what the code answers of it.
use Rattle.std.specs.Prelude.{Bool, true, false, List, ℕ, suc, ◌+◌, ◌-◌, length, Err, Ok, Option}
use Rattle.problem.specs.Problem.{Problem, State}
use Rattle.problem.specs.Run.{lawful, broken_cover, after, after_trace}
use Rattle.problem.specs.Masks.{masks_of, state_of, empty_masks}
use Rattle.problem.specs.declared.Masks.{Masks}
use Rattle.put_back.specs.declared.PutBackRefusal.{PutBackRefusal}
use Rattle.put_back.specs.declared.PutBackRefusal.TheVariants.{Malformed}
use Rattle.trace.specs.declared.RecordRead.{RecordRead}
use Rattle.trace.specs.declared.RecordRead.TheVariants as record·
use Rattle.put_back.specs.PutBack.{Checked, Lawful as Records, Faulty, unlawful_record, check_from}
use Rattle.replay.specs.declared.TraceEnd.{TraceEnd}
use Rattle.replay.specs.declared.Checking.{Checking}

-- what is left from the place p on, in the state s, with record k there: a turn for each byte left and one for the end are enough
unfoldable pub checked_from : Problem → List ℕ → State → (k p : ℕ) → Checked
checked_from P t s k p = check_from (suc (length t - p)) P t s k p

-- the two answers: the records are lawful and lead to the state of m, or the first fault, which comes with the empty state
abbrev pub lawful_end : Masks → TraceEnd
lawful_end m = record { check = Ok tt; state = m }

abbrev pub faulty : PutBackRefusal → TraceEnd
faulty e = record { check = Err e; state = empty_masks }

abbrev pub walk_ended : Problem → State → Checked → TraceEnd
walk_ended P s (Records ts) = lawful_end (masks_of (after_trace P s ts))
walk_ended P s (Faulty e) = faulty e

-- ---- a check on its way

-- at record k, in the state of m
abbrev pub going_on : Masks → (k : ℕ) → Checking
going_on m k = record { end = lawful_end m; on = true; count = k }

abbrev pub stopped_with : TraceEnd → Checking
stopped_with e = record { end = e; on = false; count = 0 }

-- record k that is lawful leads on to the state of m, and any other stops the check, by where its cover breaks
abbrev pub ruled_turn : Bool → Masks → (k : ℕ) → Option (ℕ × ℕ) → Checking
ruled_turn true m k x = going_on m (k + 1)
ruled_turn false m k x = stopped_with (faulty (unlawful_record k x))

-- one turn, of what the reader found
abbrev pub checked_turn : Problem → Checking → RecordRead → Checking
checked_turn P c (record·.Read r q) =
    ruled_turn (lawful P (state_of c.end.state) r) (masks_of (after P (state_of c.end.state) r)) c.count (broken_cover P (state_of c.end.state) r)
checked_turn P c record·.End = stopped_with c.end
checked_turn P c record·.Malformed = stopped_with (faulty Malformed)
