-- Who waits for whom at the end of a run, in words.
use Rattle.std.specs.Prelude.{ℕ, zero, suc, ◌++◌, List, [], Option, Some, codes, decimal, filter, nat_lt, slice_get, option_and_then, if◌then◌else◌}
use Rattle.std.specs.Option.{option_map_or}
use Rattle.velo_events.specs.declared.event.Event.{Event}
use Rattle.velo_events.specs.Event.{are_same}
use Rattle.velo_events.specs.Heap.{holder_in, shares_in, status_in}
use Rattle.velo_events.specs.Meaning.{is_live}
use Rattle.velo_events.specs.Tally.{events_of}
use Rattle.velo_workload.specs.declared.statement.Statement.{Statement}
use Rattle.velo_workload.specs.declared.statement.Statement.TheVariants.{Acquire, Join, Share}
use Rattle.velo_workload.specs.Program.{Program}
use Rattle.velo_worker.specs.Counts.{has_event}
use Rattle.velo_worker.specs.Walk.{walk_of}

-- the statement that thread t does next after the log: that after as many of its body's events as
-- it did
abbrev pub next_of : Program → List Event → ℕ → Option Statement
next_of program log t =
    option_and_then (λ body. slice_get (filter has_event (walk_of body)) (events_of log t)) (slice_get program.bodies t)

-- ---- words

-- the name at a number; the number, where there is none
abbrev pub name_or_number : List (List ℕ) → ℕ → List ℕ
name_or_number names n = option_map_or (λ name. name) (slice_get names n) (decimal n)

-- the texts of 0 to n - 1, one after another
unfoldable pub texts_below : (ℕ → List ℕ) → ℕ → List ℕ
texts_below text zero = []
texts_below text (suc n) = texts_below text n ++ text n

-- ---- who holds a lock

-- ", held by b" where thread t holds the lock alone, ", shared by b" where it shares it
abbrev pub holder_text : Program → List Event → ℕ → ℕ → List ℕ
holder_text program log m t =
    if are_same (holder_in log m) (Some t) then codes ", held by " ++ name_or_number program.thread_names t
    else (if shares_in log m t then codes ", shared by " ++ name_or_number program.thread_names t
    else [])

-- of all threads, where there is such a lock
abbrev pub holders_text : Program → List Event → ℕ → List ℕ
holders_text program log m =
    if nat_lt m program.bounds.locks then texts_below (holder_text program log m) program.bounds.threads else []

-- ---- who waits

-- "waiting: a for lock m, held by b"
abbrev pub lock_text : Program → List Event → ℕ → ℕ → List ℕ
lock_text program log t m =
    codes "waiting: " ++ name_or_number program.thread_names t ++ codes " for lock " ++ name_or_number program.lock_names m
    ++ holders_text program log m ++ codes "\n"

-- "waiting: main for the end of a"
abbrev pub end_text : Program → ℕ → ℕ → List ℕ
end_text program t u =
    codes "waiting: " ++ name_or_number program.thread_names t ++ codes " for the end of "
    ++ name_or_number program.thread_names u ++ codes "\n"

-- a thread whose next statement is this may wait for a lock, or for the end of a thread
abbrev pub statement_text : Program → List Event → ℕ → Option Statement → List ℕ
statement_text program log t (Some (Acquire m)) = lock_text program log t m.0
statement_text program log t (Some (Share m)) = lock_text program log t m.0
statement_text program log t (Some (Join u)) = end_text program t u.0
statement_text program log t statement = []

-- a thread that was born and has not ended
abbrev pub wait_text : Program → List Event → ℕ → List ℕ
wait_text program log t = if is_live (status_in log t) then statement_text program log t (next_of program log t) else []

-- a line for each thread that waits, where the run of this log is stuck: then each thread that
-- lives waits at its next statement
abbrev pub waits_text : Program → List Event → List ℕ
waits_text program log = texts_below (wait_text program log) program.bounds.threads
