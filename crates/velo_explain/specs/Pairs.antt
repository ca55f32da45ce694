-- Accesses to variables that make the same edge as two events on a lock.
use Rattle.std.specs.Prelude.{ℕ, zero, suc, Bool, false, not, ◌==◌, ◌&&◌, List, length, Option, Some, None, is_some, if◌then◌else◌}
use Rattle.std.specs.Option.{option_or}
use Rattle.velo_events.specs.declared.event.Event.{Event}
use Rattle.velo_events.specs.declared.event.Kind.{Kind}
use Rattle.velo_events.specs.declared.event.Kind.TheVariants.{Read, Write}
use Rattle.velo_events.specs.Block.{owner}
use Rattle.velo_events.specs.Event.{lock_of, thread_of}
use Rattle.velo_certify.specs.declared.edges.EdgeEvents.{EdgeEvents}
use Rattle.velo_certify.specs.Owners.{event_at}

-- ---- accesses of a transaction

-- the operation reads or writes variable v
abbrev pub is_access_to : ℕ → Kind → Bool
is_access_to v (Read x value) = x.0 == v
is_access_to v (Write x value) = x.0 == v
is_access_to v _ = false

-- it writes variable v
abbrev pub is_write_to : ℕ → Kind → Bool
is_write_to v (Write x value) = x.0 == v
is_write_to v _ = false

-- the event at position i is of transaction a, and accesses variable v
abbrev pub accesses : List Event → ℕ → ℕ → ℕ → Bool
accesses log a v i = (owner log i == a) && is_access_to v (event_at log i).kind

-- the same, and writes it
abbrev pub writes : List Event → ℕ → ℕ → ℕ → Bool
writes log a v i = (owner log i == a) && is_write_to v (event_at log i).kind

-- the number after the latest position below n that passes the test, or 0
unfoldable pub latest_below : ℕ → (ℕ → Bool) → ℕ
latest_below zero test = 0
latest_below (suc n) test = if test n then suc n else latest_below n test

-- ---- pairs

-- The number after the latest access of transaction a before position j that conflicts with this
-- operation: a write, if it reads.
abbrev pub latest_for : List Event → ℕ → ℕ → Kind → ℕ
latest_for log a j (Read x value) = latest_below j (writes log a x.0)
latest_for log a j (Write x value) = latest_below j (accesses log a x.0)
latest_for log a j _ = 0

abbrev pub pair_behind : ℕ → ℕ → Option EdgeEvents
pair_behind zero j = None
pair_behind (suc i) j = Some (record { from = i; to = j })

-- the event at position j, if it is of transaction b, behind the latest access of transaction a that
-- conflicts with it
abbrev pub pair_at : List Event → ℕ → ℕ → ℕ → Option EdgeEvents
pair_at log a b j =
    if owner log j == b then pair_behind (latest_for log a j (event_at log j).kind) j else None

-- the first of the pairs at the positions below n
unfoldable pub first_pair_below : ℕ → (ℕ → Option EdgeEvents) → Option EdgeEvents
first_pair_below zero pair = None
first_pair_below (suc n) pair = option_or (first_pair_below n pair) (pair n)

-- the first access of transaction b that conflicts with an earlier one of transaction a, with the
-- latest of these
abbrev pub first_pair : List Event → ℕ → ℕ → Option EdgeEvents
first_pair log a b = first_pair_below (length log) (pair_at log a b)

-- ---- edges by locks

-- an operation on a lock stands at position p
abbrev pub is_on_lock_at : List Event → ℕ → Bool
is_on_lock_at log p = is_some (lock_of (event_at log p).kind)

-- both events of the edge are on a lock, and they are of two threads
abbrev pub is_by_lock : List Event → EdgeEvents → Bool
is_by_lock log edge =
    is_on_lock_at log edge.from
    && (is_on_lock_at log edge.to
    && not (thread_of (event_at log edge.from) == thread_of (event_at log edge.to)))

-- the accesses that make the edge, too, where it is one by locks
abbrev pub accesses_of : List Event → EdgeEvents → Option EdgeEvents
accesses_of log edge =
    if is_by_lock log edge then first_pair log (owner log edge.from) (owner log edge.to) else None
