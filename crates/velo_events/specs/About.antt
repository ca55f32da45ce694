-- The things that an event is about, each by its number: look-ups and rows ask for one of them at a time.
use Rattle.std.specs.Prelude.{ℕ, Bool, Option, Some, None}
use Rattle.velo_events.specs.declared.event.Event.{Event}
use Rattle.velo_events.specs.declared.event.Access.{Access}
use Rattle.velo_events.specs.declared.event.Access.TheVariants.{Shared, Exclusive}
use Rattle.velo_events.specs.Event.{are_same, thread_of, access_of, thread_forked_or_joined}

-- the cell that the operation writes
abbrev pub cell_written : Access → Option ℕ
cell_written (Exclusive c) = Some c.0
cell_written _ = None

-- the cell that it reads
abbrev pub cell_read : Access → Option ℕ
cell_read (Shared c) = Some c.0
cell_read _ = None

-- an event's thread, the thread that it forks or joins, the cell that it writes, the one that it reads
abbrev pub thread_in : Event → Option ℕ
thread_in e = Some (thread_of e)

abbrev pub forked_or_joined_in : Event → Option ℕ
forked_or_joined_in e = thread_forked_or_joined e.kind

abbrev pub written_in : Event → Option ℕ
written_in e = cell_written (access_of e.kind)

abbrev pub read_in : Event → Option ℕ
read_in e = cell_read (access_of e.kind)

-- the event is about the thing with this number
abbrev pub is_about : (Event → Option ℕ) → ℕ → Event → Bool
is_about named x e = are_same (named e) (Some x)
