-- The places at which accesses are remembered: which of them an event looks up, which it records, and the last event of a trace at each.
use Rattle.std.specs.Prelude.{ℕ, suc, Bool, ◌&&◌, ◌||◌, ◌==◌, List, [], ◌∷◌, Option, Some, None, map, option_map, if◌then◌else◌}
use Rattle.std.specs.List.{range_with_len}
use Rattle.std.specs.Option.{option_or}
use Rattle.velo_events.specs.declared.limits.TheConstants.{MAX_THREADS}
use Rattle.velo_events.specs.declared.event.Event.{Event}
use Rattle.velo_events.specs.declared.event.Access.{Access}
use Rattle.velo_events.specs.declared.event.Access.TheVariants.{Shared, Exclusive}
use Rattle.velo_events.specs.Event.{access_of, thread_of, is_writing, is_reading, is_fork_of}

pub data Place : Type 0 where
  -- the last event of thread t
  LastOf : (t : ℕ) → Place
  -- the last write of a variable, or the last event that acquired or released a lock alone: c is its cell
  LastWrite : (c : ℕ) → Place
  -- the last read of a variable by thread t, or the last event of t that acquired or released a share of a lock
  LastRead : (c t : ℕ) → Place

-- the numbers that threads can have
unfoldable pub thread_numbers : List ℕ
thread_numbers = range_with_len 0 MAX_THREADS

-- what is looked up beside the last event of the own thread
abbrev pub also_looked_up : Access → List Place
also_looked_up (Shared c) = LastWrite c.0 ∷ []
also_looked_up (Exclusive c) = LastWrite c.0 ∷ map (LastRead c.0) thread_numbers
also_looked_up (Access.Join u) = LastOf u.0 ∷ []
also_looked_up _ = []

-- the places that an event looks up, in order
abbrev pub looked_up : Event → List Place
looked_up e = LastOf (thread_of e) ∷ also_looked_up (access_of e.kind)

-- The event is recorded at the place. A fork of u is the last event of u until u has one of its own.
abbrev pub is_recorded : Event → Place → Bool
is_recorded e (LastOf t) = (thread_of e == t) || is_fork_of t e
is_recorded e (LastWrite c) = is_writing c e
is_recorded e (LastRead c t) = is_reading c e && (thread_of e == t)

-- the position of the last event that passes the test
unfoldable pub last_position : (Event → Bool) → List Event → Option ℕ
last_position test [] = None
last_position test (e ∷ es) = option_or (option_map suc (last_position test es)) (if test e then Some 0 else None)

-- the position of the last event that is recorded at the place
abbrev pub last_at : Place → List Event → Option ℕ
last_at p trace = last_position (λ e. is_recorded e p) trace
