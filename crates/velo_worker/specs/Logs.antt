-- The logs of a program, whatever the order in which its threads came.
use Rattle.std.specs.Prelude.{◌≡◌, ℕ, List, [], ◌∷◌, map, filter, take, Option, Some, None, slice_get, if◌then◌else◌}
use Rattle.velo_events.specs.declared.event.Action.{Action}
use Rattle.velo_events.specs.declared.event.Event.{Event}
use Rattle.velo_events.specs.Event.{is_by}
use Rattle.velo_events.specs.Meaning.{action_of}
use Rattle.velo_events.specs.WellFormed.{IsWellFormed}
use Rattle.velo_workload.specs.Program.{Program}
use Rattle.velo_events.specs.Event.{value_read}
use Rattle.velo_worker.specs.declared.progress.Progress.{Progress}
use Rattle.velo_worker.specs.Progress.{start_of, settled, wanted, after_event}

-- the events of thread t
abbrev pub own : ℕ → List Event → List Event
own t log = filter (is_by t) log

-- how far a thread has come after these events of its own, by what they read
unfoldable pub progress_after : Progress → List Event → Progress
progress_after p [] = p
progress_after p (e ∷ events) = progress_after (after_event (settled p) (value_read e.kind)) events

-- what it tries next, unless it is done
abbrev pub tried : Progress → Option Action
tried p = if p.done then None else Some (wanted (settled p))

-- what a thread that starts so tries after these events of its own; nothing where there is no such
-- thread
abbrev pub tried_after : Option Progress → List Event → Option Action
tried_after (Some start) events = tried (progress_after start events)
tried_after None events = None

-- each of a thread's events is of the action that it tries after the ones before
pub record Follows (start : Option Progress) (events : List Event) : Type 0 where
  pub each : (i : ℕ) (e : Event) → slice_get events i ≡ Some e → tried_after start (take i events) ≡ Some (action_of e.kind)

-- those of each thread, where the threads start so
pub record AllFollow (starts : List Progress) (log : List Event) : Type 0 where
  pub each : (t : ℕ) → Follows (slice_get starts t) (own t log)

-- the events happen one after another, and each thread's are those of its body
pub record IsLogOf (program : Program) (log : List Event) : Type 0 where
  pub well : IsWellFormed program.bounds log
  pub bodies : AllFollow (map start_of program.bodies) log
