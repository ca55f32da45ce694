-- The logs of a program, whatever its schedule, and what is said of all its replays.
use Rattle.std.specs.Prelude.{◌≡◌, ℕ, Bool, true, false, not, IsTrue, List, [], ◌∷◌, Option, Some, None, slice_get, if◌then◌else◌}
use Rattle.velo_events.specs.declared.config.Config.{Config}
use Rattle.velo_events.specs.declared.event.Action.{Action}
use Rattle.velo_events.specs.declared.event.Event.{Event}
use Rattle.velo_events.specs.declared.event.ThreadId.{ThreadId}
use Rattle.velo_events.specs.declared.refusal.Refusal.{Refusal}
use Rattle.velo_events.specs.declared.refusal.Refusal.TheVariants.{GraphFull, LogFull, Memory}
use Rattle.velo_events.specs.Reordering.{IsSerializable}
use Rattle.velo_workload.specs.declared.statement.Statement.{Statement}
use Rattle.velo_workload.specs.Program.{Program}
use Rattle.velo_events.specs.Event.{value_read}
use Rattle.velo_world.specs.World.{WorldState}
use Rattle.velo_worker.specs.declared.ending.Ending.{Ending}
use Rattle.velo_worker.specs.declared.ending.Ending.TheVariants.{Stuck, Refused}
use Rattle.velo_worker.specs.declared.progress.Progress.{Progress}
use Rattle.velo_worker.specs.Progress.{start_of, settled, wanted, after_event}
use Rattle.velo_worker.specs.Schedule.{Replays}
use Rattle.velo_movers.specs.Programs.{IsLog}
use Rattle.velo_movers.specs.Wants.{Does}

-- how far a thread has come after these events of its own
unfoldable pub progress_after : Progress → List Event → Progress
progress_after p [] = p
progress_after p (e ∷ events) = progress_after (after_event (settled p) (value_read e.kind)) events

-- what it tries next, unless it is done
abbrev pub tried : Progress → Option Action
tried p = if p.done then None else Some (wanted (settled p))

abbrev pub tried_by : Option (List Statement) → List Event → Option Action
tried_by (Some body) events = tried (progress_after (start_of body) events)
tried_by None events = None

-- what thread t of the program tries after these events of its own
abbrev pub wants_of : Program → ℕ → List Event → Option Action
wants_of program t events = tried_by (slice_get program.bodies t) events

-- the trace can come about, and each thread's events are those that it tries one after another
abbrev pub IsLogOf : Program → List Event → Type 0
IsLogOf program log = IsLog program.bounds (Does (wants_of program)) log

-- ---- all replays

-- what is left of the log is serializable, whatever the schedule
abbrev pub AlwaysSerializable : (List Event → List Event) → Program → Type 0
AlwaysSerializable rest program =
    (schedule : List ThreadId) (config : Config) (ending : Ending) (closed : WorldState) → config.bounds ≡ program.bounds → Replays program schedule config ending closed → IsSerializable (rest closed.log)

-- no replay is stuck
abbrev pub NeverStuck : Program → Type 0
NeverStuck program =
    (schedule : List ThreadId) (config : Config) (closed : WorldState) → config.bounds ≡ program.bounds → ¬ Replays program schedule config Stuck closed

-- a refusal for want of room
abbrev pub is_for_room : Refusal → Bool
is_for_room LogFull = true
is_for_room Memory = true
is_for_room GraphFull = true
is_for_room r = false

-- the run ended as a thread was refused, and not for want of room
abbrev pub ends_refused : Ending → Bool
ends_refused (Refused t r) = not (is_for_room r)
ends_refused ending = false

-- a replay is refused for want of room alone
abbrev pub NeverRefused : Program → Type 0
NeverRefused program =
    (schedule : List ThreadId) (config : Config) (t : ThreadId) (r : Refusal) (closed : WorldState) → config.bounds ≡ program.bounds → Replays program schedule config (Refused t r) closed → IsTrue (is_for_room r)
