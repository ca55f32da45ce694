-- How a live run ends, and what it shows where it is done.
use Rattle.std.specs.Prelude.{ℕ, ◌≡◌, ◌≢◌, ◌≤◌, ◌<◌, ◌⊎◌, ⊤, Bool, IsTrue, List, All, Any, Option, Some, None, slice_get, nat_le, if◌then◌else◌}
use Rattle.velo_events.specs.declared.event.Event.{Event}
use Rattle.velo_events.specs.declared.event.Kind.TheVariants.{Exit}
use Rattle.velo_events.specs.declared.event.Status.TheVariants.{Unborn, Exited, Joined}
use Rattle.velo_events.specs.declared.event.ThreadId.{ThreadId}
use Rattle.velo_events.specs.declared.refusal.Refusal.{Refusal}
use Rattle.velo_events.specs.declared.refusal.Refusal.TheVariants.{Halted, WouldDeadlock}
use Rattle.velo_events.specs.Graph.{HasCycle}
use Rattle.velo_events.specs.Heap.{status_in}
use Rattle.velo_events.specs.Tally.{events_of}
use Rattle.velo_ledger.specs.Views.{Holding}
use Rattle.velo_runtime.specs.Seats.{event_by}
use Rattle.velo_workload.specs.declared.statement.Statement.{Statement}
use Rattle.velo_workload.specs.Program.{Program}
use Rattle.velo_world.specs.World.{WorldState}
use Rattle.velo_worker.specs.declared.ending.Ending.{Ending}
use Rattle.velo_worker.specs.declared.ending.Ending.TheVariants as run
use Rattle.velo_worker.specs.declared.outcome.Outcome.{Outcome}
use Rattle.velo_worker.specs.declared.outcome.Outcome.TheVariants.{Done, Gated, Refused}
use Rattle.velo_worker.specs.Counts.{body_events}

-- ---- what the ends of its workers make of a run

-- the seat that a worker handed back, and how it ended
pub record WorkerEnd : Type 0 where
  pub seat : Holding
  pub outcome : Outcome

-- some worker was kept from going on
abbrev pub IsAnyGated : List WorkerEnd → Type 0
IsAnyGated ended = Any (λ worker. worker.outcome ≡ Gated) ended

-- some worker found the world halted
abbrev pub IsAnyHalted : List WorkerEnd → Type 0
IsAnyHalted ended = Any (λ worker. worker.outcome ≡ Refused Halted) ended

-- the refusal that a worker met in a world that was not halted
abbrev pub met : Outcome → Option Refusal
met (Refused Halted) = None
met (Refused r) = Some r
met outcome = None

-- the least thread whose worker met a refusal in a world that was not halted, and that refusal
pub record IsLeastMet (ended : List WorkerEnd) (t : ThreadId) (r : Refusal) : Type 0 where
  pub place : ℕ
  pub worker : WorkerEnd
  pub there : slice_get ended place ≡ Some worker
  pub own : worker.seat.thread ≡ t
  pub refused : met worker.outcome ≡ Some r
  pub least : (i : ℕ) (other : WorkerEnd) (s : Refusal) → slice_get ended i ≡ Some other → met other.outcome ≡ Some s → t.0 ≤ other.seat.thread.0

-- or there is none
abbrev pub LeastMet : List WorkerEnd → Option (ThreadId × Refusal) → Type 0
LeastMet ended None = (i : ℕ) (other : WorkerEnd) → slice_get ended i ≡ Some other → met other.outcome ≡ None
LeastMet ended (Some found) = IsLeastMet ended found.0 found.1

-- the one of the lesser thread
abbrev pub lesser : Option (ThreadId × Refusal) → ThreadId → Refusal → ThreadId × Refusal
lesser None t r = (t, r)
lesser (Some found) t r = if nat_le found.0.0 t.0 then found else (t, r)

-- Gated goes before all others. Else the least thread that met a refusal decides: Stuck if the
-- refusal is that it would wait for itself. Else a world that some worker found halted was halted
-- by its alarm. Else all are done
abbrev pub EndsAs : List WorkerEnd → Ending → Type 0
EndsAs ended run.Gated = IsAnyGated ended
EndsAs ended run.Stuck = (¬ IsAnyGated ended) × ((t : ThreadId) × IsLeastMet ended t WouldDeadlock)
EndsAs ended (run.Refused t r) = (¬ IsAnyGated ended) × IsLeastMet ended t r × (r ≢ WouldDeadlock)
EndsAs ended run.Halted = (¬ IsAnyGated ended) × LeastMet ended None × IsAnyHalted ended
EndsAs ended run.Done = All (λ worker. worker.outcome ≡ Done) ended

-- a run that is halted is to stop at its alarm, and has one
abbrev pub HaltsAtAlarm : Bool → List Event → Ending → Type 0
HaltsAtAlarm stop log run.Halted = IsTrue stop × HasCycle log
HaltsAtAlarm stop log ending = ⊤

-- ---- what a run that is done shows

-- the seat's thread has as many events as its body, and exited last
pub record HasDone (program : Program) (seat : Holding) : Type 0 where
  pub body : List Statement
  pub here : slice_get program.bodies seat.thread.0 ≡ Some body
  pub count : seat.tally.events ≡ body_events body
  pub last : seat.tally.last ≡ Some (event_by seat Exit)

-- the thread has exited, with as many events as its body
pub record DidBody (program : Program) (log : List Event) (t : ℕ) : Type 0 where
  pub exited : (status_in log t ≡ Exited) ⊎ (status_in log t ≡ Joined)
  pub body : List Statement
  pub here : slice_get program.bodies t ≡ Some body
  pub count : events_of log t ≡ body_events body

-- each thread was never forked, or did its body
pub record AllDone (program : Program) (w : WorldState) : Type 0 where
  pub each : (t : ℕ) → t < w.config.bounds.threads → (status_in w.log t ≡ Unborn) ⊎ DidBody program w.log t
