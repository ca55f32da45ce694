-- What a workload does by a schedule: turns, rounds of turns, and how they end.
use Rattle.std.specs.Prelude.{◌≡◌, ◌≢◌, ◌<◌, ◌↔◌, ◌⊎◌, ⊤, ℕ, zero, suc, ◌+◌, true, List, [], ◌∷◌, ◌++◌, length, map, Option, Some, None, Result, Ok, Err, IsOk, IsTrue, slice_get, slice_set}
use Rattle.velo_events.specs.declared.config.Config.{Config}
use Rattle.velo_events.specs.declared.event.Action.{Action}
use Rattle.velo_events.specs.declared.event.Event.{Event}
use Rattle.velo_events.specs.declared.event.Status.TheVariants.{Unborn}
use Rattle.velo_events.specs.declared.event.ThreadId.{ThreadId}
use Rattle.velo_events.specs.declared.refusal.Refusal.{Refusal}
use Rattle.velo_events.specs.declared.refusal.Refusal.TheVariants.{Busy, NotExited, GraphFull}
use Rattle.velo_events.specs.declared.refusal.Refusal.TheVariants as refusal
use Rattle.velo_events.specs.Graph.{HasCycle}
use Rattle.velo_events.specs.Heap.{status_in}
use Rattle.velo_events.specs.Refusals.{GrowthRefused}
use Rattle.velo_workload.specs.Program.{Program}
use Rattle.velo_events.specs.Event.{value_read}
use Rattle.velo_world.specs.World.{WorldState, meaning, opening, FillsGraph}
use Rattle.velo_worker.specs.declared.ending.Ending.{Ending}
use Rattle.velo_worker.specs.declared.ending.Ending.TheVariants.{Done, Stuck, Halted, Refused}
use Rattle.velo_worker.specs.declared.progress.Progress.{Progress}
use Rattle.velo_worker.specs.Progress.{start_of, settled, wanted, after_event}

-- the state of a replay: a world, and how far each of its threads has come
pub record ReplayState : Type 0 where
  pub world : WorldState
  pub threads : List Progress

-- ---- a turn of one thread

-- there is no such thread, or it is done, or nobody has forked it yet
abbrev pub IsIdle : List Event → ℕ → Option Progress → Type 0
IsIdle log t None = ⊤
IsIdle log t (Some p) = (p.done ≡ true) ⊎ (status_in log t ≡ Unborn)

-- the action of the thread is one event. A world that stops at an alarm is halted once its log has
-- a cycle
pub record Happens (w : WorldState) (t : ThreadId) (action : Action) (e : Event) (w' : WorldState) : Type 0 where
  pub due : meaning w t action ≡ Ok e
  pub config : w'.config ≡ w.config
  pub log : w'.log ≡ w.log ++ e ∷ []
  pub halted : IsTrue w'.halted ↔ (IsTrue w.config.stop × HasCycle w'.log)

-- a refusal at which the thread waits for another, and tries the same at its next turn
abbrev pub IsWait : Refusal → Type 0
IsWait Busy = ⊤
IsWait NotExited = ⊤
IsWait r = ⊥

-- a refusal that ends the run: the one that is due; or an event is due, and an allocation failed
-- for it or the graph is full
pub record EndsRun (w : WorldState) (due : Result Event Refusal) (r : Refusal) : Type 0 where
  pub goes_on : ¬ IsWait r
  pub cause : (due ≡ Err r) ⊎ (((r ≡ refusal.Memory) × (IsOk due × GrowthRefused)) ⊎ ((r ≡ GraphFull) × FillsGraph w due))

-- the thread does its statements without events up to the next event, and tries that: it happens;
-- or the thread waits; or the try ends the run
abbrev pub Tries : WorldState → ThreadId → Progress → Option Ending → WorldState → Progress → Type 0
Tries w t p None w' p' =
    ((e : Event) × Happens w t (wanted (settled p)) e w' × (p' ≡ after_event (settled p) (value_read e.kind)))
    ⊎ ((r : Refusal) × IsWait r × (meaning w t (wanted (settled p)) ≡ Err r) × (w' ≡ w) × (p' ≡ settled p))
Tries w t p (Some Halted) w' p' = (meaning w t (wanted (settled p)) ≡ Err refusal.Halted) × (w' ≡ w) × (p' ≡ settled p)
Tries w t p (Some (Refused u r)) w' p' =
    (u ≡ t) × (r ≢ refusal.Halted) × EndsRun w (meaning w t (wanted (settled p))) r × (w' ≡ w) × (p' ≡ settled p)
Tries w t p (Some ending) w' p' = ⊥

-- the thread that has the turn tries its next event, and no other thread changes
pub record TriesAt (c : ReplayState) (t : ThreadId) (stop : Option Ending) (c' : ReplayState) : Type 0 where
  pub before : Progress
  pub after : Progress
  pub there : slice_get c.threads t.0 ≡ Some before
  pub not_idle : ¬ IsIdle c.world.log t.0 (Some before)
  pub tries : Tries c.world t before stop c'.world after
  pub threads : c'.threads ≡ slice_set c.threads t.0 after

-- an idle thread passes, any other tries its next event. The turn may end the run
abbrev pub TurnOf : ReplayState → ThreadId → Option Ending → ReplayState → Type 0
TurnOf c t stop c' = (IsIdle c.world.log t.0 (slice_get c.threads t.0) × (stop ≡ None) × (c' ≡ c)) ⊎ TriesAt c t stop c'

-- ---- turns one after another, up to the first that ends the run

unfoldable pub TurnsOf : ReplayState → List ThreadId → Option Ending → ReplayState → Type 0
TurnsOf c [] stop c' = (stop ≡ None) × (c' ≡ c)
TurnsOf c (t ∷ ts) stop c' =
    ((ending : Ending) × (stop ≡ Some ending) × TurnOf c t stop c')
    ⊎ ((mid : ReplayState) × TurnOf c t None mid × TurnsOf mid ts stop c')

-- the n threads from thread t on, in their order
unfoldable pub threads_from : ℕ → ℕ → List ThreadId
threads_from t zero = []
threads_from t (suc n) = record { 0 = t } ∷ threads_from (t + 1) n

abbrev pub all_threads : ReplayState → List ThreadId
all_threads c = threads_from 0 (length c.threads)

-- ---- rounds of all threads, one after another

pub record AllIdle (c : ReplayState) : Type 0 where
  pub each : (t : ℕ) → t < length c.threads → IsIdle c.world.log t (slice_get c.threads t)

-- a round of turns of all threads, where not all are idle
pub record RoundOf (c : ReplayState) (stop : Option Ending) (c' : ReplayState) : Type 0 where
  pub some : ¬ AllIdle c
  pub turns : TurnsOf c (all_threads c) stop c'

-- rounds up to the end: all threads are idle; or a round added no event; or a turn ends the run
pub data RoundsOf : ReplayState → Ending → ReplayState → Type 0 where
  all_idle : (c : ReplayState) → AllIdle c → RoundsOf c Done c
  no_event : (c c' : ReplayState) → RoundOf c None c' → length c'.world.log ≡ length c.world.log → RoundsOf c Stuck c'
  ended : (c c' : ReplayState) (ending : Ending) → RoundOf c (Some ending) c' → RoundsOf c ending c'
  goes_on : (c mid c' : ReplayState) (ending : Ending) → RoundOf c None mid → length c.world.log < length mid.world.log → RoundsOf mid ending c' → RoundsOf c ending c'

-- ---- the whole run

abbrev pub start : Program → Config → ReplayState
start program config = record { world = opening config; threads = map start_of program.bodies }

-- first the turns of the schedule; then rounds, unless one of those turns ended the run
abbrev pub ReplaysTo : ReplayState → List ThreadId → Ending → ReplayState → Type 0
ReplaysTo c schedule ending c' =
    TurnsOf c schedule (Some ending) c' ⊎ ((mid : ReplayState) × TurnsOf c schedule None mid × RoundsOf mid ending c')

-- log and ending of the run are those of the program by the schedule
pub record Replays (program : Program) (schedule : List ThreadId) (config : Config) (ending : Ending) (closed : WorldState) : Type 0 where
  pub last : ReplayState
  pub runs : ReplaysTo (start program config) schedule ending last
  pub world : closed ≡ last.world
