-- Schedules that are simple: of one with at most MAX_MINIMAL turns no single turn can be left out; a longer one is only no longer
-- than what was found.
use Rattle.std.specs.Prelude.{◌≡◌, ◌⊎◌, ◌+◌, ◌-◌, ◌<◌, ◌≤◌, ⊤, ℕ, Bool, true, List, ◌++◌, drop, length, min, take, Option, Some, None}
use Rattle.std.specs.Global.{Vec}
use Rattle.std.specs.Option.{option_or}
use Rattle.velo_events.specs.declared.config.Config.{Config}
use Rattle.velo_events.specs.declared.event.ThreadId.{ThreadId}
use Rattle.velo_events.specs.Graph.{HasCycle}
use Rattle.velo_workload.specs.Program.{Program}
use Rattle.velo_world.specs.World.{WorldState}
use Rattle.velo_worker.specs.declared.ending.Ending.{Ending}
use Rattle.velo_worker.specs.Schedule.{Replays}
use Rattle.velo_explore.specs.declared.finding.Finding.{Finding}
use Rattle.velo_explore.specs.declared.finding.Finding.TheVariants.{Shown, Never, Open}
use Rattle.velo_explore.specs.declared.finding.Findings.{Findings}
use Rattle.velo_explore.specs.declared.finding.Witness.{Witness}
use Rattle.velo_explore.specs.declared.goal.Goal.{Goal}
use Rattle.velo_explore.specs.declared.goal.Goal.TheVariants.{Alarm, Refused, Stuck}
use Rattle.velo_search.specs.declared.fault.Fault.{Fault}
use Rattle.velo_explore.specs.Goals.{DoesNotShow, IsReplayOf, Reaches, Shows, finding_of, first_of}
use Rattle.velo_explore.specs.Told.{IfShown}
use Rattle.velo_explore.specs.declared.findings.Replay.{Replay}
use Rattle.velo_explore.specs.declared.findings.Shrunk.{Shrunk}
use Rattle.velo_explore.specs.declared.minimizing.TheConstants.{MAX_MINIMAL}
use Rattle.velo_schedule_text.specs.declared.limits.TheConstants.{MAX_TURNS}
use Rattle.velo_schedule_text.specs.Schedule.{SaysTurns}
use Rattle.velo_schedule_text.specs.Short.{short_text}

-- the turns but the one at position i
abbrev pub without : ℕ → List ThreadId → List ThreadId
without i turns = take i turns ++ drop (i + 1) turns

-- Whatever its schedule, a run reaches the goal within n turns: its first n events have a cycle; it
-- is stuck after at most n; or the thread is refused in the turn after fewer.
abbrev pub ReachesWithin : ℕ → Goal → Ending → WorldState → Type 0
ReachesWithin n Alarm ending closed = HasCycle (take n closed.log)
ReachesWithin n Stuck ending closed = Reaches Stuck ending closed × (length closed.log ≤ n)
ReachesWithin n (Refused t r) ending closed = Reaches (Refused t r) ending closed × (length closed.log < n)

-- by these turns the program replays, with these limits, to a run that does not reach the goal
-- within n turns
pub record Misses (n : ℕ) (program : Program) (limits : Config) (goal : Goal) (turns : List ThreadId) : Type 0 where
  pub ending : Ending
  pub closed : WorldState
  pub replays : Replays program turns limits ending closed
  pub misses : ¬ ReachesWithin n goal ending closed

-- whether a replay that looks for the goal ends at its alarm: where it looks for an alarm, or if
-- this is asked for
abbrev pub stops : Goal → Bool → Bool
stops Alarm stop = true
stops goal stop = stop

-- the limits of the configuration, but a replay ends soon after n events, and one that looks for an
-- alarm at the alarm
pub record IsLimited (n : ℕ) (goal : Goal) (config limits : Config) : Type 0 where
  pub run : limits.run ≡ config.run
  pub bounds : limits.bounds ≡ config.bounds
  pub events : limits.events ≡ min (n + 1) config.events
  pub nodes : limits.nodes ≡ config.nodes
  pub stop : limits.stop ≡ stops goal config.stop

-- Without the turn at position i a replay does not reach the goal within as many turns as are left:
-- one with the limits of the configuration, or one that ends soon after so many events.
pub record IsNeeded (program : Program) (config : Config) (goal : Goal) (turns : List ThreadId) (i : ℕ) : Type 0 where
  pub limits : Config
  pub limited : (limits ≡ config) ⊎ IsLimited (length turns - 1) goal config limits
  pub misses : Misses (length turns - 1) program limits goal (without i turns)

-- this is so of each of the turns
pub record IsMinimal (program : Program) (config : Config) (goal : Goal) (turns : List ThreadId) : Type 0 where
  pub each : (i : ℕ) → i < length turns → IsNeeded program config goal turns i

-- a schedule that is told in place of one that was found: it is no longer, and unless it is very
-- long none of its turns can be left out
pub record Simplifies (program : Program) (config : Config) (goal : Goal) (found told : List ThreadId) : Type 0 where
  pub shorter : length told ≤ length found
  pub minimal : length told ≤ MAX_MINIMAL → IsMinimal program config goal told

-- so for the same goal
abbrev pub SimplifiesWitness : Program → Config → Witness → Witness → Type 0
SimplifiesWitness program config found told =
    (told.goal ≡ found.goal) × Simplifies program config found.goal found.schedule.items told.schedule.items

-- ---- findings

-- the short text of this schedule says its turns, so that a replay takes it
abbrev pub IsSayable : List ThreadId → Type 0
IsSayable schedule = SaysTurns (short_text schedule) schedule

-- The schedule that was found was made simple. It shows its goal, but has more turns than a text may,
-- or does not show it in one more replay. By the same turns and limits two replays with memory differ only
-- where one of them finds no node for an event (`FillsGraph` of `velo_world`).
abbrev pub CannotBeTold : Program → Config → Witness → Type 0
CannotBeTold program config found =
    (simple : Witness) × SimplifiesWitness program config found simple × Shows program config simple
    × ((MAX_TURNS < length simple.schedule.items) ⊎ DoesNotShow program config simple.goal simple.schedule.items)

-- a finding is told by its schedule, made simple; or it is left open. Any other is told as it was
abbrev pub SimplifiesFinding : Program → Config → Finding → Finding → Type 0
SimplifiesFinding program config (Shown found) (Shown told) = SimplifiesWitness program config found told
SimplifiesFinding program config (Shown found) Open = CannotBeTold program config found
SimplifiesFinding program config found told = told ≡ found

-- the replay is by the schedule, and shows its goal
abbrev pub IsReplayBy : Program → Config → Witness → Replay → Type 0
IsReplayBy program config told replay =
    (replay.goal ≡ told.goal) × IsReplayOf program config told.goal told.schedule.items replay.closed

-- it is kept, unless there was one
abbrev pub KeepsReplay : Program → Config → Witness → Option Replay → Option Replay → Type 0
KeepsReplay program config told None now = (replay : Replay) × IsReplayBy program config told replay × (now ≡ Some replay)
KeepsReplay program config told (Some old) now = now ≡ Some old

-- that of a finding that is shown
abbrev pub KeepsFirst : Program → Config → Finding → Option Replay → Option Replay → Type 0
KeepsFirst program config (Shown told) old now = KeepsReplay program config told old now
KeepsFirst program config told old now = now ≡ old

-- the finding is told by a simple schedule, which shows its goal and can be told; and its replay is kept, if none was
pub record IsToldBy (program : Program) (config : Config) (found told : Finding) (old now : Option Replay) : Type 0 where
  pub simple : SimplifiesFinding program config found told
  pub shows : IfShown told (Shows program config)
  pub sayable : IfShown told (λ witness. IsSayable witness.schedule.items)
  pub first : KeepsFirst program config told old now

-- the replay is that by the first witness, if there is one
abbrev pub IsReplayFor : Program → Config → Option Witness → Option Replay → Type 0
IsReplayFor program config None None = ⊤
IsReplayFor program config (Some told) (Some replay) = IsReplayBy program config told replay
IsReplayFor program config told replay = ⊥

-- what was found is told by simple schedules, each of which shows its goal and can be told; and the
-- replay of the first is kept
pub record IsShrunkFrom (program : Program) (config : Config) (found : Findings) (shrunk : Shrunk) : Type 0 where
  pub simple : (fault : Fault) → SimplifiesFinding program config (finding_of found fault) (finding_of shrunk.findings fault)
  pub shows : (fault : Fault) → IfShown (finding_of shrunk.findings fault) (Shows program config)
  pub sayable : (fault : Fault) → IfShown (finding_of shrunk.findings fault) (λ witness. IsSayable witness.schedule.items)
  pub first : IsReplayFor program config (first_of shrunk.findings) shrunk.first

-- ---- what a try answers

-- there are more than n of them, or none
abbrev pub IsAbove : ℕ → Option (Vec ThreadId) → Type 0
IsAbove n None = ⊤
IsAbove n (Some turns) = n < length turns.items
