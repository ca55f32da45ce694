-- Goals: what a run of a program may show, and the schedules whose replays show it.
use Rattle.std.specs.Prelude.{◌≡◌, Bool, true, false, List, Option, Some, None, IsFalse, if◌then◌else◌}
use Rattle.std.specs.Option.{option_or}
use Rattle.velo_events.specs.declared.config.Config.{Config}
use Rattle.velo_events.specs.declared.event.Event.{Event}
use Rattle.velo_events.specs.declared.event.ThreadId.{ThreadId}
use Rattle.velo_events.specs.declared.refusal.Refusal.TheVariants.{Memory, RuntimeMemory}
use Rattle.velo_events.specs.Graph.{HasCycle}
use Rattle.velo_search.specs.Parts.{whole_log}
use Rattle.velo_search.specs.declared.fault.Fault.{Fault}
use Rattle.velo_search.specs.declared.fault.Fault.TheVariants.{Cycle, Refusing}
use Rattle.velo_search.specs.declared.fault.Fault.TheVariants as faults
use Rattle.velo_workload.specs.Program.{Program}
use Rattle.velo_world.specs.declared.analysis.Alarm.{Alarm as AlarmAt}
use Rattle.velo_world.specs.World.{AlarmOf, WorldState}
use Rattle.velo_worker.specs.declared.ending.Ending.{Ending}
use Rattle.velo_worker.specs.declared.ending.Ending.TheVariants as endings
use Rattle.velo_worker.specs.Schedule.{Replays}
use Rattle.velo_explore.specs.declared.finding.Finding.{Finding}
use Rattle.velo_explore.specs.declared.finding.Finding.TheVariants.{Shown}
use Rattle.velo_explore.specs.declared.finding.Findings.{Findings}
use Rattle.velo_explore.specs.declared.finding.Witness.{Witness}
use Rattle.velo_explore.specs.declared.goal.Goal.{Goal}
use Rattle.velo_explore.specs.declared.goal.Goal.TheVariants.{Alarm, Stuck, Refused}
use Rattle.velo_explore.specs.Logs.{is_for_room}

-- which fault of a run a goal is
abbrev pub fault_of : Goal → Fault
fault_of Alarm = Cycle
fault_of Stuck = faults.Stuck
fault_of (Refused t r) = Refusing

-- ---- one run

-- a run that ends so, and leaves this world, shows the goal: an alarm is one of what is left of its log
abbrev pub ReachesIn : (List Event → List Event) → Goal → Ending → WorldState → Type 0
ReachesIn rest Alarm ending closed = HasCycle (rest closed.log)
ReachesIn rest Stuck ending closed = ending ≡ endings.Stuck
ReachesIn rest (Refused t r) ending closed = (ending ≡ endings.Refused t r) × IsFalse (is_for_room r)

-- an alarm is one of the whole log
abbrev pub Reaches : Goal → Ending → WorldState → Type 0
Reaches = ReachesIn whole_log

-- what it shows of a fault, by whether its log has a cycle, and by how it ended
abbrev pub goal_in : Fault → Bool → Ending → Option Goal
goal_in Cycle alarm ending = if alarm then Some Alarm else None
goal_in faults.Stuck alarm endings.Stuck = Some Stuck
goal_in faults.Stuck alarm ending = None
goal_in Refusing alarm (endings.Refused t r) = if is_for_room r then None else Some (Refused t r)
goal_in Refusing alarm ending = None

-- the alarm of a log is known: one, or none
abbrev pub KnowsAlarm : List Event → Type 0
KnowsAlarm log = (alarm : Option AlarmAt) × AlarmOf log alarm

-- it ended for want of memory
abbrev pub lacks_memory : Ending → Bool
lacks_memory (endings.Refused t Memory) = true
lacks_memory (endings.Refused t RuntimeMemory) = true
lacks_memory ending = false

-- ---- replays

-- by these turns the program replays, with memory for its run, to this world, and shows the goal
pub record IsReplayIn (rest : List Event → List Event) (program : Program) (config : Config) (goal : Goal) (turns : List ThreadId) (closed : WorldState) : Type 0 where
  pub ending : Ending
  pub replays : Replays program turns config ending closed
  pub memory : lacks_memory ending ≡ false
  pub alarm : KnowsAlarm closed.log
  pub reaches : ReachesIn rest goal ending closed

abbrev pub IsReplayOf : Program → Config → Goal → List ThreadId → WorldState → Type 0
IsReplayOf = IsReplayIn whole_log

-- it replays to some world so
pub record ReachedIn (rest : List Event → List Event) (program : Program) (config : Config) (goal : Goal) (turns : List ThreadId) : Type 0 where
  pub closed : WorldState
  pub replay : IsReplayIn rest program config goal turns closed

abbrev pub Reached : Program → Config → Goal → List ThreadId → Type 0
Reached = ReachedIn whole_log

-- it replays by them, with memory for its run, to one that does not show the goal
pub record DoesNotShow (program : Program) (config : Config) (goal : Goal) (turns : List ThreadId) : Type 0 where
  pub ending : Ending
  pub closed : WorldState
  pub replays : Replays program turns config ending closed
  pub memory : lacks_memory ending ≡ false
  pub has_not : ¬ Reaches goal ending closed

-- its replay shows what it is a witness of
abbrev pub ShowsIn : (List Event → List Event) → Program → Config → Witness → Type 0
ShowsIn rest program config witness = ReachedIn rest program config witness.goal witness.schedule.items

abbrev pub Shows : Program → Config → Witness → Type 0
Shows = ShowsIn whole_log

-- and that is this fault
abbrev pub IsWitnessIn : (List Event → List Event) → Program → Config → Fault → Witness → Type 0
IsWitnessIn rest program config fault witness = ShowsIn rest program config witness × (fault_of witness.goal ≡ fault)

abbrev pub IsWitness : Program → Config → Fault → Witness → Type 0
IsWitness = IsWitnessIn whole_log

-- ---- findings

abbrev pub shown_by : Finding → Option Witness
shown_by (Shown witness) = Some witness
shown_by finding = None

-- the finding of a fault
abbrev pub finding_of : Findings → Fault → Finding
finding_of findings Cycle = findings.alarm
finding_of findings faults.Stuck = findings.stuck
finding_of findings Refusing = findings.refused

-- the alarm, else the deadlock, else the refusal
abbrev pub first_of : Findings → Option Witness
first_of findings =
    option_or (shown_by findings.alarm) (option_or (shown_by findings.stuck) (shown_by findings.refused))
