-- What the log of a world shows: its verdict, its report, and what certifies it.
use Rattle.std.specs.Prelude.{◌≡◌, ℕ, ◌↔◌, ◌⊎◌, ◌++◌, [], Bool, true, false, List, Result, Option}
use Rattle.velo_events.specs.declared.event.Event.{Event}
use Rattle.velo_events.specs.Reordering.{IsSerializable}
use Rattle.velo_events.specs.Certificate.{IsSerialOrder}
use Rattle.velo_certify.specs.Shortest.{IsShortestCycleAt}
use Rattle.velo_events.specs.Graph.{HasCycle, IsClosing}
use Rattle.velo_world.specs.World.{WorldState, AlarmOf}
use Rattle.velo_report.specs.declared.names.Names.{Names}
use Rattle.velo_report.specs.Certificate.{IsCertificate}
use Rattle.velo_report.specs.Report.{IsReport}
use Rattle.velo_check.specs.declared.verdict.Verdict.{Verdict}
use Rattle.velo_check.specs.Writing.{Writing, Delivers}
use Rattle.velo_check.specs.declared.verdict.Verdict.TheVariants.{Alarm, Clean}
use Rattle.velo_world.specs.declared.analysis.Alarm as analysis

-- ---- the order or the cycle that certifies a verdict

-- a log without a cycle, and its serial order
pub record HasOrder (log : List Event) (order : List ℕ) : Type 0 where
  pub no_cycle : ¬ HasCycle log
  pub serial : IsSerialOrder log order

-- a log with a cycle, and a shortest one at its first closing event
pub record HasShortestCycle (log : List Event) (cycle : List ℕ) : Type 0 where
  pub position : ℕ
  pub closing : IsClosing log position
  pub shortest : IsShortestCycleAt log position cycle

abbrev pub IsOrderOrCycle : List Event → List ℕ → Type 0
IsOrderOrCycle log list = HasOrder log list ⊎ HasShortestCycle log list

-- where a certificate is asked for, its lines; else nothing
abbrev pub IsCertified : Bool → List Event → List ℕ → Type 0
IsCertified true log text = (list : List ℕ) × IsOrderOrCycle log list × IsCertificate log list text
IsCertified false log text = text ≡ []

-- ---- the output and the verdict

-- the report of a log, and then its certificate if that is asked for
pub record IsOutput (names : Names) (certificate : Bool) (threads : ℕ) (log : List Event)
    (text : List ℕ) : Type 0 where
  pub report : List ℕ
  pub is_report : IsReport names threads log report
  pub lines : List ℕ
  pub certified : IsCertified certificate log lines
  pub whole : text ≡ report ++ lines

-- an alarm exactly where the graph of the trace has a cycle, which is where no serial reordering of
-- it exists
pub record IsVerdict (trace : List Event) (verdict : Verdict) : Type 0 where
  pub cycle : (verdict ≡ Alarm) ↔ HasCycle trace
  pub no_order : (verdict ≡ Alarm) ↔ (¬ IsSerializable trace)
  pub order : (verdict ≡ Clean) ↔ IsSerializable trace

-- ---- what writes it

-- the text is the output of a closed world
abbrev pub IsOutputOf : Names → Bool → WorldState → List ℕ → Type 0
IsOutputOf names certificate w text = IsOutput names certificate w.config.bounds.threads w.log text

-- the result of writing it
abbrev pub WritesOutput : {X F : Type 0} → Names → Bool → WorldState → Writing → Result X F → Type 0
WritesOutput names certificate w sink result =
    (text : List ℕ) × IsOutputOf names certificate w text × Delivers sink text result

-- ---- an alarm

-- whether a verdict is an alarm
abbrev pub is_alarm : Verdict → Bool
is_alarm Alarm = true
is_alarm Clean = false

-- which alarm the log has is known: one, or none
abbrev pub KnowsAlarm : List Event → Type 0
KnowsAlarm log = (alarm : Option analysis.Alarm) × AlarmOf log alarm
