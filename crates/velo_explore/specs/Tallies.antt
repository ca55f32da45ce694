-- What runs come to.
use Rattle.std.specs.Prelude.{◌≡◌, ◌≤◌, ◌+◌, ◌-◌, ◌*◌, ◌^◌, ⊤, ℕ, Bool, IsFalse, ◌==◌, List, All, length, map, count_by, Option, Some, None}
use Rattle.std.specs.List.{list_any}
use Rattle.velo_events.specs.declared.config.Config.{Config}
use Rattle.velo_events.specs.declared.event.ThreadId.{ThreadId}
use Rattle.velo_search.specs.declared.fault.Fault.{Fault}
use Rattle.velo_workload.specs.Program.{Program}
use Rattle.velo_explore.specs.declared.finding.Finding.{Finding}
use Rattle.velo_explore.specs.declared.finding.Finding.TheVariants.{Shown, Never}
use Rattle.velo_explore.specs.declared.goal.Goal.{Goal}
use Rattle.velo_explore.specs.Goals.{finding_of}
use Rattle.velo_explore.specs.declared.tally.BlamedLabel.{BlamedLabel}
use Rattle.velo_explore.specs.declared.tally.RunTally.{RunTally}
use Rattle.velo_explore.specs.Drawing.{schedules_of_seed}
use Rattle.velo_explore.specs.Runs.{Run, IsRun, first_shown, has_alarm, blames}

-- the finding is what is seen first, or that nothing is
abbrev pub IsFirst : Option (Goal × List ThreadId) → Finding → Type 0
IsFirst (Some shown) (Shown witness) = shown ≡ (witness.goal, witness.schedule.items)
IsFirst None Never = ⊤
IsFirst seen finding = ⊥

abbrev pub is_listed : ℕ → List BlamedLabel → Bool
is_listed label blamed = list_any (λ b. b.label.0 == label) blamed

-- a label's place among the others: those of most alarms come first, and of as many that of the
-- lesser number
abbrev pub rank : BlamedLabel → ℕ
rank b = (2 ^ 64 - 1 - b.alarms) * 2 ^ 32 + b.label.0

-- each label that is listed is listed once and has so many alarms, one at least; the others have
-- none
pub record AreCounts (count : ℕ → ℕ) (blamed : List BlamedLabel) : Type 0 where
  pub each : All (λ b. b.alarms ≡ count b.label.0) blamed
  pub some : All (λ b. 1 ≤ b.alarms) blamed
  pub once : (label : ℕ) → count_by (λ b. b.label.0 == label) blamed ≤ 1
  pub others : (label : ℕ) → IsFalse (is_listed label blamed) → count label ≡ 0

-- what the runs come to: the first that show something, and how many have an alarm, and blame a
-- label
pub record ComesTo (runs : List Run) (tally : RunTally) : Type 0 where
  pub count : tally.runs ≡ length runs
  pub findings : (fault : Fault) → IsFirst (first_shown fault runs) (finding_of tally.findings fault)
  pub alarms : tally.alarms ≡ count_by has_alarm runs
  pub blamed : AreCounts (λ label. count_by (blames label) runs) tally.blamed.items

-- the program was replayed by each of these schedules, and these runs come to this
pub record IsTriedBy (program : Program) (config : Config) (schedules : List (List ThreadId)) (tally : RunTally) : Type 0 where
  pub runs : List Run
  pub replayed : All (IsRun program config) runs
  pub by : map (λ run. run.schedule) runs ≡ schedules
  pub comes_to : ComesTo runs tally

-- it was replayed by so many schedules, which the seed draws
abbrev pub IsTried : Program → Config → ℕ → ℕ → RunTally → Type 0
IsTried program config seed n tally = IsTriedBy program config (schedules_of_seed program seed n) tally
