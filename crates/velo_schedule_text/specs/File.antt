-- A schedule in a file.
use Rattle.std.specs.Prelude.{◌≡◌, ◌≢◌, ◌⊎◌, ◌++◌, ℕ, List, codes}
use Rattle.velo_events.specs.declared.event.ThreadId.{ThreadId}
use Rattle.velo_events.specs.Refusals.{GrowthRefused}
use Rattle.velo_schedule_text.specs.declared.schedule.ScheduleFault.{ScheduleFault}
use Rattle.velo_schedule_text.specs.declared.schedule.ScheduleFault.TheVariants.{Bad, Memory}
use Rattle.velo_schedule_text.specs.Schedule.{SaysTurns}

-- the bytes are this text; one newline at their end does not count
abbrev pub AreOfText : List ℕ → List ℕ → Type 0
AreOfText bytes text =
    (bytes ≡ text ++ codes "\n")
    ⊎ ((bytes ≡ text) × ((front : List ℕ) → bytes ≢ front ++ codes "\n"))

-- the bytes are a text that says the turns of this schedule
pub record IsScheduleIn (bytes : List ℕ) (schedule : List ThreadId) : Type 0 where
  pub text : List ℕ
  pub are : AreOfText bytes text
  pub says : SaysTurns text schedule

-- why the bytes are none of any
abbrev pub IsFaultOfBytes : List ℕ → ScheduleFault → Type 0
IsFaultOfBytes bytes Bad = (schedule : List ThreadId) → ¬ IsScheduleIn bytes schedule
IsFaultOfBytes bytes Memory = GrowthRefused
