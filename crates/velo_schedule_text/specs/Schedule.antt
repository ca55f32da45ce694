-- The texts of a schedule: thread numbers alone, or turns.
use Rattle.std.specs.Prelude.{◌≡◌, ◌≤◌, ◌<◌, ◌++◌, ◌∷◌, ◌==◌, [], ℕ, List, All, length, decimal, replicate, if◌then◌else◌}
use Rattle.velo_events.specs.declared.event.ThreadId.{ThreadId}
use Rattle.velo_events.specs.declared.limits.TheConstants.{MAX_THREADS}
use Rattle.velo_events.specs.Refusals.{GrowthRefused}
use Rattle.velo_schedule_text.specs.declared.limits.TheConstants.{MAX_TURNS}
use Rattle.velo_schedule_text.specs.declared.turns.Turns.{Turns}
use Rattle.velo_schedule_text.specs.declared.schedule.ScheduleFault.{ScheduleFault}
use Rattle.velo_schedule_text.specs.declared.schedule.ScheduleFault.TheVariants.{Bad, Memory}

-- ---- thread numbers alone: `0 0 0 1 0`

-- the numbers of these threads, each after a space
abbrev pub numbers : List ThreadId → List ℕ
numbers [] = []
numbers (t ∷ rest) = 32 ∷ (decimal t.0 ++ numbers rest)

-- their numbers, parted by one space
abbrev pub numbers_text : List ThreadId → List ℕ
numbers_text [] = []
numbers_text (t ∷ rest) = decimal t.0 ++ numbers rest

-- the text is the numbers of this schedule's threads
pub record IsSchedule (text : List ℕ) (schedule : List ThreadId) : Type 0 where
  pub whole : text ≡ numbers_text schedule
  pub threads : All (λ t. t.0 < MAX_THREADS) schedule
  pub few : length schedule ≤ MAX_TURNS

-- why a text is that of none
abbrev pub IsFaultOfSchedule : List ℕ → ScheduleFault → Type 0
IsFaultOfSchedule text Bad = (schedule : List ThreadId) → ¬ IsSchedule text schedule
IsFaultOfSchedule text Memory = GrowthRefused

-- ---- turns: `0*3 1 0`

-- `3` is one turn of thread 3, and `3*2` are two
abbrev pub turns_text : Turns → List ℕ
turns_text turns = decimal turns.thread.0 ++ (if turns.count == 1 then [] else 42 ∷ decimal turns.count)

-- of a thread that there may be, and not too many
pub record AreTurns (turns : Turns) : Type 0 where
  pub thread : turns.thread.0 < MAX_THREADS
  pub some : 1 ≤ turns.count
  pub few : turns.count ≤ MAX_TURNS

-- words, each after a space
abbrev pub spaced : List Turns → List ℕ
spaced [] = []
spaced (turns ∷ rest) = 32 ∷ (turns_text turns ++ spaced rest)

-- words, parted by one space
abbrev pub words_text : List Turns → List ℕ
words_text [] = []
words_text (turns ∷ rest) = turns_text turns ++ spaced rest

-- the turns of words, one after another
abbrev pub in_order : List Turns → List ThreadId
in_order [] = []
in_order (turns ∷ rest) = replicate turns.count turns.thread ++ in_order rest

-- the text says the turns of this schedule, in words
pub record SaysTurns (text : List ℕ) (schedule : List ThreadId) : Type 0 where
  pub words : List Turns
  pub each : All AreTurns words
  pub whole : text ≡ words_text words
  pub turns : schedule ≡ in_order words
  pub few : length schedule ≤ MAX_TURNS

-- why a text says those of none
abbrev pub IsFaultOfTurns : List ℕ → ScheduleFault → Type 0
IsFaultOfTurns text Bad = (schedule : List ThreadId) → ¬ SaysTurns text schedule
IsFaultOfTurns text Memory = GrowthRefused
