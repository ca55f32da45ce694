-- What goes out of a log that was thinned.
use Rattle.std.specs.Prelude.{◌≡◌, ◌⊎◌, ⊤, ℕ, [], ◌∷◌, ◌++◌, List, codes, decimal, length, Option, Some, None, Result, Ok, Err}
use Rattle.std.specs.List.{flat_map}
use Rattle.std.specs.Borrow.{Bor}
use Rattle.velo_events.specs.Refusals.{GrowthRefused}
use Rattle.velo_logtext.specs.Text.{log_text}
use Rattle.velo_check.specs.declared.answer.Save.{Save}
use Rattle.velo_check.specs.declared.failure.Failure.{Failure}
use Rattle.velo_check.specs.declared.failure.Failure.TheVariants as failure_of
use Rattle.velo_check.specs.declared.failure.Operand.TheVariants as operand
use Rattle.velo_check.specs.Answers.{AreAllSaved, IsOneUnsaved}
use Rattle.velo_check.specs.Disk.{Store}
use Rattle.velo_check.specs.Writing.{Writing, Writes, BreaksOff, WritesNothing}
use Rattle.velo_thinning.specs.declared.delivering.CountsText.{CountsText}
use Rattle.velo_thinning.specs.declared.delivering.Targets.{Targets}
use Rattle.velo_thinning.specs.declared.delivering.Outgoing.{Outgoing}
use Rattle.velo_thinning.specs.declared.delivering.Outgoing.TheVariants.{Log, Map}
use Rattle.velo_thinning.specs.declared.outcome.ThinnedLog.{ThinnedLog}

-- ---- the texts

-- a line of what is counted, before and after
abbrev pub count_line : List ℕ → ℕ → ℕ → List ℕ
count_line word before after = word ++ (decimal before ++ (codes " to " ++ (decimal after ++ 10 ∷ [])))

abbrev pub counts_text : ThinnedLog → List ℕ
counts_text thinned =
    count_line (codes "events ") thinned.events (length thinned.left.trace.events)
    ++ count_line (codes "variables ") thinned.variables thinned.variables_left

-- for each event that is left a line with its position in the log
abbrev pub map_text : List ℕ → List ℕ
map_text places = flat_map (λ place. decimal place ++ 10 ∷ []) places

abbrev pub IsMapFor : Option (Bor (List ℕ)) → List ℕ → List ℕ → Type 0
IsMapFor None places text = ⊤
IsMapFor (Some path) places text = text ≡ map_text places

-- what a text that is saved is, and the text of the counts
abbrev pub IsOutgoingText : Outgoing → List ℕ → Type 0
IsOutgoingText (Log thinned) text = text ≡ log_text thinned.now.config.bounds thinned.now.left.trace.events
IsOutgoingText (Map bytes) text = text ≡ bytes.now

abbrev pub IsCountsText : CountsText → List ℕ → Type 0
IsCountsText counts text = text ≡ counts.bytes.now

-- ---- what goes out

-- The texts were saved, one after another, and then the counts were printed; or a text was not saved, and nothing was printed;
-- or printing broke off
abbrev pub IsSent : List (Save Outgoing) → List ℕ → Store → Writing → Result ⊤ Failure → Type 0
IsSent saves counts store stdout (Ok end) = AreAllSaved IsOutgoingText store saves × Writes stdout counts
IsSent saves counts store stdout (Err failure) =
    (IsOneUnsaved IsOutgoingText store saves failure × WritesNothing stdout)
    ⊎ (AreAllSaved IsOutgoingText store saves × (failure ≡ failure_of.PrintFailed) × BreaksOff stdout counts)

-- a growth was refused
abbrev pub IsMemoryFailure : Result ⊤ Failure → Type 0
IsMemoryFailure (Err (failure_of.Memory memory)) = GrowthRefused
IsMemoryFailure result = ⊥

-- what is left of the log at its path, and then the map at its own
abbrev pub saves_of : Bor ThinnedLog → Targets → Bor (List ℕ) → List (Save Outgoing)
saves_of thinned targets map =
    record { operand = operand.Out; path = Some targets.log; text = Log thinned }
    ∷ record { operand = operand.Map; path = targets.map; text = Map map } ∷ []

-- A growth was refused, and nothing was done; or these texts went out
abbrev pub GoesOut : Bor ThinnedLog → Targets → Store → Writing → Result ⊤ Failure → Type 0
GoesOut thinned targets store stdout result =
    (IsMemoryFailure result × store.is_kept × WritesNothing stdout)
    ⊎ ((map : Bor (List ℕ)) × IsMapFor targets.map thinned.now.left.places.items map.now
    × IsSent (saves_of thinned targets map) (counts_text thinned.now) store stdout result)
