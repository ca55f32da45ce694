-- What carrying a log over has to say, by the bytes of its input.
use Rattle.std.specs.Prelude.{◌≡◌, ◌⊎◌, ℕ, false, List, Option, Some, None, Result, Ok, Err}
use Rattle.velo_events.specs.declared.config.Bounds.{Bounds}
use Rattle.velo_events.specs.declared.event.Event.{Event}
use Rattle.velo_logtext.specs.declared.fault.LogFault.{LogFault}
use Rattle.velo_logtext.specs.Text.{log_text}
use Rattle.velo_worker.specs.declared.ending.Ending.TheVariants.{Done}
use Rattle.velo_check.specs.declared.carrying.CarryFault.{CarryFault}
use Rattle.velo_check.specs.declared.carrying.CarryFault.TheVariants.{Log, Write}
use Rattle.velo_check.specs.declared.fault.CheckFault.TheVariants as check_fault
use Rattle.velo_check.specs.declared.fate.Fate.{Fate}
use Rattle.velo_check.specs.declared.fate.Fate.TheVariants.{Check, Finished, WriteFailed}
use Rattle.velo_check.specs.Input.{IsFaultOfLogText, IsInput}
use Rattle.velo_check.specs.Delivery.{CommandAnswer, IsTaken, silent}
use Rattle.velo_check.specs.Writing.{Writing}

-- the text of version 2 is to be saved, and nothing is printed
abbrev pub carried : Bounds → List Event → CommandAnswer
carried bounds log =
    record { saved = Some (log_text bounds log); printed = None; fate = Finished Done false }

-- What is said of a log: its text of version 2; or nothing, because it could not be read.
abbrev pub IsCarryAnswer : Option (List ℕ) → CommandAnswer → Type 0
IsCarryAnswer read answer =
    ((bounds : Bounds) × (log : List Event) × IsInput read bounds log
    × (answer ≡ carried bounds log))
    ⊎ ((fault : LogFault) × IsFaultOfLogText read fault
    × (answer ≡ silent (Check (check_fault.Log fault))))

-- the sink took what is to be saved, or a beginning of it; where there is nothing, nothing was
-- written
abbrev pub IsPut : Writing → CommandAnswer → Fate → Type 0
IsPut sink answer f = IsTaken sink answer.saved answer.fate f

-- one source was carried over into one sink (`carry_run`): an answer to what was read was put there
abbrev pub Carries : Option (List ℕ) → Writing → Fate → Type 0
Carries read sink f = (answer : CommandAnswer) × IsCarryAnswer read answer × IsPut sink answer f

-- the fate of carrying over
abbrev pub fate_of_carrying : {X : Type 0} → Result X CarryFault → Fate
fate_of_carrying (Ok carried) = Finished Done false
fate_of_carrying (Err (Log fault)) = Check (check_fault.Log fault)
fate_of_carrying (Err Write) = WriteFailed
