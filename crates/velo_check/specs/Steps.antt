-- Words of the contracts within the crate: how far each step of a check has come. What a check does is
-- said without them.
use Rattle.std.specs.Prelude.{ℕ, Bool, List, Result, Ok, Err}
use Rattle.velo_events.specs.Refusals.{GrowthRefused}
use Rattle.velo_events.specs.declared.event.Event.{Event}
use Rattle.velo_report.specs.declared.names.Names.{Names}
use Rattle.velo_world.specs.World.{WorldState}
use Rattle.velo_check.specs.declared.fault.CheckFault.{CheckFault}
use Rattle.velo_check.specs.declared.fault.CheckFault.TheVariants as check_fault
use Rattle.velo_check.specs.declared.verdict.Verdict.{Verdict}
use Rattle.velo_check.specs.Verdict.{IsOutput, IsVerdict}
use Rattle.velo_check.specs.Writing.{BreaksOff, Writes, WritesNothing, Writing}

-- such a text was written, and these events have this verdict; or a growth was refused
abbrev pub ShowsText : (List ℕ → Type 0) → List Event → Writing → Result Verdict CheckFault → Type 0
ShowsText IsText judged stdout (Ok verdict) =
    IsVerdict judged verdict × ((text : List ℕ) × IsText text × Writes stdout text)
ShowsText IsText judged stdout (Err check_fault.Write) =
    ((verdict : Verdict) × IsVerdict judged verdict)
    × ((text : List ℕ) × IsText text × BreaksOff stdout text)
ShowsText IsText judged stdout (Err check_fault.Memory) = GrowthRefused × WritesNothing stdout
ShowsText IsText judged stdout (Err fault) = ⊥

-- what a log of so many threads shows by these names, and its verdict
abbrev pub ShowsLog : Names → Bool → ℕ → List Event → Writing → Result Verdict CheckFault → Type 0
ShowsLog names certificate threads log =
    ShowsText (IsOutput names certificate threads log) log

-- what a world shows
abbrev pub Shows : Names → Bool → WorldState → Writing → Result Verdict CheckFault → Type 0
Shows names certificate w stdout result =
    ShowsLog names certificate w.config.bounds.threads w.log stdout result
