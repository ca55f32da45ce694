-- What a check has to say, by the bytes of its input and by the definitions.
use Rattle.std.specs.Prelude.{◌≡◌, ℕ, ◌⊎◌, Bool, List, Option, Err, Result, Ok}
use Rattle.velo_events.specs.declared.config.Bounds.{Bounds}
use Rattle.velo_events.specs.declared.event.Event.{Event}
use Rattle.velo_report.specs.declared.names.Names.{Names}
use Rattle.velo_worker.specs.declared.ending.Ending.TheVariants.{Done}
use Rattle.velo_check.specs.declared.verdict.Verdict.{Verdict}
use Rattle.velo_check.specs.declared.fault.CheckFault.{CheckFault}
use Rattle.velo_check.specs.declared.fault.CheckFault.TheVariants.{Write}
use Rattle.velo_check.specs.declared.fate.Fate.{Fate}
use Rattle.velo_check.specs.declared.fate.Fate.TheVariants.{Check, Finished, WriteFailed}
use Rattle.velo_check.specs.Delivery.{CommandAnswer, IsPrinted, printing}
use Rattle.velo_check.specs.Verdict.{is_alarm, IsOutput, IsVerdict}
use Rattle.velo_check.specs.Writing.{Writing}
use Rattle.velo_worker.specs.declared.ending.Ending.TheVariants as ending
use Rattle.velo_check.specs.Input.{ComesAbout, IsUnchecked}

-- the report of the log of the input by these names is printed, with its certificate if that is
-- asked for; the fate has the verdict
pub record IsChecked (names : Names) (limit : ℕ) (certificate : Bool) (read : Option (List ℕ))
    (answer : CommandAnswer) : Type 0 where
  pub bounds : Bounds
  pub log : List Event
  pub comes_about : ComesAbout limit read bounds log
  pub text : List ℕ
  pub output : IsOutput names certificate bounds.threads log text
  pub verdict : Verdict
  pub is_verdict : IsVerdict log verdict
  pub said : answer ≡ printing text (Finished Done (is_alarm verdict))

-- What a check has to say: the report and the verdict; or nothing, for a reason.
abbrev pub IsCheckAnswer : Names → ℕ → ℕ → Bool → Option (List ℕ) → CommandAnswer → Type 0
IsCheckAnswer names limit nodes certificate read answer =
    IsChecked names limit certificate read answer ⊎ IsUnchecked limit nodes read answer

-- The fate of a check of one source on one sink (`check_run`): an answer to what was read was
-- printed.
abbrev pub Checks : Names → ℕ → ℕ → Bool → Option (List ℕ) → Writing → Fate → Type 0
Checks names limit nodes certificate read sink f =
    (answer : CommandAnswer) × IsCheckAnswer names limit nodes certificate read answer
    × IsPrinted sink answer f

-- ---- how they are used

-- the fate of a check
abbrev pub fate_of : Result Verdict CheckFault → Fate
fate_of (Ok answer) = Finished ending.Done (is_alarm answer)
fate_of (Err Write) = WriteFailed
fate_of (Err fault) = Check fault
