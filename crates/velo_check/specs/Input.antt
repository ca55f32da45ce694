-- The log of a command's input, by the bytes that were read; or why there is none.
use Rattle.std.specs.Prelude.{◌≡◌, ℕ, ◌≤◌, List, length, Option, IfSome, Err}
use Rattle.velo_events.specs.declared.config.Bounds.{Bounds}
use Rattle.velo_events.specs.declared.event.Event.{Event}
use Rattle.velo_events.specs.declared.limits.TheConstants.{MAX_EVENTS}
use Rattle.velo_events.specs.declared.refusal.Refusal.{Refusal}
use Rattle.velo_events.specs.Refusals.{GrowthRefused}
use Rattle.velo_events.specs.WellFormed.{IsWellFormed}
use Rattle.velo_logtext.specs.declared.fault.LogFault.{LogFault}
use Rattle.velo_logtext.specs.declared.fault.LogFault.TheVariants as log_fault
use Rattle.velo_logtext.specs.Text.{IsLogText}
use Rattle.velo_logtext.specs.Finding.{ReadsAs}
use Rattle.velo_world.specs.Faults.{IsRefusedAt, IsWrongValueAt}
use Rattle.velo_check.specs.declared.fault.CheckFault.{CheckFault}
use Rattle.velo_check.specs.declared.fault.CheckFault.TheVariants.{Log, Refused, WrongValue, Write, Memory}
use Rattle.velo_check.specs.declared.fate.Fate.TheVariants.{Check}
use Rattle.velo_check.specs.Delivery.{CommandAnswer, silent}

-- ---- the log of an input

-- the bytes are the text of these bounds and events; if they are not known, nothing is claimed
abbrev pub IsInput : Option (List ℕ) → Bounds → List Event → Type 0
IsInput read bounds trace = IfSome read (λ bytes. IsLogText bytes bounds trace)

-- the log of the input came about as it says, within the limit of events
pub record ComesAbout (limit : ℕ) (read : Option (List ℕ)) (bounds : Bounds) (trace : List Event)
    : Type 0 where
  pub input : IsInput read bounds trace
  pub well_formed : IsWellFormed bounds trace
  pub room : length trace ≤ limit

-- ---- why it did not

-- the log stops at an event that is refused, or that reads a wrong value
pub record IsRefused (limit nodes : ℕ) (read : Option (List ℕ)) (p : ℕ) (refusal : Refusal)
    : Type 0 where
  pub bounds : Bounds
  pub trace : List Event
  pub input : IsInput read bounds trace
  pub reason : IsRefusedAt limit nodes bounds trace p refusal

pub record IsWrongValue (limit : ℕ) (read : Option (List ℕ)) (p : ℕ) : Type 0 where
  pub bounds : Bounds
  pub trace : List Event
  pub input : IsInput read bounds trace
  pub reason : IsWrongValueAt limit bounds trace p

-- Why a text gives no log, where so many events are the most that it may have: its first wrong
-- line, or an event too many, or the source failed (all in `ReadsAs`; that it did fail is in
-- `FailuresAsTold`); or an allocation failed. If the bytes are not known, only the last is claimed.
abbrev pub IsFaultOfTextUpTo : ℕ → Option (List ℕ) → LogFault → Type 0
IsFaultOfTextUpTo longest read fault =
    IfSome read (λ bytes. ReadsAs longest bytes (Err fault))
    × (fault ≡ log_fault.Memory → GrowthRefused)

-- the same where it may have as many events as a log ever may
abbrev pub IsFaultOfLogText : Option (List ℕ) → LogFault → Type 0
IsFaultOfLogText read fault = IsFaultOfTextUpTo MAX_EVENTS read fault

abbrev pub IsFaultOfInput : ℕ → ℕ → Option (List ℕ) → CheckFault → Type 0
IsFaultOfInput limit nodes read (Log fault) = IsFaultOfLogText read fault
IsFaultOfInput limit nodes read (Refused p refusal) = IsRefused limit nodes read p refusal
IsFaultOfInput limit nodes read (WrongValue p) = IsWrongValue limit read p
IsFaultOfInput limit nodes read Memory = GrowthRefused
IsFaultOfInput limit nodes read Write = ⊥

-- nothing is printed of an input that has this fault
abbrev pub IsUnchecked : ℕ → ℕ → Option (List ℕ) → CommandAnswer → Type 0
IsUnchecked limit nodes read answer =
    (fault : CheckFault) × IsFaultOfInput limit nodes read fault × (answer ≡ silent (Check fault))
