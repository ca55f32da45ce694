-- How the text of a whole log gets into a caller's buffer, and the report.
use Rattle.std.specs.Prelude.{◌≡◌, ◌<◌, ◌≤◌, ◌⊎◌, ℕ, List, [], length, take, Ok, Err}
use Rattle.velo_events.specs.Refusals.{GrowthRefused}
use Rattle.velo_names.specs.declared.fault.NamesFault.{NamesFault}
use Rattle.velo_names.specs.Fault.{fault_line}
use Rattle.velo_names.specs.Names.{Stands}
use Rattle.velo_report.specs.declared.names.Names.{Names}
use Rattle.velo_report.specs.declared.names.Names.TheVariants.{Listed, Numbers, Words}
use Rattle.velo_report.specs.Report.{IsReport}
use Rattle.velo_world.specs.World.{WorldState}
use Rattle.velo_ffi.specs.declared.answers.TheConstants.{BAD_NAMES, DONE, NO_MEMORY, TOO_SHORT}

-- ---- what comes into a buffer whole or not at all

-- all of it is at the front of the buffer; what follows it is unspecified
pub record PutsAll {X : Type 0} (items buffer : List X) (count : ℕ) : Type 0 where
  pub within : count ≤ length buffer
  pub front : take count buffer ≡ items

-- it is longer than the buffer, and its length is returned
pub record LacksRoomForAll {X : Type 0} (items buffer : List X) (count : ℕ) : Type 0 where
  pub short : length buffer < count
  pub needed : count ≡ length items

abbrev pub TellsAll : {X : Type 0} → List X → ℕ → List X → ℕ → Type 0
TellsAll items status buffer count =
    ((status ≡ DONE) × PutsAll items buffer count) ⊎ ((status ≡ TOO_SHORT) × LacksRoomForAll items buffer count)

-- an allocation failed
abbrev pub WantsMemory : ℕ → Type 0
WantsMemory status = (status ≡ NO_MEMORY) × GrowthRefused

-- the text that a whole log has is returned, all of it or its length; or there is none, for a reason
-- that is returned; or an allocation failed
abbrev pub TellsText : (List ℕ → Type 0) → (ℕ → ℕ → Type 0) → ℕ → List ℕ → ℕ → Type 0
TellsText Is TellsReason status buffer count =
    ((text : List ℕ) × Is text × TellsAll text status buffer count) ⊎ (TellsReason status count ⊎ WantsMemory status)

-- ---- names

-- the bytes of a file of names have a fault, whose line is returned: 0 where it is one of the whole
pub record TellsFault (file : List ℕ) (status count : ℕ) : Type 0 where
  pub fault : NamesFault
  pub stands : Stands file (Err fault)
  pub bad : status ≡ BAD_NAMES
  pub line : count ≡ fault_line fault

-- ---- the report

-- what a report calls threads and labels by the bytes of a file of names, of which there may be
-- none
abbrev pub AreNamesBy : List ℕ → Names → Type 0
AreNamesBy file Numbers = file ≡ []
AreNamesBy file (Listed names) = Stands file (Ok names.now)
AreNamesBy file (Words threads labels) = ⊥

-- the text is the report of the events so far by these names
pub record IsReportBy (file : List ℕ) (w : WorldState) (text : List ℕ) : Type 0 where
  pub names : Names
  pub are_names : AreNamesBy file names
  pub is_report : IsReport names w.config.bounds.threads w.log text

abbrev pub TellsReport : List ℕ → WorldState → ℕ → List ℕ → ℕ → Type 0
TellsReport file w status buffer count = TellsText (IsReportBy file w) (TellsFault file) status buffer count
