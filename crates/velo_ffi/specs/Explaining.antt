-- The explanation of a whole log: by which names and sites, and why there is none.
use Rattle.std.specs.Prelude.{◌≡◌, ◌≢◌, ◌⊎◌, ⊤, ℕ, List, [], length, Option, Some, None, Ok, Err}
use Rattle.velo_events.specs.declared.event.Event.{Event}
use Rattle.velo_names.specs.Names.{NameLists, Stands}
use Rattle.velo_sidecars.specs.declared.site_fault.SitesFault.{SitesFault}
use Rattle.velo_sidecars.specs.SiteFault.{fault_line}
use Rattle.velo_sidecars.specs.Sites.{Gives, Table}
use Rattle.velo_ffi.specs.declared.answers.TheConstants.{BAD_SITES, OTHER_SITES}
use Rattle.velo_ffi.specs.Texts.{TellsFault, TellsText}

-- ---- by the bytes of files

-- no bytes are no sites
abbrev pub AreSitesBy : List ℕ → Option Table → Type 0
AreSitesBy file None = file ≡ []
AreSitesBy file (Some sites) = (file ≢ []) × Gives file (Ok sites)

-- they are of as many events as the log has
abbrev pub HaveLengthOf : Option Table → List Event → Type 0
HaveLengthOf None log = ⊤
HaveLengthOf (Some sites) log = length sites.events ≡ length log

-- the log is explained by the bytes of a file of names and of one of its sites; no bytes are no names
pub record IsExplainedBy (names_file sites_file : List ℕ) (log : List Event) : Type 0 where
  pub names : NameLists
  pub are_names : Stands names_file (Ok names)
  pub sites : Option Table
  pub are_sites : AreSitesBy sites_file sites
  pub of_log : HaveLengthOf sites log

-- ---- why there is none

-- the bytes of a file of sites have a fault, whose line is returned: 0 where it is one of the whole
pub record TellsFaultOfSites (file : List ℕ) (status count : ℕ) : Type 0 where
  pub some : file ≢ []
  pub fault : SitesFault
  pub gives : Gives file (Err fault)
  pub bad : status ≡ BAD_SITES
  pub line : count ≡ fault_line fault

-- they are sites of so many events, and the log has another number of them
pub record AreOfOther (file : List ℕ) (log : List Event) (events : ℕ) : Type 0 where
  pub sites : Table
  pub are_sites : AreSitesBy file (Some sites)
  pub other : length sites.events ≢ length log
  pub count : events ≡ length sites.events

-- the bytes of a file of names have no fault
abbrev pub AreNames : List ℕ → Type 0
AreNames file = (names : NameLists) × Stands file (Ok names)

-- The names have a fault, whose line is returned. Or they have none, and the sites have one, whose line is
-- returned; or the sites are of another number of events, which is returned.
abbrev pub TellsReason : List ℕ → List ℕ → List Event → ℕ → ℕ → Type 0
TellsReason names_file sites_file log status count =
    TellsFault names_file status count
    ⊎ (AreNames names_file
    × (TellsFaultOfSites sites_file status count
    ⊎ ((status ≡ OTHER_SITES) × AreOfOther sites_file log count)))

abbrev pub TellsExplanation : List ℕ → List ℕ → List Event → ℕ → List ℕ → ℕ → Type 0
TellsExplanation names_file sites_file log status buffer count =
    TellsText (λ text. IsExplainedBy names_file sites_file log) (TellsReason names_file sites_file log) status
    buffer count
