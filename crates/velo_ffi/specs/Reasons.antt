-- Why nothing is explained, on the way. Private contracts cite these words.
use Rattle.std.specs.Prelude.{◌≡◌, ◌≢◌, ℕ, List, [], length, Option, Some, None, Err}
use Rattle.velo_events.specs.declared.event.Event.{Event}
use Rattle.velo_events.specs.Refusals.{GrowthRefused}
use Rattle.velo_names.specs.Names.{ReadsAs as ReadAsNames}
use Rattle.velo_sidecars.specs.declared.site_fault.SitesFault.{SitesFault}
use Rattle.velo_sidecars.specs.Sites.{ReadsAs as ReadAsSites, Table}
use Rattle.velo_ffi.specs.declared.explaining.Unexplained.{Unexplained}
use Rattle.velo_ffi.specs.declared.explaining.Unexplained.TheVariants.{Names, Sites, OtherSites, Memory}
use Rattle.velo_ffi.specs.Explaining.{AreNames, AreOfOther}

-- the bytes of a file of sites give none for this fault, which may be want of memory
abbrev pub LackSites : List ℕ → SitesFault → Type 0
LackSites file fault = (file ≢ []) × ReadAsSites file (Err fault)

-- the sites are of so many events, and the log has another number
abbrev pub AreOthers : Option Table → List Event → ℕ → Type 0
AreOthers None log events = ⊥
AreOthers (Some sites) log events = (length sites.events ≢ length log) × (events ≡ length sites.events)

-- by the table
abbrev pub IsReasonOfSites : Option Table → List Event → Unexplained → Type 0
IsReasonOfSites sites log (OtherSites events) = AreOthers sites log events
IsReasonOfSites sites log Memory = GrowthRefused
IsReasonOfSites sites log (Names fault) = ⊥
IsReasonOfSites sites log (Sites fault) = ⊥

-- by the bytes of the files
abbrev pub IsReason : List ℕ → List ℕ → List Event → Unexplained → Type 0
IsReason names_file sites_file log (Names fault) = ReadAsNames names_file (Err fault)
IsReason names_file sites_file log (Sites fault) = AreNames names_file × LackSites sites_file fault
IsReason names_file sites_file log (OtherSites events) = AreNames names_file × AreOfOther sites_file log events
IsReason names_file sites_file log Memory = GrowthRefused
