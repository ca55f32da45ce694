-- What is shown is so.
use Rattle.velo_events.specs.declared.config.Config.{Config}
use Rattle.velo_search.specs.Parts.{whole_log}
use Rattle.velo_search.specs.declared.fault.Fault.{Fault}
use Rattle.velo_workload.specs.Program.{Program}
use Rattle.velo_explore.specs.declared.finding.Finding.{Finding}
use Rattle.velo_explore.specs.declared.finding.Finding.TheVariants.{Shown, Never, Open}
use Rattle.velo_explore.specs.Goals.{IsWitness, Shows}
use Rattle.velo_explore.specs.Told.{IsTold, IfShown}

module _ (program : Program) (config : Config) (fault : Fault) where
  pub told-shows : (finding : Finding) → IsTold whole_log program config fault finding → IfShown finding (Shows program config)
  told-shows (Shown witness) is = is.0
  told-shows Never is = tt
  told-shows Open is = tt

  pub witness-shows : (finding : Finding) → IfShown finding (IsWitness program config fault) → IfShown finding (Shows program config)
  witness-shows (Shown witness) is = is.0
  witness-shows Never is = tt
  witness-shows Open is = tt
