-- Why a prologue is no world's log. Private contracts cite these words.
use Rattle.std.specs.Prelude.{◌<◌, List, length}
use Rattle.velo_events.specs.declared.config.Config.{Config}
use Rattle.velo_events.specs.declared.event.Event.{Event}
use Rattle.velo_events.specs.Refusals.{GrowthRefused}
use Rattle.velo_laws.specs.declared.renewal.NotRenewed.{NotRenewed}
use Rattle.velo_laws.specs.declared.renewal.NotRenewed.TheVariants.{LogFull, Memory}

-- it is too long, or an allocation failed
abbrev pub IsReasonToRefuse : Config → List Event → NotRenewed → Type 0
IsReasonToRefuse config made LogFull = config.events < length made
IsReasonToRefuse config made Memory = GrowthRefused
IsReasonToRefuse config made _ = ⊥
