-- The world in which a run goes on after a cut, and why there is none.
use Rattle.std.specs.Prelude.{◌≡◌, ◌≢◌, ℕ, ◌<◌, List, length, false}
use Rattle.velo_events.specs.declared.config.Bounds.{Bounds}
use Rattle.velo_events.specs.declared.config.Config.{Config}
use Rattle.velo_events.specs.declared.event.Event.{Event}
use Rattle.velo_events.specs.declared.event.ThreadId.{ThreadId}
use Rattle.velo_events.specs.Graph.{HasCycle}
use Rattle.velo_events.specs.Heap.{depth_in}
use Rattle.velo_events.specs.Refusals.{GrowthRefused}
use Rattle.velo_laws.specs.Cut.{NoBlockOpen}
use Rattle.velo_laws.specs.Length.{events_to_leave}
use Rattle.velo_laws.specs.Restart.{IsPrologueOf, GoesOnAfresh}
use Rattle.velo_world.specs.World.{WorldState}
use Rattle.velo_laws.specs.declared.renewal.NotRenewed.{NotRenewed}
use Rattle.velo_laws.specs.declared.renewal.NotRenewed.TheVariants.{Alarm, BlockOpen, LogFull, Memory}

-- the thread has a block open, and those before it have none
pub record IsFirstOpen (log : List Event) (thread : ThreadId) : Type 0 where
  pub is_open : depth_in log thread.0 ≢ 0
  pub none_before : (t : ℕ) → t < thread.0 → depth_in log t ≡ 0

-- The log of the first world ended with no block open and no cycle, and that of the second is a
-- prologue that stands for it: whatever may follow the one may follow the other, and is judged the
-- same
pub record Renews (w w' : WorldState) : Type 0 where
  pub config : w'.config ≡ w.config
  pub live : w'.halted ≡ false
  pub ended : NoBlockOpen w.log
  pub no_cycle : ¬ HasCycle w.log
  pub prologue : IsPrologueOf w.config.bounds w.log w'.log
  pub goes_on : (after : List Event) → GoesOnAfresh w.config.bounds w.log w'.log after

-- The log ended with no block open, and a prologue stands for it, no longer than it takes
pub record Restarts (bounds : Bounds) (log made : List Event) : Type 0 where
  pub ended : NoBlockOpen log
  pub prologue : IsPrologueOf bounds log made
  pub length : length made ≡ events_to_leave bounds log

-- why none is opened behind the log
abbrev pub StandsInTheWay : Config → List Event → NotRenewed → Type 0
StandsInTheWay config log Alarm = ⊥
StandsInTheWay config log (BlockOpen thread) = IsFirstOpen log thread
StandsInTheWay config log LogFull = NoBlockOpen log × (config.events < events_to_leave config.bounds log)
StandsInTheWay config log Memory = GrowthRefused

-- why there is no such world
abbrev pub IsReasonAgainst : WorldState → NotRenewed → Type 0
IsReasonAgainst w Alarm = HasCycle w.log
IsReasonAgainst w Memory = GrowthRefused
IsReasonAgainst w reason = (¬ HasCycle w.log) × StandsInTheWay w.config w.log reason
