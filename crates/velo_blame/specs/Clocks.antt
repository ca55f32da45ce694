-- Clocks as callers see them: what they know, of a run within bounds.
use Rattle.velo_events.specs.declared.config.Bounds.{Bounds}
use Rattle.velo_tables.specs.Clocks.{ClockState}

pub record RunClocks : Type 0 where
  pub state : ClockState
  pub bounds : Bounds
