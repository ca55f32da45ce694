-- How many events each thread has.
use Rattle.std.specs.Prelude.{◌≡◌, ℕ, ◌<◌, List, length, Some, slice_get}
use Rattle.velo_events.specs.declared.event.Event.{Event}
use Rattle.velo_events.specs.Tally.{events_of}

pub record AreEventCountsOf (log : List Event) (counts : List ℕ) : Type 0 where
  pub each : (t : ℕ) → t < length counts → slice_get counts t ≡ Some (events_of log t)
