-- Where the events of a trace stand in a log that was read.
use Rattle.std.specs.Prelude.{◌≡◌, ℕ, List, Option, map, option_map}
use Rattle.velo_events.specs.declared.event.Event.{Event}
use Rattle.velo_predict.specs.Sources.{AreSources}

-- each event that is one of the log, by the place of that one in the log as read
pub record AreSourcesAsRead (log : List Event) (place : ℕ → ℕ) (trace : List Event) (sources : List (Option ℕ)) : Type 0 where
  pub in_log : List (Option ℕ)
  pub are_they : AreSources log trace in_log
  pub is : sources ≡ map (option_map place) in_log
