-- Which reads of a trace have another value than in the log, and which one they had.
use Rattle.std.specs.Prelude.{◌≡◌, List, map}
use Rattle.velo_events.specs.declared.event.Event.{Event}
use Rattle.velo_events.specs.Event.{value_of}
use Rattle.velo_certify.specs.Owners.{event_at}
use Rattle.velo_predict.specs.declared.difference.Difference.{Difference}
use Rattle.velo_predict.specs.Differences.{AreDifferences}
use Rattle.velo_delays.specs.declared.judged.Differing.{Differing}

-- the read, with the value that the log has in its place
abbrev pub differing_of : List Event → Difference → Differing
differing_of log d = record { position = d.position; recorded = value_of (event_at log d.recorded).kind }

-- these and no others, in the order of the trace
pub record AreDiffering (log trace : List Event) (differing : List Differing) : Type 0 where
  pub differences : List Difference
  pub are_they : AreDifferences log trace differences
  pub is : differing ≡ map (differing_of log) differences
