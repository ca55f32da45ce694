-- The tallies of the threads of a trace, by its definitions.
use Rattle.std.specs.Prelude.{◌≡◌, ◌<◌, ℕ, zero, suc, ◌+◌, List, length, Some, slice_get}
use Rattle.velo_events.specs.declared.event.Event.{Event}
use Rattle.velo_events.specs.Tally.{events_of, next_of, last_of, read_total_of, written_total_of}
use Rattle.velo_ledger.specs.declared.tally.Tally.{Tally}

-- the tally of the thread's events in the trace
abbrev pub tally_of : List Event → ℕ → Tally
tally_of trace t = record {
  events = events_of trace t;
  next = next_of trace t;
  last = last_of trace t;
  read_total = read_total_of trace t;
  written_total = written_total_of trace t;
}

-- each row is the tally of its thread in the trace
pub record AreTalliesOf (trace : List Event) (rows : List Tally) : Type 0 where
  pub each : (t : ℕ) → t < length rows → slice_get rows t ≡ Some (tally_of trace t)

-- the events of all threads below this number
unfoldable pub events_below : List Event → ℕ → ℕ
events_below trace zero = 0
events_below trace (suc t) = events_below trace t + events_of trace t
