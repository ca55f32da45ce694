-- What a recorded event leaves, row by row. Private contracts cite these words: public ones say it
-- by what is looked up.
use Rattle.std.specs.Prelude.{ℕ, max, List, Option, Some, None, slice_index, slice_set}
use Rattle.velo_events.specs.declared.event.Event.{Event}
use Rattle.velo_events.specs.About.{thread_in, forked_or_joined_in, written_in, read_in}
use Rattle.velo_traces.specs.Numbers.{Rows}

-- the row after an event with this number: it is raised at the thing that the event is about, if
-- there is one
abbrev pub raised : List ℕ → Option ℕ → ℕ → List ℕ
raised row (Some x) number = slice_set row x (max (slice_index row x) number)
raised row None number = row

abbrev pub recorded_in : Rows → Event → ℕ → Rows
recorded_in table e number = record {
  threads = raised table.threads (thread_in e) number;
  handles = raised table.handles (forked_or_joined_in e) number;
  writes = raised table.writes (written_in e) number;
  reads = raised table.reads (read_in e) number;
}
