-- What all events of a log leave and come to.
use Rattle.std.specs.Prelude.{◌≡◌, ℕ, ◌≤◌, List, length}
use Rattle.velo_events.specs.declared.event.Event.{Event}
use Rattle.velo_events.specs.Tally.{events_of}
use Rattle.velo_events.specs.WellFormed.{MayFollow}
use Rattle.velo_heap.specs.Contents.{bounds_of, IsHeapOf, Tabulates}
use Rattle.velo_watch.specs.declared.long.TheConstants.{MAX_WATCHED}
use Rattle.velo_watch.specs.declared.summary.Whole.{Whole}

-- it has the heap of the log, which can come about, and each thread's count of events
pub record IsWholeOf (log : List Event) (whole : Whole) : Type 0 where
  pub heap : IsHeapOf whole.heap log
  pub as_many : length whole.counts.items ≡ (bounds_of whole.heap).threads
  pub counts : Tabulates whole.counts.items (events_of log)

-- the event may follow a log that this is of
pub record IsNext (whole : Whole) (e : Event) : Type 0 where
  pub log : List Event
  pub is : IsWholeOf log whole
  pub follows : MayFollow (bounds_of whole.heap) log e
  pub few : length log ≤ MAX_WATCHED
