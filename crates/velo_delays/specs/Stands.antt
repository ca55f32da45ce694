-- What is known of a run that is tried. Private contracts cite this word.
use Rattle.std.specs.Prelude.{List}
use Rattle.velo_events.specs.declared.event.Event.{Event}
use Rattle.velo_heap.specs.Contents.{Contents, IsHeapOf}

-- the heap is that of some trace
pub record Stands (heap : Contents) : Type 0 where
  pub trace : List Event
  pub is_heap : IsHeapOf heap trace
