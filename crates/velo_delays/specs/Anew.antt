-- The events of a log with values that tell where they come from.
use Rattle.std.specs.Prelude.{◌≡◌, ℕ, ◌+◌, List, take, length, slice_get, Some}
use Rattle.velo_events.specs.declared.event.Event.{Event}
use Rattle.velo_events.specs.declared.event.Kind.{Kind}
use Rattle.velo_events.specs.declared.event.Kind.TheVariants.{Read, Write}
use Rattle.velo_events.specs.Heap.{value_in}
use Rattle.velo_heap.specs.Contents.{Contents, IsHeapOf}
use Rattle.velo_search.specs.Plain.{plain_log}

-- the operation after these events: a write writes the number of its line, a read has the latest value
abbrev pub renewed_kind : List Event → Kind → Kind
renewed_kind before (Read x v) = Read x (value_in before x.0)
renewed_kind before (Write x v) = Write x (length before + 2)
renewed_kind before kind = kind

abbrev pub renewed : List Event → Event → Event
renewed before e = record { thread = e.thread; kind = renewed_kind before e.kind }

-- the same events in the same order, each with such a value: two reads have the same one where they read from the same write
pub record IsRenewed (log anew : List Event) : Type 0 where
  pub as_long : length anew ≡ length log
  pub each : (i : ℕ) (e : Event) → slice_get log i ≡ Some e → slice_get anew i ≡ Some (renewed (take i anew) e)

-- the events so far are renewed, and the heap is theirs. Private contracts cite this word
pub record IsRenewedSoFar (log : List Event) (heap : Contents) (anew : List Event) : Type 0 where
  pub is_renewed : IsRenewed log anew
  pub is_heap : IsHeapOf heap anew
  pub same : plain_log anew ≡ plain_log log
