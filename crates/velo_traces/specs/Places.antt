-- For which threads and cells a table has places.
use Rattle.std.specs.Prelude.{◌≡◌, ℕ, ◌<◌, ◌≤◌, List, length, Some, ⊤, slice_get}
use Rattle.velo_events.specs.declared.event.Event.{Event}
use Rattle.velo_events.specs.declared.event.Access.{Access}
use Rattle.velo_events.specs.declared.event.Access.TheVariants.{Shared, Exclusive, Nothing}
use Rattle.velo_events.specs.Event.{thread_of, access_of}
use Rattle.velo_traces.specs.declared.counts.Counts.{Counts}
use Rattle.velo_traces.specs.Numbers.{Rows}

-- how many things each row has
pub record Sizes : Type 0 where
  pub threads : ℕ
  pub handles : ℕ
  pub writes : ℕ
  pub reads : ℕ

abbrev pub sizes : Rows → Sizes
sizes table = record {
  threads = length table.threads;
  handles = length table.handles;
  writes = length table.writes;
  reads = length table.reads;
}

-- the sizes for these numbers of threads and cells
abbrev pub sizes_of : ℕ → ℕ → Sizes
sizes_of threads cells = record { threads = threads; handles = threads; writes = cells; reads = cells }

-- what the operation names has its places
abbrev pub NamesPlaces : Sizes → Access → Type 0
NamesPlaces s (Shared c) = (c.0 < s.writes) × (c.0 < s.reads)
NamesPlaces s (Exclusive c) = (c.0 < s.writes) × (c.0 < s.reads)
NamesPlaces s (Access.Fork u) = (u.0 < s.threads) × (u.0 < s.handles)
NamesPlaces s (Access.Join u) = (u.0 < s.threads) × (u.0 < s.handles)
NamesPlaces s Nothing = ⊤

-- and so has the event's thread
pub record HasPlaces (s : Sizes) (e : Event) : Type 0 where
  pub thread : thread_of e < s.threads
  pub handle : thread_of e < s.handles
  pub names : NamesPlaces s (access_of e.kind)

-- the same of each of the first n events
pub record AllHavePlaces (s : Sizes) (trace : List Event) (n : ℕ) : Type 0 where
  pub each : (i : ℕ) (e : Event) → i < n → slice_get trace i ≡ Some e → HasPlaces s e

-- counts that grow
pub record AreAtLeast (new old : Counts) : Type 0 where
  pub threads : old.threads ≤ new.threads
  pub cells : old.cells ≤ new.cells
