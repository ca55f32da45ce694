-- An event that is between the begin of a block and a later event of the block's thread in every
-- reordering.
use Rattle.std.specs.Prelude.{◌≢◌, ℕ, ◌<◌, List, length, slice_get, slice_index, IsTrue}
use Rattle.std.specs.Option.{option_map_or}
use Rattle.velo_events.specs.declared.event.Event.{Event}
use Rattle.velo_events.specs.Event.{thread_of}
use Rattle.velo_events.specs.Graph.{conflict_at, ConflictsInOrder, HappensBefore, Reaches}

-- the thread of the event at a position
abbrev pub thread_at : List Event → ℕ → ℕ
thread_at trace i = option_map_or thread_of (slice_get trace i) 0

-- w is of another thread than p, happens after b, and conflicts with the later p
pub record IsWitness (trace : List Event) (b p w : ℕ) : Type 0 where
  pub after_begin : HappensBefore trace b w
  pub before_end : ConflictsInOrder trace w p
  pub other_thread : thread_at trace w ≢ thread_at trace p

-- those of the first positions that b reaches by conflicts in order have a number that is not 0,
-- and nothing else has one
pub record AreMarks (trace : List Event) (b : ℕ) (marks : List ℕ) : Type 0 where
  pub sound : (i : ℕ) → 0 < slice_index marks i → Reaches (ConflictsInOrder trace) b i
  pub begun : b < length marks → 0 < slice_index marks b
  pub complete : (i j : ℕ) → i < j → j < length marks → IsTrue (conflict_at trace i j) → 0 < slice_index marks i → 0 < slice_index marks j
