-- The transactions of a trace, position by position.
use Rattle.std.specs.Prelude.{◌≡◌, ℕ, ◌<◌, ◌≤◌, List, length, slice_index, slice_index_or}
use Rattle.velo_events.specs.declared.event.Event.{Event}
use Rattle.velo_events.specs.declared.event.Kind.TheVariants.{Read}
use Rattle.velo_events.specs.Block.{owner}
use Rattle.velo_events.specs.Scan.{IsScanned}
use Rattle.velo_traces.specs.declared.scanned.ThreadBlocks.{ThreadBlocks}

-- the numbers are the first positions of the transactions of the trace's positions
pub record AreOwners (owners : List ℕ) (trace : List Event) : Type 0 where
  pub count : length owners ≡ length trace
  pub each : (i : ℕ) → i < length trace → slice_index owners i ≡ owner trace i

-- the event at a position that is there
abbrev pub event_at : List Event → ℕ → Event
event_at trace i = slice_index_or trace i (record { thread = record { 0 = 0 }; kind = Read (record { 0 = 0 }) 0 })

-- nothing is known
abbrev pub no_blocks : ThreadBlocks
no_blocks = record { depth = 0; first = 0 }

-- each thread number has what is known of its blocks before position n
pub record AreScanned (trace : List Event) (n : ℕ) (threads : List ThreadBlocks) : Type 0 where
  pub count : length threads ≡ 256
  pub small : (t : ℕ) → t < 256 → (slice_index_or threads t no_blocks).depth ≤ n
  pub scanned : (t : ℕ) → t < 256 → IsScanned trace t n (slice_index_or threads t no_blocks).depth (slice_index_or threads t no_blocks).first
