-- Where a transaction ends in a serial reordering. Private contracts cite these words.
use Rattle.std.specs.Prelude.{◌≡◌, ◌≢◌, ℕ, ◌+◌, ◌<◌, ◌≤◌, ◌∷◌, [], ◌++◌, List, take, length, filter, slice_index}
use Rattle.velo_events.specs.declared.event.Event.{Event}
use Rattle.velo_events.specs.Block.{owner}
use Rattle.velo_events.specs.Certificate.{positions_of}
use Rattle.velo_events.specs.Scan.{IsScanned}
use Rattle.velo_certify.specs.Owners.{event_at}
use Rattle.velo_report.specs.Certificate.{is_first}

-- a transaction begins at this place of the list
pub record IsStart (log : List Event) (order : List ℕ) (from : ℕ) : Type 0 where
  pub within : from < length order
  pub first : owner log (slice_index order from) ≡ slice_index order from

-- from one place of the list to before another stand the positions of one transaction, and all of them
pub record IsOneTransaction (log : List Event) (order : List ℕ) (from end : ℕ) : Type 0 where
  pub after : from < end
  pub within : end ≤ length order
  pub own : (k : ℕ) → from ≤ k → k < end → owner log (slice_index order k) ≡ slice_index order from
  pub ends : end < length order → owner log (slice_index order end) ≢ slice_index order from
  pub items : take end order ≡ take from order ++ positions_of log (slice_index order from)
  pub firsts : filter (is_first log) (take end order) ≡ filter (is_first log) (take from order) ++ slice_index order from ∷ []

-- Where so many blocks of the event's thread are open before it, and the outermost began at some position or may begin here,
-- so many are open behind it
pub record IsDepthAfter (log : List Event) (at_hand depth after : ℕ) : Type 0 where
  pub each : (start : ℕ) → (depth ≡ 0 → start ≡ at_hand) → IsScanned log (event_at log at_hand).thread.0 at_hand depth start → IsScanned log (event_at log at_hand).thread.0 (at_hand + 1) after start

-- with so many blocks open before it, the transaction of one place goes on at a later one
pub record GoesOn (log : List Event) (order : List ℕ) (from end depth : ℕ) : Type 0 where
  pub open_block : 0 < depth
  pub within : end < length order
  pub thread : (event_at log (slice_index order end)).thread.0 ≡ (event_at log (slice_index order from)).thread.0

-- each number of the list is a position
pub record AreInside (log : List Event) (order : List ℕ) : Type 0 where
  pub each : (k : ℕ) → k < length order → slice_index order k < length log
