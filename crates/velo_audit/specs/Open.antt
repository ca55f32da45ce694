-- The blocks that a thread has open, one event after another. Private contracts cite these words.
use Rattle.std.specs.Prelude.{◌≡◌, ℕ, ◌+◌, ◌<◌, List, length, slice_index}
use Rattle.velo_events.specs.declared.event.Event.{Event}
use Rattle.velo_events.specs.Scan.{begins, ends, IsOpenAt}

-- b is one of the first n of these
pub record IsAmong (these : List ℕ) (n b : ℕ) : Type 0 where
  pub place : ℕ
  pub within : place < n
  pub there : slice_index these place ≡ b

abbrev pub IsListedAt : List ℕ → ℕ → Type 0
IsListedAt these b = IsAmong these (length these) b

-- these are the blocks that thread t has open before position n, outermost first
pub record AreOpen (log : List Event) (t n : ℕ) (open_ones : List ℕ) : Type 0 where
  pub earlier : (j : ℕ) → j < length open_ones → slice_index open_ones j < n
  pub are : (j : ℕ) → j < length open_ones → IsOpenAt log t (slice_index open_ones j) n
  pub counts : (j : ℕ) → j < length open_ones → begins log t n + ends log t (slice_index open_ones j) + j ≡ ends log t n + begins log t (slice_index open_ones j) + length open_ones
  pub rise : (j k : ℕ) → j < k → k < length open_ones → slice_index open_ones j < slice_index open_ones k
  pub each : (b : ℕ) → b < n → IsOpenAt log t b n → IsListedAt open_ones b
