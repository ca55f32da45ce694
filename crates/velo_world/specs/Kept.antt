-- The shares that a world keeps, and what an action takes out of them. Private contracts cite these words.
use Rattle.std.specs.Prelude.{◌≡◌, ◌<◌, ℕ, List, length, Option, Some, None, IsTrue, if◌then◌else◌, slice_get, slice_set}
use Rattle.velo_events.specs.declared.event.Action.{Action}
use Rattle.velo_events.specs.declared.event.Action.TheVariants.{Fork}
use Rattle.velo_events.specs.Heap.{status_in}
use Rattle.velo_events.specs.Meaning.{is_unborn}
use Rattle.velo_ledger.specs.Shares.{opening_share, share_at}
use Rattle.velo_ledger.specs.Views.{Holding}
use Rattle.velo_world.specs.World.{WorldState, FitsLog}

-- what the world keeps at the place of a thread: the share that an unborn thread begins with, and no other
abbrev pub KeptAt : WorldState → ℕ → Option (Option Holding) → Type 0
KeptAt w t place = place ≡ Some (if is_unborn (status_in w.log t) then Some (opening_share w.config.run t) else None)

-- the world keeps the fitting share of each unborn thread, and no other share
pub record KeepsUnborn (w : WorldState) (kept : List (Option Holding)) : Type 0 where
  pub count : length kept ≡ w.config.bounds.threads
  pub each : (t : ℕ) → t < w.config.bounds.threads → KeptAt w t (slice_get kept t)
  pub fit : (t : ℕ) → t < w.config.bounds.threads → IsTrue (is_unborn (status_in w.log t)) → FitsLog w (opening_share w.config.run t)

-- the share that an action takes out of the places: that of the thread that it forks
abbrev pub taken_by : List (Option Holding) → Action → Option Holding
taken_by places (Fork child) = share_at places child
taken_by places _ = None

-- and the places without it
abbrev pub left_by : List (Option Holding) → Action → List (Option Holding)
left_by places (Fork child) = slice_set places child.0 None
left_by places _ = places

-- the places with the share at its own, if there is one
abbrev pub with_share : List (Option Holding) → Option Holding → List (Option Holding)
with_share places None = places
with_share places (Some share) = slice_set places share.thread.0 (Some share)
