-- A log on its way to come about again. Private contracts cite these words.
use Rattle.std.specs.Prelude.{◌≡◌, ◌≤◌, ◌<◌, ◌+◌, ◌||◌, ℕ, Bool, nat_le, if◌then◌else◌, IsTrue, List, [], ◌∷◌, ◌++◌, length, take, Option, Some, None, slice_get}
use Rattle.velo_events.specs.declared.config.Config.{Config}
use Rattle.velo_events.specs.declared.event.Event.{Event}
use Rattle.velo_events.specs.Heap.{status_in}
use Rattle.velo_events.specs.Meaning.{is_unborn}
use Rattle.velo_heap.specs.Contents.{bounds_of, IsHeapOf}
use Rattle.velo_ledger.specs.Logs.{tally_of}
use Rattle.velo_ledger.specs.Shares.{opening_share}
use Rattle.velo_ledger.specs.Views.{Holding}
use Rattle.velo_monitor.specs.Watched.{Watched}
use Rattle.velo_world.specs.World.{WorldState, IsBookOf, FitsLog}
use Rattle.velo_world.specs.Faults.{world_of}
use Rattle.velo_world.specs.FirstCycle.{ClosesFirst, IsFirstClosing, events_before}
use Rattle.velo_world.specs.NodeRoom.{IsLimitedMonitorOf}
use Rattle.velo_world.specs.declared.first_cycle.Closing.{Closing}
use Rattle.velo_world.specs.declared.log_replay.LogReplay.{LogReplay}

-- the fitting share of a thread
abbrev pub share_of : WorldState → ℕ → Holding
share_of w t = record { run = w.config.run; thread = record { 0 = t }; tally = tally_of w.log t }

-- the share of the thread is not handed out while this is done for the first n threads: it is none of these, or unborn
abbrev pub stays : WorldState → ℕ → ℕ → Bool
stays w n t = nat_le n t || is_unborn (status_in w.log t)

-- of the first n threads, those that were born have their fitting shares; all others have none, and theirs are kept as they
-- were at the start
pub record AreHandedOut (w : WorldState) (n : ℕ) (kept given : List (Option Holding)) : Type 0 where
  pub count : length kept ≡ w.config.bounds.threads
  pub count_given : length given ≡ w.config.bounds.threads
  pub each : (t : ℕ) → t < w.config.bounds.threads → slice_get kept t ≡ Some (if stays w n t then Some (opening_share w.config.run t) else None)
  pub each_given : (t : ℕ) → t < w.config.bounds.threads → slice_get given t ≡ Some (if stays w n t then None else Some (share_of w t))

-- the share that an unborn thread begins with fits
pub record FitUnborn (w : WorldState) : Type 0 where
  pub fit : (t : ℕ) → t < w.config.bounds.threads → IsTrue (is_unborn (status_in w.log t)) → FitsLog w (opening_share w.config.run t)

-- heap, book and shares are those of a world with these events, but for the shares of the threads from the n-th on, which are
-- not handed out
pub record IsLogReplayOf (config : Config) (replay : LogReplay) (trace : List Event) (n : ℕ) : Type 0 where
  pub short : length trace ≤ config.events
  pub bounds : bounds_of replay.heap ≡ config.bounds
  pub heap : IsHeapOf replay.heap trace
  pub book : IsBookOf (world_of config trace) replay.book
  pub unborn : FitUnborn (world_of config trace)
  pub shares : AreHandedOut (world_of config trace) n replay.kept replay.shares

-- and the monitor is that of them all
pub record IsQuiet (config : Config) (replay : LogReplay) (trace : List Event) : Type 0 where
  pub entered : IsLogReplayOf config replay trace 0
  pub watched : IsLimitedMonitorOf config replay.monitor trace

-- what the monitor has seen of the event after these: it is that of them all, or the event closes the first cycle and it is that of
-- those before it
abbrev pub HasSeen : Config → Watched → List Event → Event → Option Closing → Type 0
HasSeen config monitor past e None = IsLimitedMonitorOf config monitor (past ++ e ∷ [])
HasSeen config monitor past e (Some closing) =
    ClosesFirst (past ++ e ∷ []) closing × (closing.position ≡ length past) × IsLimitedMonitorOf config monitor past

-- the events up to this one came about, which closes the first cycle, and the monitor is that of those before it
pub record ComesToCycle (config : Config) (events : List Event) (replay : LogReplay) (closing : Closing) : Type 0 where
  pub first : ClosesFirst events closing
  pub entered : IsLogReplayOf config replay (take (closing.position + 1) events) 0
  pub watched : IsLimitedMonitorOf config replay.monitor (take closing.position events)

-- the first n events came about, and they have no cycle, or the last of them closes the first
abbrev pub ComesTo : Config → List Event → ℕ → LogReplay → Option Closing → Type 0
ComesTo config events n replay None = IsQuiet config replay (take n events)
ComesTo config events n replay (Some closing) = ComesToCycle config events replay closing

-- all events came about
pub record IsReplayed (config : Config) (events : List Event) (replay : LogReplay) (closing : Option Closing) : Type 0 where
  pub first : IsFirstClosing events closing
  pub entered : IsLogReplayOf config replay events 0
  pub watched : IsLimitedMonitorOf config replay.monitor (events_before events closing)
