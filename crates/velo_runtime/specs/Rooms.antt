-- What contracts see of a room: its world, and what its threads wait for.
use Rattle.std.specs.Prelude.{◌≡◌, ◌<◌, List, length, replicate, Option, None, All, IfSome}
use Rattle.velo_events.specs.declared.config.Bounds.{Bounds}
use Rattle.velo_events.specs.declared.config.Config.{Config}
use Rattle.velo_world.specs.World.{WorldState, opening}
use Rattle.velo_runtime.specs.declared.wait.Wanted.{Wanted}
use Rattle.velo_runtime.specs.declared.wait.Wanted.TheVariants.{Lock, LockShared, Thread}

pub record RoomState : Type 0 where
  pub world : WorldState
  -- a place for each thread, with what it waits for
  pub waits : List (Option Wanted)

-- the room at its start: nobody waits
abbrev pub opening_room : Config → RoomState
opening_room config = record { world = opening config; waits = replicate config.bounds.threads None }

-- the lock or thread is there
abbrev pub IsThere : Bounds → Wanted → Type 0
IsThere bounds (Lock m) = m.0 < bounds.locks
IsThere bounds (LockShared m) = m.0 < bounds.locks
IsThere bounds (Thread u) = u.0 < bounds.threads

-- there is a place for each thread, and what is waited for is there
pub record AreWaitsWithin (bounds : Bounds) (waits : List (Option Wanted)) : Type 0 where
  pub count : length waits ≡ bounds.threads
  pub each : All (λ wait. IfSome wait (IsThere bounds)) waits
