-- The result of a thread's turn, for a caller that has the room.
use Rattle.std.specs.Prelude.{◌≡◌, ◌⊎◌, Option, Some, None, Result, Ok, Err, slice_set}
use Rattle.velo_events.specs.declared.event.Action.{Action}
use Rattle.velo_events.specs.declared.event.Action.TheVariants.{Acquire, AcquireShared, Join}
use Rattle.velo_events.specs.declared.event.ThreadId.{ThreadId}
use Rattle.velo_events.specs.declared.refusal.Refusal.{Refusal}
use Rattle.velo_events.specs.declared.refusal.Refusal.TheVariants.{Busy, NotExited, WouldDeadlock, Foreign}
use Rattle.velo_ledger.specs.Views.{Holding}
use Rattle.velo_world.specs.World.{FitsLog}
use Rattle.velo_world.specs.World.{Acts}
use Rattle.velo_world.specs.declared.analysis.Reply.{Reply}
use Rattle.velo_runtime.specs.declared.wait.Wanted.{Wanted}
use Rattle.velo_runtime.specs.declared.wait.Wanted.TheVariants.{Lock, LockShared, Thread}
use Rattle.velo_runtime.specs.declared.wait.Turn.{Turn}
use Rattle.velo_runtime.specs.declared.wait.Turn.TheVariants.{Done, Refused, Wait}
use Rattle.velo_runtime.specs.Rooms.{RoomState}
use Rattle.velo_runtime.specs.Steps.{IsForeign}
use Rattle.velo_runtime.specs.Waits.{ComesBackIn}

abbrev pub lock_wanted : Action → Option Wanted
lock_wanted (Acquire m) = Some (Lock m)
lock_wanted (AcquireShared m) = Some (LockShared m)
lock_wanted _ = None

abbrev pub thread_wanted : Action → Option Wanted
thread_wanted (Join u) = Some (Thread u)
thread_wanted _ = None

-- what the action waits for, where this refusal may pass: the lock of a busy acquire, the thread of
-- an early join
abbrev pub wanted_by : Action → Refusal → Option Wanted
wanted_by action Busy = lock_wanted action
wanted_by action NotExited = thread_wanted action
wanted_by action _ = None

-- the wait comes back to the caller and is refused, or it is entered
abbrev pub WaitsFor : RoomState → ThreadId → Wanted → Turn → Option Wanted → Type 0
WaitsFor room t wanted turn wait =
    (ComesBackIn room t wanted × (turn ≡ Refused WouldDeadlock) × (wait ≡ None))
    ⊎ ((¬ ComesBackIn room t wanted) × (turn ≡ Wait) × (wait ≡ Some wanted))

abbrev pub RefusedFor : RoomState → ThreadId → Refusal → Option Wanted → Turn → Option Wanted → Type 0
RefusedFor room t refusal None turn wait = (turn ≡ Refused refusal) × (wait ≡ None)
RefusedFor room t refusal (Some wanted) turn wait = WaitsFor room t wanted turn wait

-- what the turn returns after the step's outcome, and what the thread waits for then
abbrev pub IsTurnAfter : RoomState → ThreadId → Action → Result Reply Refusal → Turn → Option Wanted → Type 0
IsTurnAfter room t action (Ok reply) turn wait = (turn ≡ Done reply) × (wait ≡ None)
IsTurnAfter room t action (Err refusal) turn wait = RefusedFor room t refusal (wanted_by action refusal) turn wait

-- the share fits, the step is the world's, and the wait of no other thread changes
pub record TakesTurn (room : RoomState) (share : Holding) (action : Action) (turn : Turn) (room' : RoomState) (share' : Holding) : Type 0 where
  pub fits : FitsLog room.world share
  pub outcome : Result Reply Refusal
  pub acts : Acts room.world share action outcome room'.world share'
  pub wait : Option Wanted
  pub turn_is : IsTurnAfter room share.thread action outcome turn wait
  pub waits : room'.waits ≡ slice_set room.waits share.thread.0 wait

-- a turn, or the refusal of a foreign share
abbrev pub TurnsIn : RoomState → Holding → Action → Turn → RoomState → Holding → Type 0
TurnsIn room share action turn room' share' =
    TakesTurn room share action turn room' share' ⊎ (IsForeign room share room' share' × (turn ≡ Refused Foreign))
