-- What a step in a room does, by a caller that has the room.
use Rattle.std.specs.Prelude.{◌≡◌, ◌⊎◌, Result, Err}
use Rattle.velo_events.specs.declared.event.Action.{Action}
use Rattle.velo_events.specs.declared.event.ThreadId.{ThreadId}
use Rattle.velo_events.specs.declared.refusal.Refusal.{Refusal}
use Rattle.velo_events.specs.declared.refusal.Refusal.TheVariants.{Foreign}
use Rattle.velo_ledger.specs.Views.{Holding}
use Rattle.velo_world.specs.World.{FitsLog}
use Rattle.velo_world.specs.World.{Acts, Forks}
use Rattle.velo_world.specs.declared.analysis.Reply.{Reply}
use Rattle.velo_runtime.specs.Rooms.{RoomState}

-- the share fits, the step is the world's, and no wait changes
pub record ActsIn (room : RoomState) (share : Holding) (action : Action) (outcome : Result Reply Refusal) (room' : RoomState) (share' : Holding) : Type 0 where
  pub fits : FitsLog room.world share
  pub acts : Acts room.world share action outcome room'.world share'
  pub waits : room'.waits ≡ room.waits

pub record ForksIn (room : RoomState) (share : Holding) (child : ThreadId) (outcome : Result (Reply × Holding) Refusal) (room' : RoomState) (share' : Holding) : Type 0 where
  pub fits : FitsLog room.world share
  pub forks : Forks room.world share child outcome room'.world share'
  pub waits : room'.waits ≡ room.waits

-- the share does not fit, and nothing changes
pub record IsForeign (room : RoomState) (share : Holding) (room' : RoomState) (share' : Holding) : Type 0 where
  pub misfit : ¬ FitsLog room.world share
  pub same_room : room' ≡ room
  pub same_share : share' ≡ share

-- a step, or the refusal of a foreign share
abbrev pub StepsIn : RoomState → Holding → Action → Result Reply Refusal → RoomState → Holding → Type 0
StepsIn room share action outcome room' share' =
    ActsIn room share action outcome room' share' ⊎ (IsForeign room share room' share' × (outcome ≡ Err Foreign))

abbrev pub StepsForking : RoomState → Holding → ThreadId → Result (Reply × Holding) Refusal → RoomState → Holding → Type 0
StepsForking room share child outcome room' share' =
    ForksIn room share child outcome room' share' ⊎ (IsForeign room share room' share' × (outcome ≡ Err Foreign))
