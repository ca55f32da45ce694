-- What a seat learns of its calls, and which seats end a run.
use Rattle.std.specs.Prelude.{◌≡◌, ◌≤◌, ◌<◌, ◌==◌, ℕ, Bool, List, None, Err, All, count_by, if◌then◌else◌}
use Rattle.velo_events.specs.declared.event.Action.{Action}
use Rattle.velo_events.specs.declared.event.Event.{Event}
use Rattle.velo_events.specs.declared.event.Kind.{Kind}
use Rattle.velo_events.specs.declared.event.ThreadId.{ThreadId}
use Rattle.velo_events.specs.declared.refusal.Refusal.{Refusal}
use Rattle.velo_events.specs.Heap.{status_in}
use Rattle.velo_events.specs.Meaning.{is_unborn, kind_for}
use Rattle.velo_ledger.specs.Views.{Holding}
use Rattle.velo_ledger.specs.Tally.{with_event}
use Rattle.velo_ledger.specs.Book.{with_tally}
use Rattle.velo_world.specs.World.{WorldState}
use Rattle.velo_world.specs.World.{FitsLog}
use Rattle.velo_events.specs.Event.{value_read}
use Rattle.velo_world.specs.declared.analysis.Reply.{Reply}
use Rattle.velo_runtime.specs.declared.wait.Turn.TheVariants.{Refused}
use Rattle.velo_runtime.specs.Rooms.{RoomState}
use Rattle.velo_runtime.specs.Steps.{StepsForking}
use Rattle.velo_runtime.specs.Turns.{TurnsIn}

-- an event of the share's thread
abbrev pub event_by : Holding → Kind → Event
event_by share kind = record { thread = share.thread; kind = kind }

-- the share has one event more: its thread's operation, at this position, which is past its other
-- events
pub record GainsEventAt (share share' : Holding) (position : ℕ) (kind : Kind) : Type 0 where
  pub later : share.tally.next ≤ position
  pub holding : share' ≡ with_tally share (with_event share.tally position (event_by share kind))

-- it has one event more, at a position that is not given
pub record GainsEvent (share share' : Holding) (kind : Kind) : Type 0 where
  pub position : ℕ
  pub gains : GainsEventAt share share' position kind

-- it has one event more, and the reply gives its position
pub record GainsEventOf (share share' : Holding) (reply : Reply) (kind : Kind) : Type 0 where
  pub value : reply.value ≡ None
  pub gains : GainsEventAt share share' reply.position kind

-- it has one event more, that of the action, and the reply gives position and value
pub record GainsEventBy (share share' : Holding) (reply : Reply) (action : Action) : Type 0 where
  pub log : List Event
  pub value : reply.value ≡ value_read (kind_for log action)
  pub gains : GainsEventAt share share' reply.position (kind_for log action)

-- the action was refused so, as the room was in some hold of the lock, and nothing changed of the
-- share
pub record IsRefused (share : Holding) (action : Action) (refusal : Refusal) : Type 0 where
  pub room : RoomState
  pub room' : RoomState
  pub turns : TurnsIn room share action (Refused refusal) room' share

-- the same of a fork
pub record IsForkRefused (share : Holding) (child : ThreadId) (refusal : Refusal) : Type 0 where
  pub room : RoomState
  pub room' : RoomState
  pub steps : StepsForking room share child (Err refusal) room' share

-- ---- the end of a run

abbrev pub is_of : ℕ → Holding → Bool
is_of t share = share.thread.0 == t

-- each seat says what the log says of its thread; each thread that was born has one seat, and no
-- other has any
pub record AreSeatsOf (w : WorldState) (seats : List Holding) : Type 0 where
  pub fit : All (FitsLog w) seats
  pub each : (t : ℕ) → t < w.config.bounds.threads → count_by (is_of t) seats ≡ (if is_unborn (status_in w.log t) then 0 else 1)
