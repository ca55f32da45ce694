-- Threads that wait in a circle: whatever the others do, they wait for ever.
use Rattle.std.specs.Prelude.{◌≡◌, ◌≢◌, ℕ, List, Some, IsTrue}
use Rattle.velo_events.specs.declared.config.Bounds.{Bounds}
use Rattle.velo_events.specs.declared.event.Action.{Action}
use Rattle.velo_events.specs.declared.event.Event.{Event}
use Rattle.velo_events.specs.declared.event.LockId.{LockId}
use Rattle.velo_events.specs.declared.event.Status.TheVariants.{Live}
use Rattle.velo_events.specs.declared.event.ThreadId.{ThreadId}
use Rattle.velo_events.specs.Graph.{IsCycle}
use Rattle.velo_events.specs.Heap.{holder_in, status_in}
use Rattle.velo_events.specs.Meaning.{action_of, holds}
use Rattle.velo_predict.specs.Predictions.{IsNextOf, IsPrediction}

-- By its next action, which `Next` says, a thread that lives waits for another: this has the lock, alone or shared, that the
-- first acquires; or it has the lock alone that the first acquires shared; or it lives and the first joins it
pub data WaitsFor (Next : ℕ → Action → Type 0) (trace : List Event) (t u : ℕ) : Type 0 where
  ForLock : (m : LockId) → Next t (Action.Acquire m) → status_in trace t ≡ Live → t ≢ u → IsTrue (holds trace u m.0) → WaitsFor Next trace t u
  ForShare : (m : LockId) → Next t (Action.AcquireShared m) → status_in trace t ≡ Live → t ≢ u → holder_in trace m.0 ≡ Some u → WaitsFor Next trace t u
  ForEnd : (v : ThreadId) → Next t (Action.Join v) → status_in trace t ≡ Live → v.0 ≡ u → status_in trace u ≡ Live → WaitsFor Next trace t u

-- each of some threads waits for the next one, and the last for the first
pub record HasDeadlock (Next : ℕ → Action → Type 0) (trace : List Event) : Type 0 where
  pub threads : List ℕ
  pub circle : IsCycle (WaitsFor Next trace) threads

-- what thread t does next after a prediction, where this is known
pub record IsNextAction (log trace : List Event) (t : ℕ) (action : Action) : Type 0 where
  pub event : Event
  pub next : IsNextOf log trace t event
  pub is_action : action_of event.kind ≡ action

-- a prediction after which threads wait in a circle
pub record PredictsDeadlock (bounds : Bounds) (log trace : List Event) : Type 0 where
  pub prediction : IsPrediction bounds log trace
  pub deadlock : HasDeadlock (IsNextAction log trace) trace
