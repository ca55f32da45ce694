-- A program as what each thread tries after its events, and what becomes of the try.
use Rattle.std.specs.Prelude.{◌≡◌, ◌≢◌, ◌⊎◌, ℕ, ◌<◌, Bool, true, false, List, take, Option, Some, None, slice_get, IsTrue, IsFalse, [], ◌∷◌, ◌++◌}
use Rattle.velo_events.specs.declared.config.Bounds.{Bounds}
use Rattle.velo_events.specs.declared.event.Action.{Action}
use Rattle.velo_events.specs.declared.event.Event.{Event}
use Rattle.velo_events.specs.declared.event.Kind.TheVariants.{Join}
use Rattle.velo_events.specs.declared.event.Status.TheVariants.{Unborn}
use Rattle.velo_events.specs.declared.event.ThreadId.{ThreadId}
use Rattle.velo_events.specs.declared.refusal.Refusal.{Refusal}
use Rattle.velo_events.specs.declared.refusal.Refusal.TheVariants.{Busy, NotExited}
use Rattle.velo_events.specs.Event.{thread_of}
use Rattle.velo_events.specs.Heap.{status_in}
use Rattle.velo_events.specs.Meaning.{kind_for, action_of, refusal_of}
use Rattle.velo_movers.specs.Programs.{own}

-- the events are of thread t, and each is of the action that it wants after the ones before
pub record Does (wants : ℕ → List Event → Option Action) (t : ℕ) (events : List Event) : Type 0 where
  pub by : (i : ℕ) (e : Event) → slice_get events i ≡ Some e → thread_of e ≡ t
  pub each : (i : ℕ) (e : Event) → slice_get events i ≡ Some e → wants t (take i events) ≡ Some (action_of e.kind)

-- what the threads of a program do is what they want, and a join that is wanted may be
pub record AreWanted (May : ℕ → List Event → Type 0) (wants : ℕ → List Event → Option Action) : Type 0 where
  pub done : (t : ℕ) (events : List Event) (e : Event) → May t (events ++ e ∷ []) → wants t events ≡ Some (action_of e.kind)
  pub joins : (t : ThreadId) (events : List Event) (v : ThreadId) → May t.0 events → wants t.0 events ≡ Some (Action.Join v) → May t.0 (events ++ record { thread = t; kind = Join v } ∷ [])

-- a refusal at which a thread waits for another
abbrev pub is_wait : Refusal → Bool
is_wait Busy = true
is_wait NotExited = true
is_wait r = false

-- the refusal of what is wanted, if there is one
abbrev pub refusal_at : Bounds → List Event → ℕ → Option Action → Option Refusal
refusal_at bounds log t (Some action) = refusal_of bounds log t (kind_for log action)
refusal_at bounds log t None = None

-- the thread is born, tries its next action, and is refused
pub record IsRefused (bounds : Bounds) (wants : ℕ → List Event → Option Action) (log : List Event) (t : ℕ) (r : Refusal) : Type 0 where
  pub born : status_in log t ≢ Unborn
  pub refused : refusal_at bounds log t (wants t (own t log)) ≡ Some r

-- the thread wants nothing more, or is not born
abbrev pub IsIdle : (ℕ → List Event → Option Action) → List Event → ℕ → Type 0
IsIdle wants log t = (wants t (own t log) ≡ None) ⊎ (status_in log t ≡ Unborn)

-- some thread waits, and each that is not idle does
pub record IsStuck (bounds : Bounds) (wants : ℕ → List Event → Option Action) (log : List Event) : Type 0 where
  pub waiting : ℕ
  pub reason : Refusal
  pub waits : IsRefused bounds wants log waiting reason
  pub is_waiting : IsTrue (is_wait reason)
  pub each : (t : ℕ) → t < bounds.threads → IsIdle wants log t ⊎ ((r : Refusal) × IsRefused bounds wants log t r × IsTrue (is_wait r))

-- some thread is refused, and does not wait
pub record HasRefusal (bounds : Bounds) (wants : ℕ → List Event → Option Action) (log : List Event) : Type 0 where
  pub thread : ℕ
  pub reason : Refusal
  pub refused : IsRefused bounds wants log thread reason
  pub no_wait : IsFalse (is_wait reason)
