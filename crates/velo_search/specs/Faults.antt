-- What can go wrong with a run: what is left of it has a cycle, it is stuck, or an operation is refused.
use Rattle.std.specs.Prelude.{◌≡◌, ◌≢◌, ◌⊎◌, ℕ, ◌<◌, Bool, true, false, List, slice_get, Some, None, IsTrue, IsFalse}
use Rattle.velo_events.specs.declared.config.Bounds.{Bounds}
use Rattle.velo_events.specs.declared.event.Event.{Event}
use Rattle.velo_events.specs.declared.event.Kind.{Kind}
use Rattle.velo_events.specs.declared.event.Status.TheVariants.{Unborn}
use Rattle.velo_events.specs.declared.refusal.Refusal.{Refusal}
use Rattle.velo_events.specs.declared.refusal.Refusal.TheVariants.{Busy, NotExited}
use Rattle.velo_events.specs.Event.{thread_of}
use Rattle.velo_events.specs.Graph.{HasCycle}
use Rattle.velo_events.specs.Heap.{status_in}
use Rattle.velo_events.specs.Meaning.{refusal_of}
use Rattle.velo_events.specs.Tally.{events_of}
use Rattle.velo_search.specs.Runs.{script_of, IsNext}
pub use Rattle.velo_search.specs.declared.fault.Fault.{Fault}
pub use Rattle.velo_search.specs.declared.fault.Fault.TheVariants.{Cycle, Stuck, Refusing}
use Rattle.velo_search.specs.declared.next.Next.{Next}
use Rattle.velo_search.specs.declared.next.Next.TheVariants.{Idle, Waits, Refused, May}

-- a refusal at which a thread waits for another
abbrev pub is_wait : Refusal → Bool
is_wait Busy = true
is_wait NotExited = true
is_wait refusal = false

-- ---- one thread, after the log

-- it has no operation left, or nobody has forked it yet
abbrev pub IsIdle : List (List Kind) → List Event → ℕ → Type 0
IsIdle scripts log t = (slice_get (script_of scripts t) (events_of log t) ≡ None) ⊎ (status_in log t ≡ Unborn)

-- its next operation is refused, and it was forked
pub record IsTurnedDown (bounds : Bounds) (scripts : List (List Kind)) (log : List Event) (t : ℕ) (refusal : Refusal) : Type 0 where
  pub kind : Kind
  pub due : slice_get (script_of scripts t) (events_of log t) ≡ Some kind
  pub refused : refusal_of bounds log t kind ≡ Some refusal
  pub born : status_in log t ≢ Unborn

-- it waits for another thread
pub record IsWaiting (bounds : Bounds) (scripts : List (List Kind)) (log : List Event) (t : ℕ) : Type 0 where
  pub refusal : Refusal
  pub turned : IsTurnedDown bounds scripts log t refusal
  pub waits : IsTrue (is_wait refusal)

-- it is refused for good
pub record IsRefused (bounds : Bounds) (scripts : List (List Kind)) (log : List Event) (t : ℕ) : Type 0 where
  pub refusal : Refusal
  pub turned : IsTurnedDown bounds scripts log t refusal
  pub for_good : IsFalse (is_wait refusal)

-- how it stands with its next operation
abbrev pub NextIs : Bounds → List (List Kind) → List Event → ℕ → Next → Type 0
NextIs bounds scripts log t Idle = IsIdle scripts log t
NextIs bounds scripts log t Waits = IsWaiting bounds scripts log t
NextIs bounds scripts log t Refused = IsRefused bounds scripts log t
NextIs bounds scripts log t (May e) = (thread_of e ≡ t) × IsNext bounds scripts log e

-- ---- all threads

-- nobody can go on, nobody is refused, and somebody waits
pub record IsStuck (bounds : Bounds) (scripts : List (List Kind)) (log : List Event) : Type 0 where
  pub each : (t : ℕ) → t < bounds.threads → IsIdle scripts log t ⊎ IsWaiting bounds scripts log t
  pub some : (t : ℕ) × (t < bounds.threads) × IsWaiting bounds scripts log t

pub record SomeRefused (bounds : Bounds) (scripts : List (List Kind)) (log : List Event) : Type 0 where
  pub some : (t : ℕ) × (t < bounds.threads) × IsRefused bounds scripts log t

-- a log is judged by what is left of it
abbrev pub IsFault : Bounds → List (List Kind) → (List Event → List Event) → Fault → List Event → Type 0
IsFault bounds scripts rest Cycle log = HasCycle (rest log)
IsFault bounds scripts rest Stuck log = IsStuck bounds scripts log
IsFault bounds scripts rest Refusing log = SomeRefused bounds scripts log
