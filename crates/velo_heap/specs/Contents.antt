-- What a heap holds, the traces that it represents, and what it returns for them.
use Rattle.std.specs.Prelude.{◌≡◌, ℕ, zero, suc, ◌+◌, ◌-◌, ◌*◌, ◌^◌, ◌<◌, Bool, if◌then◌else◌, List, length, slice_get, Option, Some, None, option_map, Result, Ok, Err}
use Rattle.velo_events.specs.declared.config.Bounds.{Bounds}
use Rattle.velo_events.specs.declared.event.ThreadId.{ThreadId}
use Rattle.velo_events.specs.declared.event.Action.{Action}
use Rattle.velo_events.specs.declared.event.Event.{Event}
use Rattle.velo_events.specs.declared.refusal.Refusal.{Refusal}
use Rattle.velo_events.specs.Event.{is_acquire_by, is_release_by, is_acquire_shared_by, is_release_shared_by}
use Rattle.velo_events.specs.Heap.{times, value_in, holder_in, shares_in, status_in, depth_in}
use Rattle.velo_events.specs.WellFormed.{MayFollow, IsWellFormed}
use Rattle.velo_events.specs.Meaning.{refusal_of, kind_for, event_for}
use Rattle.velo_events.specs.declared.thread_set.ThreadSet.{ThreadSet}
use Rattle.velo_heap.specs.declared.lock.Lock.{Lock}
use Rattle.velo_heap.specs.declared.thread_state.ThreadState.{ThreadState}

-- the value of each variable, who holds each lock, and the state of each thread
pub record Contents : Type 0 where
  pub values : List ℕ
  pub locks : List Lock
  pub threads : List ThreadState

-- as many threads, variables and locks as the heap has
abbrev pub bounds_of : Contents → Bounds
bounds_of heap = record { threads = length heap.threads; variables = length heap.values; locks = length heap.locks }

-- ---- the heap of a trace

-- the item at each place i is f i
pub record Tabulates {X : Type 0} (items : List X) (f : ℕ → X) : Type 0 where
  pub each : (i : ℕ) → i < length items → slice_get items i ≡ Some (f i)

abbrev pub thread_named : ℕ → ThreadId
thread_named t = record { 0 = t }

-- a number with a bit for each number below n that passes the test
unfoldable pub mask_below : ℕ → (ℕ → Bool) → ℕ
mask_below zero test = 0
mask_below (suc n) test = (if test n then 1 else 0) * 2 ^ n + mask_below n test

-- the threads below n that pass the test
abbrev pub set_below : ℕ → (ℕ → Bool) → ThreadSet
set_below n test = record { 0 = mask_below n test }

-- who holds the lock: the thread that does so alone, and which of the n threads share it
abbrev pub lock_in : ℕ → List Event → ℕ → Lock
lock_in n trace m = record { holder = option_map thread_named (holder_in trace m); sharers = set_below n (shares_in trace m) }

-- how many locks the thread holds, alone or with others: its acquires of both kinds minus its
-- releases
abbrev pub locks_in : List Event → ℕ → ℕ
locks_in trace t = (times (is_acquire_by t) trace - times (is_release_by t) trace) + (times (is_acquire_shared_by t) trace - times (is_release_shared_by t) trace)

-- the state of the thread: its status, how many blocks it has open, how many locks it holds
abbrev pub thread_state_in : List Event → ℕ → ThreadState
thread_state_in trace t = record { status = status_in trace t; depth = depth_in trace t; locks = locks_in trace t }

-- the heap is that of the trace, which can happen within the heap's bounds
pub record IsHeapOf (heap : Contents) (trace : List Event) : Type 0 where
  pub well_formed : IsWellFormed (bounds_of heap) trace
  pub values : Tabulates heap.values (value_in trace)
  pub locks : Tabulates heap.locks (lock_in (length heap.threads) trace)
  pub threads : Tabulates heap.threads (thread_state_in trace)

-- a fact about each trace that the heap represents
abbrev pub ForItsTraces : Contents → (List Event → Type 0) → Type 0
ForItsTraces heap Fact = (trace : List Event) → IsHeapOf heap trace → Fact trace

-- ---- what the heap returns and takes

abbrev pub unless_refused : Option Refusal → Event → Result Event Refusal
unless_refused (Some refusal) event = Err refusal
unless_refused None event = Ok event

-- the first reason to refuse the action after the trace, or else its event
abbrev pub admission : Bounds → List Event → ThreadId → Action → Result Event Refusal
admission bounds trace t action = unless_refused (refusal_of bounds trace t.0 (kind_for trace action)) (event_for trace t action)

-- the event was admitted: it may follow a trace that the heap represents
pub record IsAdmitted (heap : Contents) (event : Event) : Type 0 where
  pub trace : List Event
  pub stands : IsHeapOf heap trace
  pub follows : MayFollow (bounds_of heap) trace event
