-- Which operations a heap's contents admit, and how these change. Words of private contracts.
use Rattle.std.specs.Prelude.{ℕ, ◌+◌, ◌-◌, ◌<◌, Bool, ◌||◌, ◌==◌, nat_le, not, is_some, option_map, if◌then◌else◌, List, length, get_or, slice_get, slice_set, Option, Some, None, Result, Ok, Err, ⊤}
use Rattle.velo_events.specs.declared.event.ThreadId.{ThreadId}
use Rattle.velo_events.specs.declared.event.VarId.{VarId}
use Rattle.velo_events.specs.declared.event.LockId.{LockId}
use Rattle.velo_events.specs.declared.event.Label.{Label}
use Rattle.velo_events.specs.declared.event.Action.{Action}
use Rattle.velo_events.specs.declared.event.Event.{Event}
use Rattle.velo_events.specs.declared.event.Kind.{Kind}
use Rattle.velo_events.specs.declared.event.Kind.TheVariants.{Read, Write, Acquire, Release, AcquireShared, ReleaseShared, Begin, End, Fork, Join, Exit}
use Rattle.velo_events.specs.declared.event.Status.{Status}
use Rattle.velo_events.specs.declared.event.Status.TheVariants.{Unborn, Live, Exited, Joined}
use Rattle.velo_events.specs.declared.refusal.Refusal.{Refusal}
use Rattle.velo_events.specs.declared.refusal.Refusal.TheVariants.{NotLive, NoSuchVariable, NoSuchLock, NoSuchThread, Busy, AlreadyHeld, NotHolder, NoOpenBlock, TooDeep, AlreadyForked, NotForked, NotExited, AlreadyJoined, BlockOpen, LockHeld}
use Rattle.velo_events.specs.Event.{are_same}
use Rattle.velo_events.specs.Meaning.{is_live}
use Rattle.velo_events.specs.ThreadSets.{has_thread, has_none, no_threads, with_thread, without_thread}
use Rattle.velo_events.specs.declared.limits.TheConstants.{MAX_OPEN_BLOCKS}
use Rattle.velo_events.specs.WellFormed.{NamesKnown}
use Rattle.velo_heap.specs.declared.lock.Lock.{Lock}
use Rattle.velo_heap.specs.declared.thread_state.ThreadState.{ThreadState}
use Rattle.velo_heap.specs.Contents.{Contents, bounds_of}

-- ---- which operation is admitted, by what is at the place that the action names

abbrev pub read_at : VarId → Option ℕ → Result Kind Refusal
read_at x (Some v) = Ok (Read x v)
read_at x None = Err NoSuchVariable

abbrev pub write_at : VarId → ℕ → Option ℕ → Result Kind Refusal
write_at x v (Some old) = Ok (Write x v)
write_at x v None = Err NoSuchVariable

-- the thread holds the lock alone; it holds it, alone or with others
abbrev pub is_holder : Lock → ThreadId → Bool
is_holder lock t = are_same (option_map (λ h. h.0) lock.holder) (Some t.0)

abbrev pub is_held_by : Lock → ThreadId → Bool
is_held_by lock t = is_holder lock t || has_thread lock.sharers t.0

abbrev pub acquire_in : ThreadId → LockId → Lock → Result Kind Refusal
acquire_in t m lock = if is_held_by lock t then Err AlreadyHeld else (if is_some lock.holder || not (has_none lock.sharers) then Err Busy else Ok (Acquire m))

abbrev pub acquire_shared_in : ThreadId → LockId → Lock → Result Kind Refusal
acquire_shared_in t m lock = if is_held_by lock t then Err AlreadyHeld else (if is_some lock.holder then Err Busy else Ok (AcquireShared m))

abbrev pub release_in : ThreadId → LockId → Lock → Result Kind Refusal
release_in t m lock = if is_holder lock t then Ok (Release m) else Err NotHolder

abbrev pub release_shared_in : ThreadId → LockId → Lock → Result Kind Refusal
release_shared_in t m lock = if has_thread lock.sharers t.0 then Ok (ReleaseShared m) else Err NotHolder

abbrev pub acquire_at : ThreadId → LockId → Option Lock → Result Kind Refusal
acquire_at t m (Some lock) = acquire_in t m lock
acquire_at t m None = Err NoSuchLock

abbrev pub acquire_shared_at : ThreadId → LockId → Option Lock → Result Kind Refusal
acquire_shared_at t m (Some lock) = acquire_shared_in t m lock
acquire_shared_at t m None = Err NoSuchLock

abbrev pub release_at : ThreadId → LockId → Option Lock → Result Kind Refusal
release_at t m (Some lock) = release_in t m lock
release_at t m None = Err NoSuchLock

abbrev pub release_shared_at : ThreadId → LockId → Option Lock → Result Kind Refusal
release_shared_at t m (Some lock) = release_shared_in t m lock
release_shared_at t m None = Err NoSuchLock

abbrev pub fork_by : ThreadId → Status → Result Kind Refusal
fork_by u Unborn = Ok (Fork u)
fork_by u _ = Err AlreadyForked

abbrev pub fork_at : ThreadId → Option ThreadState → Result Kind Refusal
fork_at u (Some child) = fork_by u child.status
fork_at u None = Err NoSuchThread

abbrev pub join_by : ThreadId → Status → Result Kind Refusal
join_by u Unborn = Err NotForked
join_by u Live = Err NotExited
join_by u Exited = Ok (Join u)
join_by u Joined = Err AlreadyJoined

abbrev pub join_at : ThreadId → Option ThreadState → Result Kind Refusal
join_at u (Some child) = join_by u child.status
join_at u None = Err NoSuchThread

abbrev pub begin_in : ThreadState → Label → Result Kind Refusal
begin_in own label = if nat_le MAX_OPEN_BLOCKS own.depth then Err TooDeep else Ok (Begin label)

abbrev pub end_in : ThreadState → Result Kind Refusal
end_in own = if own.depth == 0 then Err NoOpenBlock else Ok End

abbrev pub exit_in : ThreadState → Result Kind Refusal
exit_in own = if not (own.depth == 0) then Err BlockOpen else (if not (own.locks == 0) then Err LockHeld else Ok Exit)

-- what a live thread may do
abbrev pub live_kind : Contents → ThreadId → ThreadState → Action → Result Kind Refusal
live_kind heap t own (Action.Read x) = read_at x (slice_get heap.values x.0)
live_kind heap t own (Action.Write x v) = write_at x v (slice_get heap.values x.0)
live_kind heap t own (Action.Acquire m) = acquire_at t m (slice_get heap.locks m.0)
live_kind heap t own (Action.Release m) = release_at t m (slice_get heap.locks m.0)
live_kind heap t own (Action.AcquireShared m) = acquire_shared_at t m (slice_get heap.locks m.0)
live_kind heap t own (Action.ReleaseShared m) = release_shared_at t m (slice_get heap.locks m.0)
live_kind heap t own (Action.Begin label) = begin_in own label
live_kind heap t own Action.End = end_in own
live_kind heap t own (Action.Fork u) = fork_at u (slice_get heap.threads u.0)
live_kind heap t own (Action.Join u) = join_at u (slice_get heap.threads u.0)
live_kind heap t own Action.Exit = exit_in own

abbrev pub kind_if_live : Contents → ThreadId → Option ThreadState → Action → Result Kind Refusal
kind_if_live heap t (Some own) action = if is_live own.status then live_kind heap t own action else Err NotLive
kind_if_live heap t None action = Err NotLive

-- the operation of the action, or why it is refused
abbrev pub kind_in : Contents → ThreadId → Action → Result Kind Refusal
kind_in heap t action = kind_if_live heap t (slice_get heap.threads t.0) action

-- why it is refused, if it is
abbrev pub refusal_in : Result Kind Refusal → Option Refusal
refusal_in (Ok k) = None
refusal_in (Err refusal) = Some refusal

-- ---- how an operation changes the contents

-- the operation makes no count of the thread wrap, if a thread may hold this many locks in each of
-- two ways
abbrev pub CountsFit : ℕ → ThreadState → Kind → Type 0
CountsFit most own (Acquire m) = own.locks < most + most
CountsFit most own (Release m) = 0 < own.locks
CountsFit most own (AcquireShared m) = own.locks < most + most
CountsFit most own (ReleaseShared m) = 0 < own.locks
CountsFit most own (Begin label) = own.depth < MAX_OPEN_BLOCKS
CountsFit most own End = 0 < own.depth
CountsFit most own _ = ⊤

-- a thread after its own operation
abbrev pub thread_state_after : ThreadState → Kind → ThreadState
thread_state_after own (Acquire m) = record own { locks = own.locks + 1 }
thread_state_after own (Release m) = record own { locks = own.locks - 1 }
thread_state_after own (AcquireShared m) = record own { locks = own.locks + 1 }
thread_state_after own (ReleaseShared m) = record own { locks = own.locks - 1 }
thread_state_after own (Begin label) = record own { depth = own.depth + 1 }
thread_state_after own End = record own { depth = own.depth - 1 }
thread_state_after own Exit = record own { status = Exited }
thread_state_after own _ = own

abbrev pub unborn : ThreadState
unborn = record { status = Unborn; depth = 0; locks = 0 }

abbrev pub thread_state_at : List ThreadState → ℕ → ThreadState
thread_state_at threads t = get_or threads t unborn

abbrev pub free : Lock
free = record { holder = None; sharers = no_threads }

abbrev pub with_holder : Option ThreadId → Lock → Lock
with_holder holder lock = record lock { holder = holder }

-- the lock with the thread among its sharers, or without it
abbrev pub with_sharer : ThreadId → Lock → Lock
with_sharer t lock = record lock { sharers = with_thread t lock.sharers }

abbrev pub without_sharer : ThreadId → Lock → Lock
without_sharer t lock = record lock { sharers = without_thread t lock.sharers }

abbrev pub with_lock : List Lock → ℕ → (Lock → Lock) → List Lock
with_lock locks m change = slice_set locks m (change (get_or locks m free))

abbrev pub with_status : List ThreadState → ℕ → Status → List ThreadState
with_status threads t status = slice_set threads t (record (thread_state_at threads t) { status = status })

-- the thread's state is as after its own operation
abbrev pub own_after : List ThreadState → ℕ → Kind → List ThreadState
own_after threads t kind = slice_set threads t (thread_state_after (thread_state_at threads t) kind)

-- the operation changes what it names, and its own thread if that has another state then
abbrev pub after_kind : Contents → ThreadId → Kind → Contents
after_kind heap t (Read x v) = heap
after_kind heap t (Write x v) = record heap { values = slice_set heap.values x.0 v }
after_kind heap t (Acquire m) = record heap { locks = with_lock heap.locks m.0 (with_holder (Some t)); threads = own_after heap.threads t.0 (Acquire m) }
after_kind heap t (Release m) = record heap { locks = with_lock heap.locks m.0 (with_holder None); threads = own_after heap.threads t.0 (Release m) }
after_kind heap t (AcquireShared m) = record heap { locks = with_lock heap.locks m.0 (with_sharer t); threads = own_after heap.threads t.0 (AcquireShared m) }
after_kind heap t (ReleaseShared m) = record heap { locks = with_lock heap.locks m.0 (without_sharer t); threads = own_after heap.threads t.0 (ReleaseShared m) }
after_kind heap t (Begin label) = record heap { threads = own_after heap.threads t.0 (Begin label) }
after_kind heap t End = record heap { threads = own_after heap.threads t.0 End }
after_kind heap t (Fork u) = record heap { threads = with_status heap.threads u.0 Live }
after_kind heap t (Join u) = record heap { threads = with_status heap.threads u.0 Joined }
after_kind heap t Exit = record heap { threads = own_after heap.threads t.0 Exit }

abbrev pub contents_after : Contents → Event → Contents
contents_after heap event = after_kind heap event.thread event.kind

-- the operation fits the contents
pub record CanChange (heap : Contents) (event : Event) : Type 0 where
  pub thread : event.thread.0 < length heap.threads
  pub names : NamesKnown (bounds_of heap) event.kind
  pub room : CountsFit (length heap.locks) (thread_state_at heap.threads event.thread.0) event.kind
