-- Finished nodes that give way to earlier ones of their thread. Words of private contracts.
use Rattle.std.specs.Prelude.{◌≡◌, ◌≢◌, ℕ, ◌+◌, ◌*◌, ◌<◌, ◌≤◌, Bool, false, ◌⊎◌, nat_le, List, length, Option, Some, None, IsTrue, IsSomeAnd, is_some, slice_get, slice_index_or, if◌then◌else◌}
use Rattle.std.specs.Option.{ForSome, option_map_or}
use Rattle.velo_events.specs.declared.limits.TheConstants.{MAX_THREADS}
use Rattle.velo_events.specs.declared.event.Event.{Event}
use Rattle.velo_events.specs.Event.{thread_of}
use Rattle.velo_arena.specs.declared.step.Heir.{Heir}
use Rattle.velo_arena.specs.Slots.{is_used, is_finished_in, stamp_in, limit_of}
use Rattle.velo_arena.specs.Heirs.{heir_in}
use Rattle.velo_graph.specs.Nodes.{Nodes, reaches}

-- ---- threads

-- the thread of the event at the position
abbrev pub thread_at : List Event → ℕ → ℕ
thread_at events i = option_map_or thread_of (slice_get events i) 0

-- the thread of the node in the slot: that of the event with its stamp
abbrev pub thread_in : Nodes → List Event → ℕ → ℕ
thread_in nodes events k = thread_at events (stamp_in nodes.slots k)

-- the node in each slot in use is of an event, and that of one of so many threads
pub record HaveThreads (nodes : Nodes) (events : List Event) (threads : ℕ) : Type 0 where
  pub own : (k : ℕ) → IsTrue (is_used nodes.slots k) → stamp_in nodes.slots k < length events
  pub few : (k : ℕ) → IsTrue (is_used nodes.slots k) → thread_in nodes events k < threads

-- ---- unfinished nodes, by thread

abbrev pub going_in : List (Option ℕ) → ℕ → Option ℕ
going_in going s = slice_index_or going s None

-- the slot is in use and its node has not finished
pub record IsStill (nodes : Nodes) (u : ℕ) : Type 0 where
  pub used : IsTrue (is_used nodes.slots u)
  pub unfinished : is_finished_in nodes.slots u ≡ false

-- of each thread an unfinished node below the end, if it has one
pub record AreGoing (nodes : Nodes) (events : List Event) (going : List (Option ℕ)) (end : ℕ) : Type 0 where
  pub each : (s u : ℕ) → going_in going s ≡ Some u → IsStill nodes u × (thread_in nodes events u ≡ s)
  pub all : (u : ℕ) → u < end → IsStill nodes u → IsTrue (is_some (going_in going (thread_in nodes events u)))

-- whether the node in the slot, if there is one, reaches that in slot k
abbrev pub is_reached : Nodes → Option ℕ → ℕ → Bool
is_reached nodes None k = false
is_reached nodes (Some u) k = reaches nodes u k

-- ---- the earliest node of one thread that an unfinished one of another reaches

-- the number of two threads
abbrev pub pair_of : ℕ → ℕ → ℕ
pair_of t s = t * MAX_THREADS + s

abbrev pub first_in : List (Option ℕ) → ℕ → ℕ → Option ℕ
first_in firsts t s = slice_index_or firsts (pair_of t s) None

-- the slot, if the other has a later stamp or there is none
abbrev pub earlier_of : Nodes → Option ℕ → ℕ → ℕ
earlier_of nodes None k = k
earlier_of nodes (Some r) k = if nat_le (stamp_in nodes.slots r) (stamp_in nodes.slots k) then r else k

-- a finished node of the thread that the unfinished one reaches
pub record IsReachedOf (nodes : Nodes) (events : List Event) (going : Option ℕ) (t k : ℕ) : Type 0 where
  pub finished : IsTrue (is_finished_in nodes.slots k)
  pub thread : thread_in nodes events k ≡ t
  pub reached : IsTrue (is_reached nodes going k)

-- for each two threads one of the finished nodes of the one that the unfinished node of the other reaches. Of those in the slots
-- before n, and in slot n for the first m threads, it is the one with the least stamp, if there is one
pub record AreFirsts (nodes : Nodes) (events : List Event) (going firsts : List (Option ℕ)) (n m : ℕ) : Type 0 where
  pub each : (t s r : ℕ) → t < MAX_THREADS → s < MAX_THREADS → first_in firsts t s ≡ Some r → IsReachedOf nodes events (going_in going s) t r
  pub least : (t s k : ℕ) → (k < n) ⊎ ((k ≡ n) × (s < m)) → s < MAX_THREADS → IsReachedOf nodes events (going_in going s) t k → IsSomeAnd (first_in firsts t s) (λ r. stamp_in nodes.slots r ≤ stamp_in nodes.slots k)

-- ---- the heir

-- the slot in which the node has the later stamp
abbrev pub later_of : Nodes → Option ℕ → Option ℕ → Option ℕ
later_of nodes h None = h
later_of nodes None (Some r) = Some r
later_of nodes (Some h) (Some r) = if nat_le (stamp_in nodes.slots h) (stamp_in nodes.slots r) then Some r else Some h

-- for the node in slot k of thread t: of the earliest of its thread that unfinished nodes of the first m threads reach, which reach
-- this one too, the one with the greatest stamp, if there is one
pub record IsLatest (nodes : Nodes) (going firsts : List (Option ℕ)) (t k m : ℕ) (latest : Option ℕ) : Type 0 where
  pub among : (h : ℕ) → latest ≡ Some h → (s : ℕ) × (s < MAX_THREADS) × IsTrue (is_reached nodes (going_in going s) k) × (first_in firsts t s ≡ Some h)
  pub above : (s r : ℕ) → s < m → IsTrue (is_reached nodes (going_in going s) k) → first_in firsts t s ≡ Some r → IsSomeAnd latest (λ h. stamp_in nodes.slots r ≤ stamp_in nodes.slots h)

-- the finished node in slot k gives way to the latest
pub record GivesWay (nodes : Nodes) (events : List Event) (going firsts : List (Option ℕ)) (k : ℕ) (heir : Heir) : Type 0 where
  pub finished : IsTrue (is_finished_in nodes.slots k)
  pub latest : IsLatest nodes going firsts (thread_in nodes events k) k MAX_THREADS (Some heir.step.slot)
  pub other : heir.step.slot ≢ k
  pub of : heir.of ≡ stamp_in nodes.slots k
  pub stamp : heir.step.stamp ≡ stamp_in nodes.slots heir.step.slot

-- if the node in slot k has finished, it is the latest itself, or there is none
pub record Stays (nodes : Nodes) (events : List Event) (going firsts : List (Option ℕ)) (k : ℕ) : Type 0 where
  pub latest : Option ℕ
  pub is : IsTrue (is_finished_in nodes.slots k) → IsLatest nodes going firsts (thread_in nodes events k) k MAX_THREADS latest
  pub itself : ForSome latest (λ h. h ≡ k)

abbrev pub IsHeirOf : Nodes → List Event → List (Option ℕ) → List (Option ℕ) → ℕ → Option Heir → Type 0
IsHeirOf nodes events going firsts k None = Stays nodes events going firsts k
IsHeirOf nodes events going firsts k (Some heir) = GivesWay nodes events going firsts k heir

-- each slot has the heir of its node, if the node gives way
pub record AreHeirs (nodes : Nodes) (events : List Event) (heirs : List (Option Heir)) : Type 0 where
  pub going : List (Option ℕ)
  pub firsts : List (Option ℕ)
  pub are_going : AreGoing nodes events going (limit_of nodes.slots)
  pub are_firsts : AreFirsts nodes events going firsts (limit_of nodes.slots) 0
  pub each : (k : ℕ) → IsHeirOf nodes events going firsts k (heir_in heirs k)
