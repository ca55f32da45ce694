-- The threads that a wanted thing leads to. Private contracts cite these words.
use Rattle.std.specs.Prelude.{◌≡◌, ℕ, List, Option, Some, None, IsTrue}
use Rattle.velo_events.specs.declared.event.Event.{Event}
use Rattle.velo_events.specs.declared.event.ThreadId.{ThreadId}
use Rattle.velo_events.specs.declared.thread_set.ThreadSet.{ThreadSet}
use Rattle.velo_events.specs.ThreadSets.{has_thread, no_threads, with_thread}
use Rattle.velo_runtime.specs.declared.wait.Wanted.{Wanted}
use Rattle.velo_runtime.specs.Waits.{Leads}

-- the thread, if there is one
abbrev pub set_of : Option ThreadId → ThreadSet
set_of None = no_threads
set_of (Some t) = with_thread t no_threads

-- exactly the threads that the wanted thing leads to are members
pub record AreLeads (log : List Event) (wanted : Wanted) (threads : ThreadSet) : Type 0 where
  pub each : (t : ℕ) → IsTrue (has_thread threads t) → Leads log wanted t
  pub every : (t : ℕ) → Leads log wanted t → IsTrue (has_thread threads t)

-- exactly the threads that what is waited for leads to, if something is, are members
pub record AreNextLeads (log : List Event) (wait : Option Wanted) (threads : ThreadSet) : Type 0 where
  pub each : (t : ℕ) → IsTrue (has_thread threads t) → (wanted : Wanted) × (wait ≡ Some wanted) × Leads log wanted t
  pub every : (wanted : Wanted) (t : ℕ) → wait ≡ Some wanted → Leads log wanted t → IsTrue (has_thread threads t)
