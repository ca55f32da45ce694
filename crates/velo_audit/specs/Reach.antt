-- How far back one thread is known to events of others that interrupt it. Private contracts cite these words.
use Rattle.std.specs.Prelude.{◌≡◌, ℕ, ◌<◌, ◌≤◌, List, Some, slice_get, IsTrue, IsFalse}
use Rattle.velo_events.specs.declared.event.Event.{Event}
use Rattle.velo_events.specs.Event.{thread_of, is_by}
use Rattle.velo_events.specs.Conflict.{conflict}
use Rattle.velo_events.specs.Block.{passes_at}
use Rattle.velo_traces.specs.Numbers.{Rows, HasNumbers}
use Rattle.velo_blame.specs.Known.{IsOwnBefore, IsKnown, IsEndOf, KnowsUpTo, is_by_others}

-- An event of another thread, which is from position k of thread t, conflicts with a later one of t, and this is before n
pub record IsBroken (log : List Event) (t n k : ℕ) : Type 0 where
  pub place : ℕ
  pub event : Event
  pub before : place < n
  pub here : slice_get log place ≡ Some event
  pub own : thread_of event ≡ t
  pub known : IsKnown log t place (is_by_others t (λ f. conflict f event)) k

-- the table has, of each event of another thread before n, the last position of t that it knows, plus one
pub record OthersKnowUpTo (log : List Event) (t n : ℕ) (table : Rows) : Type 0 where
  pub numbers : ℕ → ℕ
  pub each : (i : ℕ) → i < n → IsFalse (passes_at log (is_by t) i) → IsEndOf (IsOwnBefore log t i) (numbers i)
  pub own_none : (i : ℕ) → IsTrue (passes_at log (is_by t) i) → numbers i ≡ 0
  pub none_later : (i : ℕ) → n ≤ i → numbers i ≡ 0
  pub has : HasNumbers log numbers table

-- what is known of thread t before position n
pub record ReachesUpTo (log : List Event) (t n : ℕ) (known others : Rows) (bound : ℕ) : Type 0 where
  pub knows : KnowsUpTo log t n known
  pub others_know : OthersKnowUpTo log t n others
  pub is_bound : IsEndOf (IsBroken log t n) bound
