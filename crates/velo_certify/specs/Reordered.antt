-- What reorderings leave as it was.
use Rattle.std.specs.Prelude.{◌≡◌, ℕ, List}
use Rattle.velo_events.specs.declared.event.Event.{Event}
use Rattle.velo_events.specs.Heap.{value_in, holder_in, shares_in, status_in, depth_in}

-- one list of events leaves each variable, lock and thread as the other does
pub record LeavesSameHeap (old new : List Event) : Type 0 where
  pub values : (x : ℕ) → value_in new x ≡ value_in old x
  pub holders : (m : ℕ) → holder_in new m ≡ holder_in old m
  pub sharers : (m t : ℕ) → shares_in new m t ≡ shares_in old m t
  pub statuses : (t : ℕ) → status_in new t ≡ status_in old t
  pub depths : (t : ℕ) → depth_in new t ≡ depth_in old t
