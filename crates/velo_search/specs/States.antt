-- The logs that a state of the search stands for.
use Rattle.std.specs.Prelude.{◌≡◌, List}
use Rattle.velo_events.specs.declared.event.Event.{Event}
use Rattle.velo_events.specs.Tally.{events_of}
use Rattle.velo_heap.specs.Contents.{Tabulates, IsHeapOf}
use Rattle.velo_search.specs.declared.state.State.{State}
use Rattle.velo_search.specs.Summary.{IsSummaryOf}
use Rattle.velo_search.specs.Kept.{summary_of, AreSame}

pub record IsStateOf (rest : List Event → List Event) (log : List Event) (state : State) : Type 0 where
  -- the log is well-formed, and its values, statuses, depths and holders are those of the heap
  pub heap : IsHeapOf state.heap log
  -- how many events each thread has done
  pub next : Tabulates state.next.items (events_of log)
  -- of what is left of the log whether there is a cycle, and else which unfinished transactions reach which groups
  pub graph : IsSummaryOf (rest log) (summary_of state.marks)

-- they are the same, wherever they come from
pub record AreSameStates (one other : State) : Type 0 where
  pub next : one.next.items ≡ other.next.items
  pub heap : one.heap ≡ other.heap
  pub marks : AreSame one.marks other.marks
