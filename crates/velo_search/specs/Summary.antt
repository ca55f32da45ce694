-- What a search keeps of the graph of a log: which unfinished transactions reach which groups of events. Nothing else tells
-- whether a later event closes a first cycle.
use Rattle.std.specs.Prelude.{◌≢◌, ℕ, Bool, true, false, not, ◌&&◌, ◌||◌, ◌==◌, if◌then◌else◌, List, [], ◌∷◌, ◌++◌, IsTrue, IsFalse, ◌↔◌}
use Rattle.std.specs.List.{list_any}
use Rattle.velo_events.specs.declared.event.Event.{Event}
use Rattle.velo_events.specs.Event.{thread_of, is_by}
use Rattle.velo_events.specs.Heap.{depth_in}
use Rattle.velo_events.specs.Block.{passes_at, owner, IsUnfinished}
use Rattle.velo_events.specs.Graph.{Edge, Reaches, HasCycle}
use Rattle.velo_search.specs.declared.group.Group.{Group}
use Rattle.velo_search.specs.Groups.{is_in, looks_at}

-- ---- what a log says of a thread and a group

-- transaction a is unfinished, and of thread u
pub record IsUnfinishedOf (log : List Event) (u a : ℕ) : Type 0 where
  pub unfinished : IsUnfinished log a
  pub own : IsTrue (passes_at log (is_by u) a)

-- the unfinished transaction of thread u reaches that of an event of the group
pub record Reaching (log : List Event) (group : Group) (u : ℕ) : Type 0 where
  pub at : ℕ
  pub member : IsTrue (passes_at log (λ f. is_in f group) at)
  pub from : ℕ
  pub of_thread : IsUnfinishedOf log u from
  pub reaches : Reaches (Edge log) from (owner log at)

-- and this is another transaction
pub record ReachingAnother (log : List Event) (group : Group) (u : ℕ) : Type 0 where
  pub reaching : Reaching log group u
  pub differ : reaching.from ≢ owner log reaching.at

-- ---- the summary

pub record Summary : Type 0 where
  -- there is a cycle
  pub alarmed : Bool
  -- the unfinished transaction of the thread reaches that of an event of the group
  pub reached : Group → ℕ → Bool
  -- and this is another transaction
  pub beyond : Group → ℕ → Bool

-- With a cycle nothing is said of the groups
pub record IsSummaryOf (log : List Event) (s : Summary) : Type 0 where
  pub alarmed : IsTrue s.alarmed ↔ HasCycle log
  pub reached : IsFalse s.alarmed → (g : Group) (u : ℕ) → IsTrue (s.reached g u) ↔ Reaching log g u
  pub beyond : IsFalse s.alarmed → (g : Group) (u : ℕ) → IsTrue (s.beyond g u) ↔ ReachingAnother log g u

-- of no event
abbrev pub blank : Summary
blank = record { alarmed = false; reached = λ g u. false; beyond = λ g u. false }

-- of a log with a cycle
abbrev pub alarm : Summary
alarm = record { alarmed = true; reached = λ g u. false; beyond = λ g u. false }

-- ---- one more event

-- the unfinished transaction of thread u reaches that of an event of a group that the event looks at
abbrev pub is_behind : Summary → Event → ℕ → Bool
is_behind s e u = list_any (λ g. s.reached g u) (looks_at e)

-- and this is another transaction
abbrev pub is_beyond : Summary → Event → ℕ → Bool
is_beyond s e u = list_any (λ g. s.beyond g u) (looks_at e)

-- the event closes a cycle: its own thread is beyond it
abbrev pub closes_cycle : Summary → Event → Bool
closes_cycle s e = is_beyond s e (thread_of e)

-- the event is in the group, or its thread's unfinished transaction reaches an event of the group
abbrev pub leads_to : Summary → Event → Group → Bool
leads_to s e g = is_in e g || s.reached g (thread_of e)

-- Thread u has not ended its outermost block by the event: `inside` says whether the event's thread has a block open after it
abbrev pub has_not_ended : Bool → Event → ℕ → Bool
has_not_ended inside e u = inside || not (is_by u e)

-- what the event leads to is reached by its thread, and by who is behind the event
abbrev pub reached_after : Bool → Summary → Event → Group → ℕ → Bool
reached_after inside s e g u = has_not_ended inside e u && (s.reached g u || (leads_to s e g && (is_by u e || is_behind s e u)))

-- by who is behind the event, as that of another
abbrev pub beyond_after : Bool → Summary → Event → Group → ℕ → Bool
beyond_after inside s e g u = has_not_ended inside e u && (s.beyond g u || (leads_to s e g && (not (is_by u e) && is_behind s e u)))

abbrev pub step : Bool → Summary → Event → Summary
step inside s e =
    if s.alarmed || closes_cycle s e then alarm
    else record { alarmed = false; reached = reached_after inside s e; beyond = beyond_after inside s e }

-- the thread of the event has a block open after it
abbrev pub is_inside : List Event → Event → Bool
is_inside log e = not (depth_in (log ++ e ∷ []) (thread_of e) == 0)
