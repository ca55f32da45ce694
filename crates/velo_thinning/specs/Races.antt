-- Variables that are free of races: locks, forks and joins keep all accesses to them in order.
use Rattle.std.specs.Prelude.{◌≡◌, ℕ, ◌<◌, Bool, true, false, List, Some, length, IsTrue, All, ◌⊎◌, ◌↔◌}
use Rattle.velo_events.specs.declared.config.Bounds.{Bounds}
use Rattle.velo_events.specs.declared.event.Event.{Event}
use Rattle.velo_events.specs.declared.event.Kind.{Kind}
use Rattle.velo_events.specs.declared.event.Kind.TheVariants.{Read, Write, Begin, End}
use Rattle.velo_events.specs.Event.{are_same, variable_of}
use Rattle.velo_events.specs.Block.{passes_at}
use Rattle.velo_events.specs.Graph.{Path, ConflictsInOrder, HasCycle}
use Rattle.velo_filter.specs.declared.thinned.Thinned.{Thinned}
use Rattle.velo_filter.specs.Left.{places_of, rest_of}
use Rattle.velo_laws.specs.Ordered.{only, dissolving, leaving_out, AreOfOneThread, IsOrderedWithin, ClosesAtSame, ClosesAtSameWithout, BlamesSame}

-- ---- races

-- the operation is on a lock, or is a fork, a join or an exit
abbrev pub is_synchronizing : Kind → Bool
is_synchronizing (Read x v) = false
is_synchronizing (Write x v) = false
is_synchronizing (Begin l) = false
is_synchronizing End = false
is_synchronizing _ = true

abbrev pub synchronizes : Event → Bool
synchronizes e = is_synchronizing e.kind

abbrev pub is_access_to : ℕ → Event → Bool
is_access_to x e = are_same (variable_of e.kind) (Some x)

-- both positions are of one thread, or a chain of conflicts leads from one to the other over events that synchronize
abbrev pub AreSynchronized : List Event → ℕ → ℕ → Type 0
AreSynchronized log i j =
    AreOfOneThread log i j
    ⊎ ((between : List ℕ) × (0 < length between)
    × All (λ k. IsTrue (passes_at log synchronizes k)) between × Path (ConflictsInOrder log) i between j)

-- any two accesses to the variable that conflict are so
abbrev pub IsFreeOfRaces : List Event → ℕ → Type 0
IsFreeOfRaces log x =
    (i j : ℕ) → IsTrue (passes_at log (is_access_to x) i)
    → IsTrue (passes_at log (is_access_to x) j) → ConflictsInOrder log i j → AreSynchronized log i j

-- ---- what is left without some variables

-- every lock stays
abbrev pub no_lock : ℕ → Bool
no_lock m = false

-- The log is judged the same without the accesses to these variables: it has a cycle where what is left has one, the same
-- event closes the first one, and the same blocks are to blame; and so it is whichever labels are left out as well
pub record IsJudgedWithout (variables : ℕ → Bool) (log : List Event) : Type 0 where
  pub cycles : HasCycle log ↔ HasCycle (rest_of (only no_lock variables) log)
  pub closes : ClosesAtSame (only no_lock variables) log
  pub blame : BlamesSame (only no_lock variables) log
  pub cycles_without : (labels : ℕ → Bool)
      → HasCycle (rest_of (dissolving labels) log)
      ↔ HasCycle (rest_of (leaving_out labels no_lock variables) log)
  pub closes_without : (labels : ℕ → Bool)
      → ClosesAtSameWithout labels (leaving_out labels no_lock variables) log
  pub blame_without : (labels : ℕ → Bool)
      → BlamesSame (only no_lock variables) (rest_of (dissolving labels) log)

-- The events that are left without the accesses to some variables, with the position of each in the log. The log is judged the
-- same without them, and each variable that is free of races is one of these
pub record IsThinned (bounds : Bounds) (log : List Event) (thinned : Thinned) : Type 0 where
  pub variables : ℕ → Bool
  pub events : thinned.trace.events ≡ rest_of (only no_lock variables) log
  pub places : thinned.places.items ≡ places_of (only no_lock variables) log
  pub ordered : IsOrderedWithin (only no_lock variables) log
  pub judged : IsJudgedWithout variables log
  pub free : (x : ℕ) → x < bounds.variables → IsFreeOfRaces log x → IsTrue (variables x)
